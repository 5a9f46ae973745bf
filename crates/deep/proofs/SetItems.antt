-- An item read in a universal or local set: its length has at least one byte, and its key sixteen.
use mathlib.Core.Path.{◌≡◌, refl, sym, ◌∙◌}
use mathlib.Core.Bool.{true, false≢true}
use mathlib.Core.List.{List}
use Prim.Native.Nat.{ℕ, ◌*◌, ◌<◌}
use native.Mathlib.Omega.{arith}
use native.Mathlib.Decide.{dec_le}
use lib.ListN.{length, drop}
use lib.Seq.{length-take-le}
use Rattle.std.specs.Prelude.{Option, Some, None, Result, Ok, Err}
use Rattle.klv.specs.Key.{is_key, key_at, key_or_zeros}
use Rattle.klv.specs.Layout.{read_as}
use Rattle.klv.specs.declared.layout.Form.{Form}
use Rattle.klv.specs.declared.layout.Form.TheVariants.{Ber}
use Rattle.klv.specs.Number.{Read}
use Rattle.klv.specs.declared.layout.NumberError.TheVariants.{Missing, Malformed}
use Rattle.klv.proofs.Cases.{absurd_number, test_cases}
use Rattle.klv.proofs.KeyLaws.{key_size, key_or_zeros_whole, key_or_zeros_cut}
use Rattle.klv.proofs.LayoutLaws.{read_within}
use Rattle.groups.specs.declared.kind.Kind.{Kind}
use Rattle.groups.specs.declared.kind.Kind.TheVariants.{Universal, Global, Local, Variable, Defined, NoGroup}
use Rattle.groups.specs.declared.label.Label.{Label}
use Rattle.groups.specs.declared.label.LabelError.{LabelError}
use Rattle.groups.specs.declared.label.LabelError.TheVariants as label_error
use Rattle.groups.specs.declared.span.Span.{Span}
use Rattle.groups.specs.Refusal as plain
use Rattle.groups.specs.Kind.{kind_of}
use Rattle.groups.specs.Tables.{Table, table_of, row_at, tag_index}
use Rattle.groups.specs.Root.{label_of}
use Rattle.groups.specs.Label.{key_label, listed, tag_label, read_label}
use Rattle.groups.specs.Span.{spanned, within, read_span}
use Rattle.groups.specs.Read.{Entry, Under, under, entry, after_span, after_label, read_item}
use Rattle.groups.proofs.span.WithinLaws.{span_told_law}
use Rattle.deep.specs.Tree.{opens}

-- ---- what an item is made of

pub record ItemTold (u : Under) (place : ℕ) (l : List ℕ) (e : Entry) : Type 0 where
  pub found : Label
  pub w : ℕ
  pub n : ℕ
  pub label : read_label u.kind u.root u.tags u.packs place l ≡ Ok found
  pub span : read_span u.kind u.packs place (drop found.width l) ≡ spanned w n
  pub is : e ≡ entry l found.key found.width w n

told_span : (u : Under) (place : ℕ) (l : List ℕ) (x : Label) (y : Option Span) (e : Entry)
    → read_label u.kind u.root u.tags u.packs place l ≡ Ok x
    → read_span u.kind u.packs place (drop x.width l) ≡ y
    → after_span l x.key x.width y place ≡ plain.ok e → ItemTold u place l e
told_span u place l x (Some span) e f s q =
    record { found = x; w = span.width; n = span.length; label = f; span = s; is = (let z : entry l x.key x.width span.width span.length ≡ e = cc in sym z) }
told_span u place l x None e f s q = absurd_number (cc)

told_label : (u : Under) (place : ℕ) (l : List ℕ) (f : Result Label LabelError) (e : Entry)
    → read_label u.kind u.root u.tags u.packs place l ≡ f
    → after_label u place l f ≡ plain.ok e → ItemTold u place l e
told_label u place l (Ok x) e f q = told_span u place l x (read_span u.kind u.packs place (drop x.width l)) e f refl q
told_label u place l (Err why) e f q = absurd_number (cc)

-- an item that was read has a label and a span
pub item_told : (u : Under) (place : ℕ) (l : List ℕ) (e : Entry) → read_item u place l ≡ plain.ok e → ItemTold u place l e
unfolding read_item
item_told u place l e q = told_label u place l (read_label u.kind u.root u.tags u.packs place l) e refl q

-- ---- its length

within_width : (f : Form) (l : List ℕ) (left w n : ℕ) (x : Read) → read_as f l ≡ x → within left x ≡ spanned w n → 0 < w
within_width f l left w n x h e = (read_within f l n w (h ∙ (span_told_law left w n x e).0)).0

span_width : (d : Kind) (packs : Table) (place : ℕ) (l : List ℕ) (w n : ℕ) → opens d ≡ true → read_span d packs place l ≡ spanned w n → 0 < w
unfolding read_span
span_width Universal packs place l w n o e = within_width Ber l (length l) w n (read_as Ber l) refl e
span_width (Global y) packs place l w n o e = absurd (false≢true o)
span_width (Local t y) packs place l w n o e = within_width y.form l (length l) w n (read_as y.form l) refl e
span_width (Variable y) packs place l w n o e = absurd (false≢true o)
span_width Defined packs place l w n o e = absurd (false≢true o)
span_width NoGroup packs place l w n o e = absurd (false≢true o)

-- the length of a set's item has a byte
pub set_width : (u : Under) (place : ℕ) (l : List ℕ) (e : Entry) → opens u.kind ≡ true → read_item u place l ≡ plain.ok e → 0 < e.width
set_width u place l e o q =
    let t = item_told u place l e q in
    rw t.is (span_width u.kind u.packs place (drop t.found.width l) t.w t.n o t.span)

-- ---- its key

key_or_zeros_size : (l : List ℕ) → length (key_or_zeros l) ≡ 16
key_or_zeros_size l =
    elim (dec_le 16 (length l)) [
      | yes h ↦ rw (key_or_zeros_whole l h) (length-take-le 16 l h)
      | no h ↦ rw (key_or_zeros_cut l (omega arith)) refl
    ]

-- a record's key has sixteen bytes
pub row_size : (tags : List ℕ) (i : ℕ) → length ((table_of tags).row i).key ≡ 16
unfolding table_of row_at
row_size tags i = key_or_zeros_size (drop 4 (drop (i * 20) tags))

key_label_size : (m : Option (List ℕ)) (x : Label) → key_label m ≡ Ok x → length x.key ≡ 16
key_label_size (Some k) x e =
    test_cases (is_key k)
    (λ s.
    let g : label_of 16 k ≡ Ok x = rw s at e in
    let z : record { width = 16; key = k } ≡ x = cc in
    rw (← z) (key_size k s))
    (λ s. let g : Err label_error.Malformed ≡ Ok x = rw s at e in absurd_number (cc))
key_label_size None x e = absurd_number (cc)

listed_size : (tags : Table) (w : ℕ) (o : Option ℕ) (x : Label) → ((i : ℕ) → length (tags.row i).key ≡ 16) → listed tags w o ≡ Ok x → length x.key ≡ 16
listed_size tags w (Some i) x h e = let z : record { width = w; key = (tags.row i).key } ≡ x = cc in rw (← z) (h i)
listed_size tags w None x h e = absurd_number (cc)

tag_size : (tags : Table) (m : Read) (x : Label) → ((i : ℕ) → length (tags.row i).key ≡ 16) → tag_label tags m ≡ Ok x → length x.key ≡ 16
tag_size tags (Ok n) x h e = listed_size tags n.width (tag_index tags n.value) x h e
tag_size tags (Err Missing) x h e = absurd_number (cc)
tag_size tags (Err Malformed) x h e = absurd_number (cc)

label_size : (d : Kind) (root : List ℕ) (tags packs : Table) (place : ℕ) (l : List ℕ) (x : Label) → opens d ≡ true → ((i : ℕ) → length (tags.row i).key ≡ 16)
    → read_label d root tags packs place l ≡ Ok x → length x.key ≡ 16
unfolding read_label
label_size Universal root tags packs place l x o h e = key_label_size (key_at l) x e
label_size (Global y) root tags packs place l x o h e = absurd (false≢true o)
label_size (Local t y) root tags packs place l x o h e = tag_size tags (read_as t.form l) x h e
label_size (Variable y) root tags packs place l x o h e = absurd (false≢true o)
label_size Defined root tags packs place l x o h e = absurd (false≢true o)
label_size NoGroup root tags packs place l x o h e = absurd (false≢true o)

-- the key of a set's item has sixteen bytes
pub set_key_law : (u : Under) (tags : List ℕ) (place : ℕ) (l : List ℕ) (e : Entry) → opens u.kind ≡ true → u.tags ≡ table_of tags → read_item u place l ≡ plain.ok e
    → length e.key ≡ 16
set_key_law u tags place l e o g q =
    let t = item_told u place l e q in
    rw t.is (label_size u.kind u.root u.tags u.packs place l t.found o (λ i. rw g (row_size tags i)) t.label)

-- ---- what a set is read under

pub under_kind : (k tags packs : List ℕ) → (under k tags packs).kind ≡ kind_of k
unfolding under
under_kind k tags packs = refl

pub under_tags : (k tags packs : List ℕ) → (under k tags packs).tags ≡ table_of tags
unfolding under
under_tags k tags packs = refl
