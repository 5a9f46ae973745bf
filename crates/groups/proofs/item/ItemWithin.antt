-- What an item occupies lies within the bytes: its label, and then its length and value.
use mathlib.Core.Path.{◌≡◌, refl, ap}
use mathlib.Core.List.{List, ◌++◌}
use mathlib.Core.Bool.{false}
use Prim.Native.Nat.{ℕ, ◌+◌, ◌-◌, ◌<◌, ◌≤◌, min}
use native.Mathlib.Omega.{arith}
use native.Mathlib.Decide.{dec_le}
use lib.Dec.{leb, ltb, eqb}
use lib.ListN.{length, take, replicate, length-take}
use borrow.Author.Tests.{ltb-true, ltb-false}
use Rattle.std.specs.Prelude.{Ok, Err}
use Rattle.klv.specs.Key.{is_key, key_at, before_zero}
use Rattle.klv.specs.Layout.{read_as}
use Rattle.klv.specs.declared.layout.Form.{Form}
use Rattle.klv.specs.declared.layout.Form.TheVariants.{Ber}
use Rattle.klv.specs.Number.{Read}
use Rattle.klv.specs.declared.layout.NumberError.TheVariants.{Missing, Malformed}
use Rattle.std.specs.Prelude.{Err}
use Rattle.klv.proofs.Cases.{test_cases, absurd_number}
use Rattle.klv.proofs.LayoutLaws.{read_within}
use Rattle.klv.proofs.KeyLaws.{key_at_whole, key_at_cut}
use Rattle.groups.specs.declared.kind.Kind.{Kind}
use Rattle.groups.specs.declared.kind.Kind.TheVariants.{Universal, Global, Local, Variable, Defined, NoGroup}
use Rattle.std.specs.Prelude.{Option, Some, None, Ok, Err}
use Rattle.groups.specs.declared.label.LabelError.TheVariants.{CutOff}
use Rattle.groups.specs.declared.label.LabelError.TheVariants as label_error
use Rattle.groups.specs.declared.label.Label.{Label}
use Rattle.groups.specs.Root.{label_of, join, global_label}
use Rattle.groups.specs.Tables.{Table, tag_index}
use Rattle.groups.specs.Label.{key_label, listed, looked_up, read_label}
use Rattle.groups.specs.Span.{spanned, read_span}
use Rattle.groups.proofs.span.WithinLaws.{length_within_law}
use Rattle.groups.proofs.span.ElementLaws.{element_within}

-- ---- labels

-- a label is a width and a key
pub label_parts : (w : ℕ) (k : List ℕ) (x : Label) → label_of w k ≡ Ok x → (w ≡ x.width) × (k ≡ x.key)
label_parts w k x e =
    let y : Label = record { width = w; key = k } in
    let h : y ≡ x = cc in
    (ap (λ (z : Label). z.width) h, ap (λ (z : Label). z.key) h)

key_within : (l : List ℕ) (x : Label) → key_label (key_at l) ≡ Ok x → x.width ≤ length l
key_within l x e =
    elim (dec_le 16 (length l)) [
      | yes h ↦
          let f : key_label (Some (take 16 l)) ≡ Ok x = rw (key_at_whole l h) at e in
          test_cases (is_key (take 16 l))
          (λ t. let g : label_of 16 (take 16 l) ≡ Ok x = rw t at f in let q : 16 ≡ x.width = (label_parts 16 (take 16 l) x g).0 in omega arith)
          (λ t. let g : Err label_error.Malformed ≡ Ok x = rw t at f in absurd_number (cc))
      | no h ↦ let f : Err CutOff ≡ Ok x = rw (key_at_cut l (omega arith)) at e in absurd_number (cc)
    ]

join_width : (root tag : List ℕ) (w : ℕ) (x : Label) → join root tag w ≡ Ok x → w ≡ x.width
unfolding join
join_width root tag w x e =
    let k : List ℕ = root ++ (tag ++ replicate (16 - (length root + length tag)) 0x00) in
    test_cases (leb (length root + length tag) 16)
    (λ t. test_cases (is_key (root ++ (tag ++ replicate (16 - (length root + length tag)) 0x00)))
    (λ u. let g : label_of w k ≡ Ok x = rw (t, u) at e in (label_parts w k x g).0)
    (λ u. let g : Err label_error.Malformed ≡ Ok x = rw (t, u) at e in absurd_number (cc)))
    (λ t. let g : Err label_error.Malformed ≡ Ok x = rw t at e in absurd_number (cc))

global_within : (root l : List ℕ) (x : Label) → global_label root l ≡ Ok x → x.width ≤ length l
unfolding global_label
global_within root l x e =
    let n : ℕ = before_zero false (take 12 l) in
    let m : length (take 12 l) ≡ min 12 (length l) = length-take 12 l in
    test_cases (ltb (before_zero false (take 12 l)) (length (take 12 l)))
    (λ t. let h : before_zero false (take 12 l) < length (take 12 l) = ltb-true (before_zero false (take 12 l)) (length (take 12 l)) t in
    test_cases (eqb (before_zero false (take 12 l)) 0)
    (λ u. let g : Err label_error.Malformed ≡ Ok x = rw (t, u) at e in absurd_number (cc))
    (λ u. let q : before_zero false (take 12 l) + 1 ≡ x.width = join_width root (take (before_zero false (take 12 l)) l) (before_zero false (take 12 l) + 1) x (rw (t, u) at e) in omega arith))
    (λ t. test_cases (ltb (length l) 12)
    (λ u. let g : Err CutOff ≡ Ok x = rw (t, u) at e in absurd_number (cc))
    (λ u. let q : 12 ≡ x.width = join_width root (take 12 l) 12 x (rw (t, u) at e) in let h : 12 ≤ length l = ltb-false (length l) 12 u in omega arith))

listed_width : (tags : Table) (w : ℕ) (x : Label) (r : Option ℕ) → listed tags w r ≡ Ok x → w ≡ x.width
listed_width tags w x (Some i) e = (label_parts w (tags.row i).key x e).0
listed_width tags w x None e = absurd_number (cc)

tag_within : (tags : Table) (find : ℕ → Option ℕ) (f : Form) (l : List ℕ) (x : Label) (n : Read) → read_as f l ≡ n → looked_up tags find n ≡ Ok x → x.width ≤ length l
tag_within tags find f l x (Ok n) h e =
    let q : n.width ≡ x.width = listed_width tags n.width x (find n.value) e in
    omega (arith, (read_within f l n.value n.width h).1)
tag_within tags find f l x (Err Missing) h e = absurd_number (cc)
tag_within tags find f l x (Err Malformed) h e = absurd_number (cc)

-- a label that was read stands within the bytes
pub label_within : (kd : Kind) (root : List ℕ) (tags packs : Table) (place : ℕ) (l : List ℕ) (x : Label) → read_label kd root tags packs place l ≡ Ok x → x.width ≤ length l
unfolding read_label
label_within Universal root tags packs place l x e = key_within l x e
label_within (Global y) root tags packs place l x e = global_within root l x e
label_within (Local t y) root tags packs place l x e = tag_within tags (tag_index tags) t.form l x (read_as t.form l) refl e
label_within (Variable y) root tags packs place l x e = let q : 0 ≡ x.width = (label_parts 0 (packs.row place).key x e).0 in omega arith
label_within Defined root tags packs place l x e = let q : 0 ≡ x.width = (label_parts 0 (packs.row place).key x e).0 in omega arith
label_within NoGroup root tags packs place l x e = absurd_number (cc)

-- ---- spans

-- a span that was read stands within the bytes
pub span_within : (kd : Kind) (packs : Table) (place : ℕ) (l : List ℕ) (w n : ℕ) → read_span kd packs place l ≡ spanned w n → w + n ≤ length l
unfolding read_span
span_within Universal packs place l w n e = length_within_law Ber l w n e
span_within (Global y) packs place l w n e = length_within_law y.form l w n e
span_within (Local t y) packs place l w n e = length_within_law y.form l w n e
span_within (Variable y) packs place l w n e = length_within_law y.form l w n e
span_within Defined packs place l w n e = element_within (packs.row place).number l w n e
span_within NoGroup packs place l w n e = absurd_number (cc)
