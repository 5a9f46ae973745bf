-- Modules `label` and `span`: each fact in the shape of its need.
use mathlib.Core.Path.{◌≡◌, refl, sym, ap, ◌∙◌}
use mathlib.Core.List.{List}
use mathlib.Core.Bool.{Bool, true, false, false≢true}
use Prim.Native.Nat.{ℕ}
use lib.ListN.{length}
use Rattle.std.specs.Prelude.{Result, Err, Option}
use Rattle.klv.specs.Compact.{compact_of, compact_read}
use Rattle.klv.specs.Layout.{read_as}
use Rattle.klv.specs.declared.compact.Compact.{Compact}
use Rattle.klv.specs.declared.layout.Form.{Form}
use Rattle.klv.specs.declared.layout.Form.TheVariants.{Ber}
use Rattle.klv.specs.declared.layout.Layout.{Layout}
use Rattle.klv.specs.Number.{Read}
use Rattle.klv.specs.declared.layout.NumberError.TheVariants.{Missing, Malformed}
use Rattle.std.specs.Prelude.{Ok, Err}
use Rattle.klv.proofs.CompactLaws.{compact_read_law}
use Rattle.groups.specs.declared.kind.Kind.{Kind}
use Rattle.groups.specs.declared.kind.Kind.TheVariants.{Universal, Global, Local, Variable, Defined, NoGroup}
use Rattle.groups.specs.declared.label.Label.{Label}
use Rattle.groups.specs.declared.label.LabelError.{LabelError}
use Rattle.groups.specs.declared.label.LabelError.TheVariants.{Unlisted}
use Rattle.std.specs.Prelude.{Option, Some, None}
use Rattle.groups.specs.declared.span.Span.{Span}
use Rattle.groups.specs.Kind.{is_bound, is_group}
use Rattle.groups.specs.Coded.{compact_lengths, compact_tags}
use Rattle.groups.specs.Tables.{Table, table_of, find_tag, tag_table_ok}
use Rattle.groups.proofs.kind.KindLaws.{bound_defined}
use Rattle.groups.proofs.tables.HalvingLaws.{find_tag_law}
use Rattle.groups.specs.Label.{listed, tag_label, found_label, read_label}
use Rattle.groups.specs.Span.{within, element_span, read_span}
use Rattle.groups.specs.Root.{label_of}

-- ---- a tag as label

pub tag_found : (t : List ℕ) (guess v w i : ℕ) (r : Option ℕ) (k : List ℕ) → r ≡ find_tag (table_of t) guess v → r ≡ Some i → k ≡ ((table_of t).row i).key
    → label_of w k ≡ listed (table_of t) w (find_tag (table_of t) guess v)
tag_found t guess v w i r k g h z = rw (← g, h) (ap (λ (b : List ℕ). label_of w b) z)

pub tag_unlisted : (t : List ℕ) (guess v w : ℕ) (r : Option ℕ) (z : Result Label LabelError) → r ≡ find_tag (table_of t) guess v → r ≡ None → z ≡ Err Unlisted
    → z ≡ listed (table_of t) w (find_tag (table_of t) guess v)
tag_unlisted t guess v w r z g h q = rw (← g, h) q

-- under a valid table the tag is looked up
pub found_tag : (t : List ℕ) (guess : ℕ) (x : Read) → tag_table_ok t ≡ true → found_label (table_of t) guess x ≡ tag_label (table_of t) x
found_tag t guess (Ok n) h = ap (listed (table_of t) n.width) (find_tag_law t guess n.value h)
found_tag t guess (Err Missing) h = refl
found_tag t guess (Err Malformed) h = refl

-- ---- what holds of the kind x that a `match` found holds of the group's kind

pub label_kind : (kd x : Kind) (root : List ℕ) (tags packs : Table) (place : ℕ) (l : List ℕ) (r : Result Label LabelError) → kd ≡ x → r ≡ read_label x root tags packs place l
    → r ≡ read_label kd root tags packs place l
label_kind kd x root tags packs place l r h e = rw h e

pub label_local : (kd : Kind) (y z : Layout) (c : Compact) (root tags : List ℕ) (packs : Table) (place : ℕ) (l : List ℕ) (r : Result Label LabelError) → kd ≡ Local y z → c ≡ compact_tags kd
    → r ≡ found_label (table_of tags) place (compact_read c l) → tag_table_ok tags ≡ true → r ≡ read_label kd root (table_of tags) packs place l
unfolding read_label compact_tags
label_local kd y z c root tags packs place l r h o e v =
    let q : c ≡ compact_of y.form = rw h at o in
    rw h (e ∙ ap (found_label (table_of tags) place) (compact_read_law y.form c l q) ∙ found_tag tags place (read_as y.form l) v)

-- ---- spans

length_kind : (x : Kind) (packs : Table) (place : ℕ) (l : List ℕ) (r : Option Span) (c : Compact) → is_bound x ≡ false → is_group x ≡ true → c ≡ compact_lengths x
    → ((f : Form) → c ≡ compact_of f → r ≡ within (length l) (read_as f l)) → r ≡ read_span x packs place l
unfolding read_span compact_lengths
length_kind Universal packs place l r c q i u f = f Ber u
length_kind (Global y) packs place l r c q i u f = f y.form u
length_kind (Local y z) packs place l r c q i u f = f z.form u
length_kind (Variable y) packs place l r c q i u f = f y.form u
length_kind Defined packs place l r c q i u f = absurd (false≢true (sym q))
length_kind NoGroup packs place l r c q i u f = absurd (false≢true i)

-- a span whose length the record gives, and one whose length is read
module _ (kd : Kind) (packs : Table) (place : ℕ) (l : List ℕ) (r : Option Span) (bound : Bool) (b : bound ≡ is_bound kd) where
  pub span_column : (v : ℕ) → r ≡ element_span v l → v ≡ (packs.row place).number → bound ≡ true → r ≡ read_span kd packs place l
  unfolding read_span
  span_column v e g t = rw (bound_defined kd (sym b ∙ t), ← g) e

  pub span_within : (rest : ℕ) (c : Compact) (n : Read) → rest ≡ length l → r ≡ within rest n → n ≡ compact_read c l → c ≡ compact_lengths kd → is_group kd ≡ true → bound ≡ false
      → r ≡ read_span kd packs place l
  span_within rest c n h e g o k t = length_kind kd packs place l r c (sym b ∙ t) k o (λ f q. rw (← h, ← compact_read_law f c l q, ← g) e)
