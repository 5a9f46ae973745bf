-- `item::set_item`: each fact in the shape of its need; and what it is under a valid tag table.
use mathlib.Core.Path.{◌≡◌, refl, sym, ap, ◌∙◌}
use mathlib.Core.Bool.{Bool, true, false}
use mathlib.Core.List.{List, []}
use Prim.Native.Nat.{ℕ, ◌+◌, ◌-◌, ◌/◌, ◌^◌, ◌<◌, ◌≤◌}
use native.Mathlib.Omega.{arith}
use native.Mathlib.Decide.{dec_le}
use mir.Val.{Fits}
use mir.Syntax.{w64}
use lib.ListN.{length, take, drop, length-drop}
use lib.Seq.{length-take-le}
use Rattle.std.specs.Prelude.{Option, Some, None, Result, Ok, Err}
use Rattle.klv.specs.Compact.{compact_of, compact_read}
use Rattle.klv.specs.Key.{is_key, key_at}
use Rattle.klv.specs.Layout.{read_as}
use Rattle.klv.specs.declared.compact.Compact.{Compact}
use Rattle.klv.specs.declared.layout.Form.TheVariants.{Ber}
use Rattle.klv.specs.declared.layout.Layout.{Layout}
use Rattle.klv.specs.Number.{Read}
use Rattle.klv.specs.declared.layout.Number.{Number}
use Rattle.klv.proofs.Cases.{absurd_number}
use Rattle.klv.specs.declared.layout.NumberError.TheVariants.{Missing, Malformed}
use Rattle.std.specs.Prelude.{Ok, Err}
use Rattle.klv.proofs.CompactLaws.{compact_read_law}
use Rattle.klv.proofs.KeyLaws.{key_at_cut}
use Rattle.klv.proofs.LayoutLaws.{read_within}
use Rattle.groups.specs.declared.kind.Kind.{Kind}
use Rattle.groups.specs.declared.kind.Kind.TheVariants.{Universal, Local}
use Rattle.groups.specs.declared.label.Label.{Label}
use Rattle.groups.specs.declared.label.LabelError.{LabelError}
use Rattle.groups.specs.declared.item.SetItem.{SetItem}
use Rattle.groups.specs.declared.item.NoItem.{NoItem}
use Rattle.groups.specs.declared.refusal.Refusal.TheVariants.{LabelCutOff, LabelMalformed, LabelUnlisted}
use Rattle.groups.specs.declared.refusal.Refusal.TheVariants as refusal
use Rattle.groups.specs.declared.span.Span.{Span}
use Rattle.std.specs.Prelude.{Option, Some, None}
use Rattle.groups.specs.Refusal.{Answer}
use Rattle.groups.specs.Tables.{Table, table_of, find_tag, tag_table_ok}
use Rattle.groups.specs.Label.{key_label, read_label, set_label}
use Rattle.groups.specs.Span.{spanned, within, read_span}
use Rattle.groups.specs.Read.{Entry, Under, after_span, after_label, head_of, read_item, set_under, set_item, spanned_item, keyed_item, set_row, with_row}
use Rattle.groups.proofs.label.LabelFacts.{found_tag}
use Rattle.groups.proofs.span.WithinLaws.{length_within_law}

-- ---- the span after a label of a bytes

module _ (lengths : Layout) (a row rest : ℕ) (k s : List ℕ) (c : Compact) (n : Read) (y : Option Span)
    (q : y ≡ within rest n) (g : n ≡ compact_read c (drop a s)) (o : c ≡ compact_of lengths.form) (h : rest ≡ length s - a) (b : a ≤ length s) where
  span_is : y ≡ within (length (drop a s)) (read_as lengths.form (drop a s))
  span_is = rw (← compact_read_law lengths.form c (drop a s) o, ← g, length-drop a s, ← h) q

  pub spanned_read : (z : Span) → y ≡ Some z → Ok (record { item = record { label = a; width = z.width; length = z.length; key = k }; row = row }) ≡ with_row (head_of (spanned_item lengths.form a k s)) row
  unfolding spanned_item
  spanned_read z e =
      let w : ℕ = z.width in
      let m : ℕ = z.length in
      let r : within (length (drop a s)) (read_as lengths.form (drop a s)) ≡ spanned w m = sym span_is ∙ e in
      let i : w + m ≤ length (drop a s) = length_within_law lengths.form (drop a s) w m r in
      let d : length (drop a s) ≡ length s - a = length-drop a s in
      let j : length (drop (a + w) s) ≡ length s - (a + w) = length-drop (a + w) s in
      let v : length (take m (drop (a + w) s)) ≡ m = length-take-le m (drop (a + w) s) (omega arith) in
      rw (r, v)

  pub spanned_fault : (r : Result SetItem NoItem) → y ≡ None → r ≡ Err (record { why = refusal.Span; row = row }) → r ≡ with_row (head_of (spanned_item lengths.form a k s)) row
  unfolding spanned_item
  spanned_fault r e f =
      let z : within (length (drop a s)) (read_as lengths.form (drop a s)) ≡ None = sym span_is ∙ e in
      rw z f

-- ---- a universal set's item

module _ (s : List ℕ) (row : ℕ) (m : Option (List ℕ)) (e : m ≡ key_at s) where
  pub keyed_room : (k : List ℕ) → m ≡ Some k → 16 ≤ length s
  keyed_room k f =
      elim (dec_le 16 (length s)) [
        | yes h ↦ h
        | no h ↦ let z : Some k ≡ None = sym f ∙ e ∙ key_at_cut s (omega arith) in absurd_number (cc)
      ]

  pub keyed_read : (k : List ℕ) (t : Bool) (r : Result SetItem NoItem) → m ≡ Some k → t ≡ is_key k → t ≡ true → r ≡ with_row (head_of (spanned_item Ber 16 k s)) row
      → r ≡ with_row (head_of (keyed_item s)) row
  unfolding keyed_item spanned_item read_span
  keyed_read k t r f g h q = rw (← e, f, ← g, h) q

  pub keyed_malformed : (k : List ℕ) (t : Bool) (r : Result SetItem NoItem) → m ≡ Some k → t ≡ is_key k → t ≡ false → r ≡ Err (record { why = LabelMalformed; row = row })
      → r ≡ with_row (head_of (keyed_item s)) row
  unfolding keyed_item
  keyed_malformed k t r f g h q = rw (← e, f, ← g, h) q

  pub keyed_cut_off : (r : Result SetItem NoItem) → m ≡ None → r ≡ Err (record { why = LabelCutOff; row = row }) → r ≡ with_row (head_of (keyed_item s)) row
  unfolding keyed_item
  keyed_cut_off r f q = rw (← e, f) q

-- ---- a local set's item: x is its tag

module _ (tags s : List ℕ) (layout lengths : Layout) (guess : ℕ) (c : Compact) (x : Read) (e : x ≡ compact_read c s) (o : c ≡ compact_of layout.form) where
  tag_is : x ≡ read_as layout.form s
  tag_is = e ∙ compact_read_law layout.form c s o

  pub tagged_room : (m : Number) → x ≡ Ok m → m.width ≤ length s
  tagged_room m f = (read_within layout.form s m.value m.width (sym tag_is ∙ f)).1

  pub tagged_read : (m : Number) (i : ℕ) (y : Option ℕ) (k : List ℕ) (r : Result SetItem NoItem) → x ≡ Ok m → y ≡ find_tag (table_of tags) guess m.value → y ≡ Some i → k ≡ ((table_of tags).row i).key
      → r ≡ with_row (head_of (spanned_item lengths.form m.width k s)) (i + 1)
      → r ≡ with_row (head_of (set_item (Local layout lengths) (table_of tags) guess s)) (set_row (Local layout lengths) (table_of tags) guess s)
  unfolding set_item set_label set_row spanned_item read_span
  tagged_read m i y k r f g h z q = rw (← tag_is, f, ← g, h, ← z) q

  pub tagged_unlisted : (m : Number) (y : Option ℕ) (r : Result SetItem NoItem) → x ≡ Ok m → y ≡ find_tag (table_of tags) guess m.value → y ≡ None → r ≡ Err (record { why = LabelUnlisted; row = guess })
      → r ≡ with_row (head_of (set_item (Local layout lengths) (table_of tags) guess s)) (set_row (Local layout lengths) (table_of tags) guess s)
  unfolding set_item set_label set_row
  tagged_unlisted m y r f g h q = rw (← tag_is, f, ← g, h) q

  pub tagged_cut_off : (r : Result SetItem NoItem) → x ≡ Err Missing → r ≡ Err (record { why = LabelCutOff; row = guess })
      → r ≡ with_row (head_of (set_item (Local layout lengths) (table_of tags) guess s)) (set_row (Local layout lengths) (table_of tags) guess s)
  unfolding set_item set_label set_row
  tagged_cut_off r f q = rw (← tag_is, f) q

  pub tagged_malformed : (r : Result SetItem NoItem) → x ≡ Err Malformed → r ≡ Err (record { why = LabelMalformed; row = guess })
      → r ≡ with_row (head_of (set_item (Local layout lengths) (table_of tags) guess s)) (set_row (Local layout lengths) (table_of tags) guess s)
  unfolding set_item set_label set_row
  tagged_malformed r f q = rw (← tag_is, f) q

pub row_fits : (t : List ℕ) (i : ℕ) → i < length t / 20 → length t < 2 ^ 64 → Fits w64 (i + 1)
row_fits t i h b = omega arith

-- ---- what holds of the kind x that a `match` found holds of the kind

pub set_kind : (kd x : Kind) (tags : Table) (guess : ℕ) (l : List ℕ) (r : Result SetItem NoItem) → kd ≡ x → r ≡ with_row (head_of (set_item x tags guess l)) (set_row x tags guess l)
    → r ≡ with_row (head_of (set_item kd tags guess l)) (set_row kd tags guess l)
set_kind kd x tags guess l r h e = rw h e

-- the tag table does not matter once the label is read
no_tags : (kd : Kind) (tags others : Table) (l : List ℕ) (x : Result Label LabelError) → after_label (set_under kd tags) 0 l x ≡ after_label (set_under kd others) 0 l x
no_tags kd tags others l (Ok y) = refl
no_tags kd tags others l (Err why) = refl

pub set_universal : (kd : Kind) (tags : Table) (guess : ℕ) (l : List ℕ) (r : Result SetItem NoItem) → kd ≡ Universal → r ≡ with_row (head_of (keyed_item l)) guess
    → r ≡ with_row (head_of (set_item kd tags guess l)) (set_row kd tags guess l)
unfolding keyed_item set_item set_row set_label
set_universal kd tags guess l r h e =
    rw h (e ∙ ap (λ (x : Answer Entry). with_row (head_of x) guess) (no_tags Universal (table_of []) tags l (key_label (key_at l))))

-- ---- under a valid tag table

-- the place of a refusal does not show in an item by value
span_place : (l k : List ℕ) (a p q : ℕ) (y : Option Span) → head_of (after_span l k a y p) ≡ head_of (after_span l k a y q)
span_place l k a p q (Some span) = refl
span_place l k a p q None = refl

label_place : (u : Under) (p q : ℕ) (l : List ℕ) (x : Result Label LabelError) → ((m : List ℕ) → read_span u.kind u.packs p m ≡ read_span u.kind u.packs q m)
    → head_of (after_label u p l x) ≡ head_of (after_label u q l x)
label_place u p q l (Ok y) h = rw (h (drop y.width l)) (span_place l y.key y.width p q (read_span u.kind u.packs q (drop y.width l)))
label_place u p q l (Err why) h = refl

set_read : (kd : Kind) (tags : Table) (guess place : ℕ) (l : List ℕ) → set_label kd tags guess l ≡ read_label kd [] tags (table_of []) place l
    → ((p q : ℕ) (m : List ℕ) → read_span kd (table_of []) p m ≡ read_span kd (table_of []) q m)
    → head_of (set_item kd tags guess l) ≡ head_of (read_item (set_under kd tags) place l)
unfolding set_item read_item
set_read kd tags guess place l e h =
    ap (λ (x : Result Label LabelError). head_of (after_label (set_under kd tags) 0 l x)) e
    ∙ label_place (set_under kd tags) 0 place l (read_label kd [] tags (table_of []) place l) (h 0 place)

pub set_item_universal : (tags : Table) (guess place : ℕ) (l : List ℕ) → head_of (set_item Universal tags guess l) ≡ head_of (read_item (set_under Universal tags) place l)
unfolding set_label read_label read_span
set_item_universal tags guess place l = set_read Universal tags guess place l refl (λ p q m. refl)

pub set_item_local : (x y : Layout) (tags : List ℕ) (guess place : ℕ) (l : List ℕ) → tag_table_ok tags ≡ true
    → head_of (set_item (Local x y) (table_of tags) guess l) ≡ head_of (read_item (set_under (Local x y) (table_of tags)) place l)
unfolding set_label read_label read_span
set_item_local x y tags guess place l v = set_read (Local x y) (table_of tags) guess place l (found_tag tags guess (read_as x.form l) v) (λ p q m. refl)
