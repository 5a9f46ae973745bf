-- The parts of a written item: labels, lengths and values, measured and put; each fact in the shape of its need.
use mathlib.Core.Path.{◌≡◌, refl, sym, ap, ◌∙◌}
use mathlib.Core.List.{List, []}
use mathlib.Core.Bool.{Bool, true, false, false≢true}
use mathlib.Core.Option.{none, some}
use Prim.Native.Nat.{ℕ, ◌+◌, ◌≤◌}
use lib.Dec.{leb}
use lib.ListN.{length}
use Rattle.std.specs.Prelude.{Option, Some, None}
use Rattle.klv.specs.Pick.{pick}
use Rattle.klv.specs.Compact.{compact_of, compact_bytes, holds}
use Rattle.klv.specs.Layout.{written, largest_of}
use Rattle.klv.specs.Placed.{Placed}
use Rattle.klv.specs.declared.layout.Form.{Form}
use Rattle.klv.specs.declared.layout.Form.TheVariants.{Ber}
use Rattle.klv.specs.declared.compact.Compact.{Compact}
use Rattle.klv.proofs.Cases.{test_cases}
use Rattle.klv.proofs.CompactLaws.{compact_form, compact_bytes_law, compact_held_width}
use Rattle.klv.proofs.PlacedLaws.{put_end, put_bytes}
use Rattle.groups.specs.declared.kind.Kind.{Kind}
use Rattle.groups.specs.declared.kind.Kind.TheVariants.{Universal, Global, Local, Variable, Defined, NoGroup}
use Rattle.groups.specs.Kind.{is_bound}
use Rattle.groups.specs.Span.{ber_lengths, element_ok}
use Rattle.groups.specs.Tables.{Table}
use Rattle.groups.specs.Arrays.{wide, part_of, fitting, length_field, is_other, length_bytes, Put}
use Rattle.groups.specs.Coded.{compact_lengths, compact_tags}
use Rattle.groups.proofs.kind.KindLaws.{bound_defined}
use Rattle.groups.proofs.write.Totals.{put_none}

-- ---- the compact numbers of a layout

pub own_form : (f : Form) (c : Compact) → c ≡ compact_of f → c.layout.form ≡ f
own_form f c e = ap (λ (x : Compact). x.layout.form) e ∙ compact_form f

pub own_compact : (f : Form) (c : Compact) → c ≡ compact_of f → c ≡ compact_of c.layout.form
own_compact f c e = e ∙ ap compact_of (sym (own_form f c e))

-- the bytes of a number, if the layout holds it
compact_part : (f : Form) (c : Compact) (n : ℕ) → c ≡ compact_of f → compact_bytes c n ≡ part_of (fitting f n)
compact_part f c n e = compact_bytes_law f c n e ∙ by_test (leb n (largest_of f)) (written f n)
  where
    by_test : (t : Bool) (l : List ℕ) → pick t l [] ≡ part_of (pick t (some l) none)
    by_test true l = refl
    by_test false l = refl

module _ (c : Compact) (n : ℕ) (e : c ≡ compact_of c.layout.form) where
  -- where there is room, they are put
  pub number_put : (at next : ℕ) (d x : List ℕ) → Placed d at (compact_bytes c n) x next → at + length (part_of (fitting c.layout.form n)) ≤ length d
      → Put d at (part_of (fitting c.layout.form n)) x next
  number_put at next d x p h =
      let q : Placed d at (part_of (fitting c.layout.form n)) x next = rw (compact_part c.layout.form c n e) at p in
      record { end = put_end d at (part_of (fitting c.layout.form n)) h x next q; bytes = put_bytes d at (part_of (fitting c.layout.form n)) h x next q }

  -- a number has a width if it fits
  pub fits_width : (w : Option ℕ) → w ≡ pick (holds c n) (Some (length (compact_bytes c n))) None → w ≡ wide (fitting c.layout.form n)
  fits_width w q =
      q ∙ compact_held_width c.layout.form c n e ∙ test_cases (leb n (largest_of c.layout.form)) (λ t. rw t) (λ t. rw t)

-- ---- the layouts of a kind

pub lengths_kind : (kd x : Kind) (r : Compact) → kd ≡ x → r ≡ compact_lengths x → r ≡ compact_lengths kd
lengths_kind kd x r h e = rw h e

pub ber_kind : (kd x : Kind) (b : Bool) → kd ≡ x → b ≡ ber_lengths x → b ≡ ber_lengths kd
ber_kind kd x b h e = rw h e

pub tags_kind : (kd x : Kind) (r : Compact) → kd ≡ x → r ≡ compact_tags x → r ≡ compact_tags kd
tags_kind kd x r h e = rw h e

pub tags_known : (kd : Kind) (r : Compact) → r ≡ compact_tags kd → r ≡ compact_of r.layout.form
unfolding compact_tags
tags_known Universal r e = own_compact Ber r e
tags_known (Global y) r e = own_compact Ber r e
tags_known (Local x y) r e = own_compact x.form r e
tags_known (Variable y) r e = own_compact Ber r e
tags_known Defined r e = own_compact Ber r e
tags_known NoGroup r e = own_compact Ber r e

pub lengths_known : (kd : Kind) (r : Compact) → r ≡ compact_lengths kd → r ≡ compact_of r.layout.form
unfolding compact_lengths
lengths_known Universal r e = own_compact Ber r e
lengths_known (Global y) r e = own_compact y.form r e
lengths_known (Local x y) r e = own_compact y.form r e
lengths_known (Variable y) r e = own_compact y.form r e
lengths_known Defined r e = own_compact Ber r e
lengths_known NoGroup r e = own_compact Ber r e

-- a global set and a variable-length pack have the length of their layout
field_is : (kd : Kind) (r : Compact) (packs : Table) (place : ℕ) (v : List ℕ) → is_other kd ≡ true → is_bound kd ≡ false → r ≡ compact_lengths kd
    → length_field kd packs place v ≡ fitting r.layout.form (length v)
unfolding length_field compact_lengths
field_is Universal r packs place v o h e = absurd (false≢true o)
field_is (Global y) r packs place v o h e = rw (own_form y.form r e)
field_is (Local x y) r packs place v o h e = absurd (false≢true o)
field_is (Variable y) r packs place v o h e = rw (own_form y.form r e)
field_is Defined r packs place v o h e = absurd (false≢true (sym h))
field_is NoGroup r packs place v o h e = absurd (false≢true o)

pub field_wide : (kd : Kind) (r : Compact) (packs : Table) (place : ℕ) (v : List ℕ) (n : ℕ) (w : Option ℕ) (b : Bool) → is_other kd ≡ true → b ≡ is_bound kd → b ≡ false
    → r ≡ compact_lengths kd → n ≡ length v → w ≡ wide (fitting r.layout.form n) → w ≡ wide (length_field kd packs place v)
field_wide kd r packs place v n w b o h k e m q = rw (field_is kd r packs place v o (sym h ∙ k) e, ← m) q

bytes_are : (kd : Kind) (r : Compact) (n : ℕ) → is_other kd ≡ true → is_bound kd ≡ false → r ≡ compact_lengths kd → length_bytes kd n ≡ part_of (fitting r.layout.form n)
unfolding length_bytes compact_lengths
bytes_are Universal r n o h e = absurd (false≢true o)
bytes_are (Global y) r n o h e = rw (own_form y.form r e)
bytes_are (Local x y) r n o h e = absurd (false≢true o)
bytes_are (Variable y) r n o h e = rw (own_form y.form r e)
bytes_are Defined r n o h e = absurd (false≢true (sym h))
bytes_are NoGroup r n o h e = absurd (false≢true o)

module _ (kd : Kind) (r : Compact) (n : ℕ) (b : Bool) (o : is_other kd ≡ true) (h : b ≡ is_bound kd) (f : b ≡ false) (e : r ≡ compact_lengths kd) where
  pub length_room : (at l : ℕ) → at + length (length_bytes kd n) ≤ l → at + length (part_of (fitting r.layout.form n)) ≤ l
  length_room at l k = rw (bytes_are kd r n o (sym h ∙ f) e) at k

  pub length_put : (at next : ℕ) (d x : List ℕ) → Put d at (part_of (fitting r.layout.form n)) x next → Put d at (length_bytes kd n) x next
  length_put at next d x p = rw (bytes_are kd r n o (sym h ∙ f) e) p

module _ (kd : Kind) (b : Bool) (h : b ≡ is_bound kd) (f : b ≡ true) where
  bound_is : kd ≡ Defined
  bound_is = bound_defined kd (sym h ∙ f)

  pub element_field : (packs : Table) (place n : ℕ) (v : List ℕ) (ok : Bool) → n ≡ (packs.row place).number → ok ≡ element_ok n v → ok ≡ true → Some 0 ≡ wide (length_field kd packs place v)
  unfolding length_field
  element_field packs place n v ok e q t = rw (bound_is, ← e, ← q, t)

  pub element_no_field : (packs : Table) (place n : ℕ) (v : List ℕ) (ok : Bool) → n ≡ (packs.row place).number → ok ≡ element_ok n v → ok ≡ false → None ≡ wide (length_field kd packs place v)
  unfolding length_field
  element_no_field packs place n v ok e q t = rw (bound_is, ← e, ← q, t)

  pub nothing_put : (n at : ℕ) (d : List ℕ) → Put d at (length_bytes kd n) d at
  unfolding length_bytes
  nothing_put n at d = rw bound_is (put_none d at)
