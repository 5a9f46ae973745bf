-- The conditions 1 and 2 are those that the tests of the two tables find.
use mathlib.Core.Path.{◌≡◌, refl, sym, ◌∙◌}
use mathlib.Core.Bool.{Bool, true, false, false≢true}
use mathlib.Core.List.{List}
use Prim.Native.Nat.{ℕ, zero, suc, ◌-◌, ◌/◌, ◌%◌, ◌<◌, ◌≤◌}
use native.Mathlib.Omega.{arith}
use lib.Dec.{leb, ltb, eqb}
use lib.ListN.{length}
use borrow.Author.Tests.{eqb-false, leb-false, ltb-false, not-false}
use Rattle.klv.specs.Pick.{pick, both}
use Rattle.klv.specs.Bytes.{same}
use Rattle.klv.specs.Key.{is_key}
use Rattle.klv.proofs.Cases.{pick_cases, both_true}
use Rattle.klv.proofs.BytesLaws.{same_true, differ}
use Rattle.groups.specs.Tables.{table_of, all_below, size_ok, differ_from, tag_row_ok, tag_table_ok, pack_row_ok, pack_table_ok}
use Rattle.groups.proofs.tables.TableLaws.{size_told, table_count, tags_fit, packs_fit}
use Rattle.claims.specs.Condition.{TagFault, tag_size, tag_count, tag_order, tag_non_key, tag_repeated, PackFault, pack_size, pack_count, pack_non_key}

-- one of two tests does not hold
pub both_false : {P : Type 0} (a b : Bool) → both a b ≡ false → (a ≡ false → P) → (b ≡ false → P) → P
both_false true b e f g = g e
both_false false b e f g = f refl

-- what is not true is false
pub not_so : (t : Bool) → (t ≡ true → ⊥) → t ≡ false
not_so true f = absurd (f refl)
not_so false f = refl

-- a test that does not hold of all numbers below n fails at one
pub some_fails : (p : ℕ → Bool) (n : ℕ) → all_below p n ≡ false → (i : ℕ) × (i < n) × (p i ≡ false)
unfolding all_below
some_fails p zero e = absurd (false≢true (sym e))
some_fails p (suc n) e =
    both_false (all_below p n) (p n) e
    (λ h. let w = some_fails p n h in (w.0, omega (arith, w.1), w.2))
    (λ h. (n, omega arith, h))

-- size or count
size_fault : {P : Type 0} (t : List ℕ) → size_ok t ≡ false → ((length t % 20 ≡ 0 → ⊥) → P) → (256 < length t / 20 → P) → P
unfolding size_ok
size_fault t e f g =
    both_false (eqb (length t % 20) 0) (leb (length t / 20) 256) e
    (λ h. f (eqb-false (length t % 20) 0 h))
    (λ h. g (leb-false (length t / 20) 256 h))

-- ---- 1

order_fault : (t : List ℕ) (i : ℕ) → i < length t / 20 → pick (eqb i 0) true (ltb ((table_of t).row (i - 1)).number ((table_of t).row i).number) ≡ false → TagFault t
order_fault t zero h e = absurd (false≢true (sym e))
order_fault t (suc i) h e =
    pick_cases (eqb (suc i) 0) true (ltb ((table_of t).row (suc i - 1)).number ((table_of t).row (suc i)).number) false e
    (λ c q. absurd (false≢true (sym q)))
    (λ c q. let s : suc i - 1 ≡ i = omega arith in tag_order i h (rw s at (ltb-false ((table_of t).row (suc i - 1)).number ((table_of t).row (suc i)).number q)))

row_fault : (t : List ℕ) (i : ℕ) → i < length t / 20 → tag_row_ok (table_of t) i ≡ false → TagFault t
unfolding tag_row_ok
row_fault t i h e =
    both_false (is_key ((table_of t).row i).key) _ e
    (λ q. tag_non_key i h q)
    (λ f. both_false (pick (eqb i 0) true (ltb ((table_of t).row (i - 1)).number ((table_of t).row i).number)) _ f
    (λ q. order_fault t i h q)
    (λ g.
    let w = some_fails (differ_from (table_of t) ((table_of t).row i).key) i g in
    let s : same ((table_of t).row w.0).key ((table_of t).row i).key ≡ true = not-false _ w.2 in
    tag_repeated w.0 i w.1 h (same_true ((table_of t).row w.0).key ((table_of t).row i).key s)))

pub tags_fault : (t : List ℕ) → tag_table_ok t ≡ false → TagFault t
unfolding tag_table_ok
tags_fault t e =
    both_false (size_ok t) (all_below (tag_row_ok (table_of t)) (length t / 20)) e
    (λ f. size_fault t f tag_size tag_count)
    (λ f. let w = some_fails (tag_row_ok (table_of t)) (length t / 20) f in row_fault t w.0 w.1 w.2)

tag_size_ok : (t : List ℕ) → tag_table_ok t ≡ true → (length t % 20 ≡ 0) × (length t / 20 ≤ 256)
unfolding tag_table_ok
tag_size_ok t e = size_told t (both_true (size_ok t) _ e).0

tags_never : (t : List ℕ) → tag_table_ok t ≡ true → TagFault t → ⊥
tags_never t e (tag_size f) = f (tag_size_ok t e).0
tags_never t e (tag_count f) = omega (arith, (tag_size_ok t e).1)
tags_never t e (tag_order i h f) = omega (arith, (tags_fit t e).rising i (suc i) (omega arith) (rw table_count h))
tags_never t e (tag_non_key i h f) = false≢true (sym f ∙ (tags_fit t e).keys i (rw table_count h))
tags_never t e (tag_repeated i j l h f) = differ _ _ ((tags_fit t e).apart i j l (rw table_count h)) f

pub fault_tags : (t : List ℕ) → TagFault t → tag_table_ok t ≡ false
fault_tags t f = not_so (tag_table_ok t) (λ e. tags_never t e f)

-- ---- 2

pub packs_fault : (t : List ℕ) → pack_table_ok t ≡ false → PackFault t
unfolding pack_table_ok pack_row_ok
packs_fault t e =
    both_false (size_ok t) (all_below (pack_row_ok (table_of t)) (length t / 20)) e
    (λ f. size_fault t f pack_size pack_count)
    (λ f. let w = some_fails (pack_row_ok (table_of t)) (length t / 20) f in pack_non_key w.0 w.1 w.2)

pack_size_ok : (t : List ℕ) → pack_table_ok t ≡ true → (length t % 20 ≡ 0) × (length t / 20 ≤ 256)
unfolding pack_table_ok
pack_size_ok t e = size_told t (both_true (size_ok t) _ e).0

packs_never : (t : List ℕ) → pack_table_ok t ≡ true → PackFault t → ⊥
packs_never t e (pack_size f) = f (pack_size_ok t e).0
packs_never t e (pack_count f) = omega (arith, (pack_size_ok t e).1)
packs_never t e (pack_non_key i h f) = false≢true (sym f ∙ (packs_fit t e).keys i (rw table_count h))

pub fault_packs : (t : List ℕ) → PackFault t → pack_table_ok t ≡ false
fault_packs t f = not_so (pack_table_ok t) (λ e. packs_never t e f)
