-- Records that rise: a table whose tags and ranks rise from record to record has no key twice, so its records are good ones.
-- From the laws of `all_below` and klv's law of equal bytes.
use mathlib.Core.Path.{◌≡◌, sym, ap, ◌∙◌}
use mathlib.Core.Bool.{Bool, true, false}
use mathlib.Core.List.{List}
use Prim.Native.Nat.{ℕ, zero, suc, ◌-◌, ◌/◌, ◌<◌, ◌≤◌}
use native.Mathlib.Omega.{arith}
use native.Mathlib.Decide.{dec_le}
use lib.Dec.{eqb, ltb}
use lib.ListN.{length, replicate, length-replicate}
use borrow.Author.Tests.{eq-eqb, ne_eqb, lt-ltb, le-ltb, ltb-true}
use Rattle.klv.specs.Bytes.{same}
use Rattle.klv.specs.Pick.{pick, both}
use Rattle.klv.specs.Key.{is_key}
use Rattle.klv.proofs.Cases.{test_cases, both_true}
use Rattle.klv.proofs.BytesLaws.{same_true}
use Rattle.groups.specs.Tables.{Table, table_of, all_below, differ_from, size_ok, tag_row_ok, tag_table_ok}
use Rattle.groups.specs.Index.{Checked, rank_of, row_rises}
use Rattle.groups.proofs.tables.Below.{all_each, each_all}

-- what it says of one record
rises_key : (t : Table) (i : ℕ) → row_rises t i ≡ true → is_key (t.row i).key ≡ true
unfolding row_rises
rises_key t i e =
    (both_true (is_key (t.row i).key) (pick (eqb i 0) true (both (ltb (t.row (i - 1)).number (t.row i).number) (ltb (rank_of (t.row (i - 1)).key) (rank_of (t.row i).key)))) e).0

rises_more : (t : Table) (i : ℕ) → row_rises t i ≡ true → (i ≡ 0 → ⊥)
    → ((t.row (i - 1)).number < (t.row i).number) × (rank_of (t.row (i - 1)).key < rank_of (t.row i).key)
unfolding row_rises
rises_more t i e z =
    let q = (both_true (is_key (t.row i).key) (pick (eqb i 0) true (both (ltb (t.row (i - 1)).number (t.row i).number) (ltb (rank_of (t.row (i - 1)).key) (rank_of (t.row i).key)))) e).1 in
    let r = both_true (ltb (t.row (i - 1)).number (t.row i).number) (ltb (rank_of (t.row (i - 1)).key) (rank_of (t.row i).key)) (rw (ne_eqb i 0 z) at q) in
    (ltb-true (t.row (i - 1)).number (t.row i).number r.0, ltb-true (rank_of (t.row (i - 1)).key) (rank_of (t.row i).key) r.1)

-- ranks rise from any record to any later one
ranks_rise : (t : Table) (n i j : ℕ) → all_below (row_rises t) n ≡ true → i < j → j < n → rank_of (t.row i).key < rank_of (t.row j).key
ranks_rise t n i zero e l h = absurd (let f : ⊥ = omega arith in f)
ranks_rise t n i (suc j) e l h =
    let z : suc j ≡ 0 → ⊥ = λ q. omega arith in
    let s : suc j - 1 ≡ j = omega arith in
    let r : rank_of (t.row j).key < rank_of (t.row (suc j)).key = rw s at (rises_more t (suc j) (all_each (row_rises t) n e (suc j) h) z).1 in
    elim (dec_le j i) [
      | yes g ↦ let q : i ≡ j = omega arith in rw q r
      | no g ↦ let q : rank_of (t.row i).key < rank_of (t.row j).key = ranks_rise t n i j e (omega arith) (omega arith) in omega arith
    ]

-- so no record before has the key
rank_apart : (t : Table) (n i j : ℕ) → all_below (row_rises t) n ≡ true → i < j → j < n → same (t.row i).key (t.row j).key ≡ false
rank_apart t n i j e l h =
    test_cases (same (t.row i).key (t.row j).key)
    (λ q.
    let k : rank_of (t.row i).key ≡ rank_of (t.row j).key = ap rank_of (same_true (t.row i).key (t.row j).key q) in
    let r : rank_of (t.row i).key < rank_of (t.row j).key = ranks_rise t n i j e l h in
    absurd (let f : ⊥ = omega arith in f))
    (λ q. q)

rises_good : (t : Table) (n i : ℕ) → all_below (row_rises t) n ≡ true → i < n → tag_row_ok t i ≡ true
unfolding tag_row_ok
rises_good t n i e h =
    let r : row_rises t i ≡ true = all_each (row_rises t) n e i h in
    let d : all_below (differ_from t (t.row i).key) i ≡ true = each_all (differ_from t (t.row i).key) i (λ j l. rw (rank_apart t n j i e l h)) in
    elim (dec_le 1 i) [
      | yes a ↦
          let z : i ≡ 0 → ⊥ = λ q. omega arith in
          rw (rises_key t i r, ne_eqb i 0 z, lt-ltb (t.row (i - 1)).number (t.row i).number (rises_more t i r z).0, d)
      | no a ↦ let z : i ≡ 0 = omega arith in rw (rises_key t i r, eq-eqb i 0 z, d)
    ]

-- the check of a tag table ends with this, and the index stays empty
pub tags_rising : (t x : List ℕ) (b s : Bool) → s ≡ size_ok t → s ≡ true → b ≡ all_below (row_rises (table_of t)) (length t / 20) → b ≡ true → x ≡ replicate 512 0
    → Checked t x true
unfolding tag_table_ok
tags_rising t x b s u v e f g =
    let q : all_below (tag_row_ok (table_of t)) (length t / 20) ≡ true =
    each_all (tag_row_ok (table_of t)) (length t / 20) (λ i l. rises_good (table_of t) (length t / 20) i (sym e ∙ f) l) in
    record { answer = rw (← u, v, q); size = let z : ℕ = 0 in rw g (length-replicate 512 z) }

-- ---- one record

pub rises_no_key : (t : List ℕ) (i : ℕ) (k : List ℕ) (b : Bool) → k ≡ ((table_of t).row i).key → b ≡ is_key k → b ≡ false → false ≡ row_rises (table_of t) i
unfolding row_rises
rises_no_key t i k b e f h = let q : is_key ((table_of t).row i).key ≡ false = cc in rw q

pub rises_first : (t : List ℕ) (i : ℕ) (k : List ℕ) (b : Bool) → k ≡ ((table_of t).row i).key → b ≡ is_key k → b ≡ true → i ≡ 0 → true ≡ row_rises (table_of t) i
unfolding row_rises
rises_first t i k b e f h z = let q : is_key ((table_of t).row i).key ≡ true = cc in rw (q, eq-eqb i 0 z)

pub rises_next : (t : List ℕ) (i : ℕ) (k m : List ℕ) (b : Bool) (x y p q : ℕ) → k ≡ ((table_of t).row i).key → b ≡ is_key k → b ≡ true → (i ≡ 0 → ⊥)
    → x ≡ ((table_of t).row (i - 1)).number → y ≡ ((table_of t).row i).number → x < y → m ≡ ((table_of t).row (i - 1)).key → p ≡ rank_of m → q ≡ rank_of k
    → ltb p q ≡ row_rises (table_of t) i
unfolding row_rises
rises_next t i k m b x y p q e f h z u v l w c d =
    let g : is_key ((table_of t).row i).key ≡ true = cc in
    rw (g, ne_eqb i 0 z, lt-ltb ((table_of t).row (i - 1)).number ((table_of t).row i).number (omega arith), ← w, ← e, ← c, ← d)

pub rises_falling : (t : List ℕ) (i : ℕ) (k : List ℕ) (b : Bool) (x y : ℕ) → k ≡ ((table_of t).row i).key → b ≡ is_key k → b ≡ true → (i ≡ 0 → ⊥)
    → x ≡ ((table_of t).row (i - 1)).number → y ≡ ((table_of t).row i).number → y ≤ x → false ≡ row_rises (table_of t) i
unfolding row_rises
rises_falling t i k b x y e f h z p u l =
    let q : is_key ((table_of t).row i).key ≡ true = cc in
    rw (q, ne_eqb i 0 z, le-ltb ((table_of t).row (i - 1)).number ((table_of t).row i).number (omega arith))
