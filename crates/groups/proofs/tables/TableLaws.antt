-- Laws of lent tables: what a valid tag or pack table gives, what the look-ups by tag and by key find, and that in a valid
-- tag table the two are inverse. From the laws of `all_below` and `first`, and klv's law of equal bytes.
use mathlib.Core.Path.{◌≡◌, refl, sym}
use mathlib.Core.Bool.{true, false, not}
use mathlib.Core.List.{List}
use Prim.Native.Nat.{ℕ, zero, suc, ◌-◌, ◌*◌, ◌/◌, ◌%◌, ◌<◌, ◌≤◌}
use native.Mathlib.Omega.{arith}
use native.Mathlib.Decide.{dec_le}
use lib.Dec.{leb, ltb, eqb}
use lib.ListN.{length, drop}
use borrow.Author.Tests.{eqb-true, eq-eqb, ne_eqb, leb-true, ltb-true, not-true}
use Rattle.klv.specs.Pick.{pick}
use Rattle.klv.specs.Bytes.{same}
use Rattle.klv.specs.Key.{is_key}
use Rattle.klv.proofs.Cases.{pick_cases, both_true}
use Rattle.klv.proofs.BytesLaws.{same_refl, same_true, differ}
use Rattle.std.specs.Prelude.{Some}
use Rattle.groups.specs.Tables.{Table, table_of, row_at, all_below, size_ok, tag_row_ok, tag_table_ok, pack_row_ok, pack_table_ok, tag_index, key_index}
use Rattle.groups.proofs.tables.Below.{all_each, first_at, at_first}

-- ---- valid tables

-- a tag table as 01 wants it: keys are keys, tags strictly rise, no key stands twice
pub record TagsFit (t : Table) : Type 0 where
  pub few : t.count ≤ 256
  pub keys : (i : ℕ) → i < t.count → is_key (t.row i).key ≡ true
  pub rising : (i j : ℕ) → i < j → j < t.count → (t.row i).number < (t.row j).number
  pub apart : (i j : ℕ) → i < j → j < t.count → same (t.row i).key (t.row j).key ≡ false

-- a pack table as 01 wants it: keys are keys
pub record PacksFit (t : Table) : Type 0 where
  pub few : t.count ≤ 256
  pub keys : (i : ℕ) → i < t.count → is_key (t.row i).key ≡ true

-- whole records, at most 256
pub size_told : (t : List ℕ) → size_ok t ≡ true → (length t % 20 ≡ 0) × (length t / 20 ≤ 256)
unfolding size_ok
size_told t e =
    let q = both_true (eqb (length t % 20) 0) (leb (length t / 20) 256) e in
    (eqb-true (length t % 20) 0 q.0, leb-true (length t / 20) 256 q.1)

-- what the test of one record tells
row_told : (t : Table) (i : ℕ) → tag_row_ok t i ≡ true
    → (is_key (t.row i).key ≡ true) × (pick (eqb i 0) true (ltb (t.row (i - 1)).number (t.row i).number) ≡ true)
    × (all_below (λ (j : ℕ). not (same (t.row j).key (t.row i).key)) i ≡ true)
unfolding tag_row_ok
row_told t i e =
    let p = both_true _ _ e in
    let q = both_true _ _ p.1 in
    (p.0, q.0, q.1)

-- a tag is above the one before
step_up : (t : Table) (i : ℕ) → tag_row_ok t (suc i) ≡ true → (t.row i).number < (t.row (suc i)).number
step_up t i e =
    pick_cases (eqb (suc i) 0) true (ltb (t.row (suc i - 1)).number (t.row (suc i)).number) true (row_told t (suc i) e).1
    (λ h q. absurd (let z : suc i ≡ 0 = eqb-true (suc i) 0 h in let f : ⊥ = omega arith in f))
    (λ h q. let s : suc i - 1 ≡ i = omega arith in rw s at (ltb-true (t.row (suc i - 1)).number (t.row (suc i)).number q))

-- so it is above all before
all_up : (t : Table) (n : ℕ) → ((i : ℕ) → i < n → tag_row_ok t i ≡ true) → (i j : ℕ) → i < j → j < n → (t.row i).number < (t.row j).number
all_up t n r i zero h l = absurd (let f : ⊥ = omega arith in f)
all_up t n r i (suc j) h l =
    let s : (t.row j).number < (t.row (suc j)).number = step_up t j (r (suc j) l) in
    elim (dec_le j i) [
      | yes g ↦ let q : i ≡ j = omega arith in rw q s
      | no g ↦ let q : (t.row i).number < (t.row j).number = all_up t n r i j (omega arith) (omega arith) in omega arith
    ]

-- what a valid tag table gives
pub tags_fit : (t : List ℕ) → tag_table_ok t ≡ true → TagsFit (table_of t)
unfolding tag_table_ok table_of
tags_fit t e =
    let q = both_true (size_ok t) (all_below (tag_row_ok (table_of t)) (length t / 20)) e in
    let r = all_each (tag_row_ok (table_of t)) (length t / 20) q.1 in
    record {
      few = (size_told t q.0).1;
      keys = λ i h. (row_told (table_of t) i (r i h)).0;
      rising = all_up (table_of t) (length t / 20) r;
      apart = λ i j h l. not-true (same ((table_of t).row i).key ((table_of t).row j).key) (all_each _ j (row_told (table_of t) j (r j l)).2 i h);
    }

-- what a valid pack table gives
pub packs_fit : (t : List ℕ) → pack_table_ok t ≡ true → PacksFit (table_of t)
unfolding pack_table_ok pack_row_ok table_of
packs_fit t e =
    let q = both_true (size_ok t) (all_below (pack_row_ok (table_of t)) (length t / 20)) e in
    record { few = (size_told t q.0).1; keys = all_each (pack_row_ok (table_of t)) (length t / 20) q.1 }

-- a table has as many records as its bytes hold
pub table_count : (t : List ℕ) → (table_of t).count ≡ length t / 20
unfolding table_of
table_count t = refl

-- each record stands at its place
pub table_row : (t : List ℕ) (i : ℕ) → (table_of t).row i ≡ row_at (drop (i * 20) t)
unfolding table_of
table_row t i = refl

-- no key stands twice: records with equal keys are one record
pub key_once : (t : Table) (i j : ℕ) → TagsFit t → i < t.count → j < t.count → (t.row i).key ≡ (t.row j).key → i ≡ j
key_once t i j f g h e =
    elim (dec_le i j) [
      | yes a ↦
          elim (dec_le j i) [
            | yes b ↦ omega arith
            | no b ↦ absurd (differ (t.row i).key (t.row j).key (f.apart i j (omega arith) h) e)
          ]
      | no a ↦ absurd (differ (t.row j).key (t.row i).key (f.apart j i (omega arith) g) (sym e))
    ]

-- ---- the look-ups

-- the record found by a tag has it
pub tag_found : (t : Table) (tag i : ℕ) → tag_index t tag ≡ Some i → (i < t.count) × ((t.row i).number ≡ tag)
unfolding tag_index
tag_found t tag i e =
    let r = first_at (λ (j : ℕ). eqb (t.row j).number tag) t.count i e in
    (r.below, eqb-true (t.row i).number tag r.holds)

-- the record found by a key has it
pub key_found : (t : Table) (k : List ℕ) (i : ℕ) → key_index t k ≡ Some i → (i < t.count) × ((t.row i).key ≡ k)
unfolding key_index
key_found t k i e =
    let r = first_at (λ (j : ℕ). same (t.row j).key k) t.count i e in
    (r.below, same_true (t.row i).key k r.holds)

-- a record is found by its own tag
pub tag_finds : (t : Table) (i : ℕ) → TagsFit t → i < t.count → tag_index t (t.row i).number ≡ Some i
unfolding tag_index
tag_finds t i f h =
    at_first (λ (j : ℕ). eqb (t.row j).number (t.row i).number) t.count i h (eq-eqb (t.row i).number (t.row i).number refl)
    (λ j l. ne_eqb (t.row j).number (t.row i).number (λ q. omega (arith, f.rising j i l h)))

-- a record is found by its own key
pub key_finds : (t : Table) (i : ℕ) → TagsFit t → i < t.count → key_index t (t.row i).key ≡ Some i
unfolding key_index
key_finds t i f h =
    at_first (λ (j : ℕ). same (t.row j).key (t.row i).key) t.count i h (same_refl (t.row i).key) (λ j l. f.apart j i l h)

-- the record found by a key is found by its tag
pub key_then_tag : (t : List ℕ) (k : List ℕ) (i : ℕ) → tag_table_ok t ≡ true → key_index (table_of t) k ≡ Some i
    → (tag_index (table_of t) ((table_of t).row i).number ≡ Some i) × (((table_of t).row i).key ≡ k)
key_then_tag t k i v e =
    let q = key_found (table_of t) k i e in
    (tag_finds (table_of t) i (tags_fit t v) q.0, q.1)

-- the record found by a tag is found by its key
pub tag_then_key : (t : List ℕ) (tag i : ℕ) → tag_table_ok t ≡ true → tag_index (table_of t) tag ≡ Some i
    → (key_index (table_of t) ((table_of t).row i).key ≡ Some i) × (((table_of t).row i).number ≡ tag)
tag_then_key t tag i v e =
    let q = tag_found (table_of t) tag i e in
    (key_finds (table_of t) i (tags_fit t v) q.0, q.1)
