-- Look-ups with a guess, and the search from record to record; each fact in the shape of its need.
-- From the laws of a valid tag table: a tag and a key stand in one record at most.
use mathlib.Core.Path.{◌≡◌, sym, ◌∙◌}
use mathlib.Core.Bool.{Bool, true, false}
use mathlib.Core.List.{List}
use Prim.Native.Nat.{ℕ, ◌/◌, ◌<◌, ◌≤◌}
use native.Mathlib.Omega.{arith}
use lib.Dec.{ltb}
use lib.ListN.{length}
use borrow.Author.Tests.{lt-ltb, ltb-true}
use Rattle.klv.specs.Pick.{both}
use Rattle.klv.proofs.Cases.{both_true}
use Rattle.klv.proofs.BytesLaws.{same_true}
use Rattle.std.specs.Prelude.{Option, Some, None, MatchOption}
use Rattle.groups.specs.Tables.{table_of, tag_table_ok, key_index}
use Rattle.groups.specs.Index.{has_key}
use Rattle.groups.proofs.tables.Below.{at_first, nothing_first}
use Rattle.groups.proofs.tables.TableLaws.{tags_fit, table_count, key_finds, key_found}

-- ---- the guessed record has what is sought

pub key_guessed : (t k : List ℕ) (i : ℕ) (b : Bool) → tag_table_ok t ≡ true → b ≡ both (ltb i (length t / 20)) (has_key (table_of t) k i) → b ≡ true
    → Some i ≡ key_index (table_of t) k
key_guessed t k i b v e f =
    let q = both_true (ltb i (length t / 20)) (has_key (table_of t) k i) (sym e ∙ f) in
    let g : ((table_of t).row i).key ≡ k = same_true ((table_of t).row i).key k q.1 in
    sym (rw g at (key_finds (table_of t) i (tags_fit t v) (rw (table_count t) (ltb-true i (length t / 20) q.0))))

-- ---- what is found is a record

pub key_in : (t k : List ℕ) (i : ℕ) (r : Option ℕ) → r ≡ key_index (table_of t) k → r ≡ Some i → i < length t / 20
key_in t k i r e f = rw (← table_count t) (key_found (table_of t) k i (sym e ∙ f)).0

-- ---- the first record with a key: of the records before it none has the key

-- record i is there and has the key
abbrev pub has_row : List ℕ → List ℕ → ℕ → Bool
has_row t k i = both (ltb i (length t / 20)) (has_key (table_of t) k i)

row_no : (t k : List ℕ) (i : ℕ) → i < length t / 20 → has_row t k i ≡ false → has_key (table_of t) k i ≡ false
row_no t k i l e = rw (lt-ltb i (length t / 20) l) at e

pub first_found : (t k : List ℕ) (r : Option ℕ)
    → MatchOption r ((j : ℕ) → 0 ≤ j → j < length t / 20 → has_row t k j ≡ false)
    (λ (i : ℕ). (0 ≤ i) × (i < length t / 20) × (has_row t k i ≡ true) × ((j : ℕ) → 0 ≤ j → j < i → has_row t k j ≡ false))
    → r ≡ key_index (table_of t) k
unfolding key_index
first_found t k None h =
    let n : (table_of t).count ≡ length t / 20 = table_count t in
    sym (nothing_first (has_key (table_of t) k) (table_of t).count (λ j a. row_no t k j (omega (arith, n)) (h j (omega arith) (omega (arith, n)))))
first_found t k (Some i) h =
    let q = both_true (ltb i (length t / 20)) (has_key (table_of t) k i) h.2 in
    sym (at_first (has_key (table_of t) k) (table_of t).count i (rw (table_count t) h.1) q.1 (λ j a. row_no t k j (omega (arith, h.1)) (h.3 j (omega arith) a)))
