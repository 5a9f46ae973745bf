-- Module `tables::index`, the guesses: what is found is the record of a key, the places are within the table and the index,
-- and the loops end; each fact in the shape of its need.
use mathlib.Core.Path.{◌≡◌, refl}
use mathlib.Core.Bool.{Bool, true}
use mathlib.Core.List.{List}
use Prim.Native.Nat.{ℕ, ◌/◌, ◌<◌}
use native.Mathlib.Omega.{arith}
use lib.Dec.{ltb}
use lib.ListN.{length}
use Rattle.klv.specs.Pick.{both}
use Rattle.std.specs.Prelude.{Option, Some, None, IfSome}
use Rattle.groups.specs.Tables.{table_of, key_index, tag_table_ok}
use Rattle.groups.specs.Index.{bucket_of, has_key}
use Rattle.groups.proofs.tables.index.IndexLoops.{bucket_below}
use Rattle.groups.proofs.tables.FindLoops.{key_guessed, key_in}

pub head_in : (k : List ℕ) (b : ℕ) → b ≡ bucket_of k → b < 512
head_in k b e = omega (arith, bucket_below k b e)

-- ---- the record of a key

pub hit_row : (t k : List ℕ) (i : ℕ) (b : Bool) → tag_table_ok t ≡ true → b ≡ both (ltb i (length t / 20)) (has_key (table_of t) k i) → b ≡ true
    → Some i ≡ key_index (table_of t) k
hit_row t k i b d e f = key_guessed t k i b d e f

-- it is one of the table's
pub row_in : (t k : List ℕ) (r : Option ℕ) → r ≡ key_index (table_of t) k → IfSome r (λ i. i < length t / 20)
row_in t k (Some i) e = key_in t k i (Some i) e refl
row_in t k None e = record {}
