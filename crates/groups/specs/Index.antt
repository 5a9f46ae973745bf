-- The index of a tag table's keys: each key has a bucket, and the records of a bucket are linked, the last one first.
use Rattle.std.specs.Prelude.{ℕ, zero, suc, ◌+◌, ◌-◌, ◌/◌, ◌%◌, ◌<◌, ◌≡◌, Bool, true, List, eqb, ltb, length, get_or, drop, Option, Some, None}
use Rattle.klv.specs.Pick.{pick, both}
use Rattle.klv.specs.Number.{little, number}
use Rattle.klv.specs.Key.{is_key}
use Rattle.klv.specs.Bytes.{same}
use Rattle.groups.specs.Tables.{Table, table_of, tag_table_ok}

-- the bucket of a key, one of 251
unfoldable pub bucket_of : List ℕ → ℕ
bucket_of k = little (drop 8 k) % 251

-- one more than the greatest number below n of which the test holds, or 0
unfoldable pub last : (ℕ → Bool) → ℕ → ℕ
last p zero = 0
last p (suc n) = pick (p n) (suc n) (last p n)

-- record i is in bucket b
abbrev pub in_bucket : Table → ℕ → ℕ → Bool
in_bucket t b i = eqb (bucket_of (t.row i).key) b

-- the first n records are in the index: number b leads to the last of bucket b, number 256 + i to the one before record i
pub record Entered (t : Table) (n : ℕ) (index : List ℕ) : Type 0 where
  pub size : length index ≡ 512
  pub heads : (b : ℕ) → b < 251 → get_or index b 0 ≡ last (in_bucket t b) n
  pub links : (i : ℕ) → i < n → get_or index (256 + i) 0 ≡ last (in_bucket t (bucket_of (t.row i).key)) i

-- all records are
abbrev pub Indexed : List ℕ → List ℕ → Type 0
Indexed t index = Entered (table_of t) (length t / 20) index

-- the rank of a key: bytes 9 to 16 as one number
abbrev pub rank_of : List ℕ → ℕ
rank_of k = number 256 0 (drop 8 k)

-- record i has a key, and its tag and its key's rank are above those of the record before
unfoldable pub row_rises : Table → ℕ → Bool
row_rises t i =
    both (is_key (t.row i).key)
    (pick (eqb i 0) true
    (both (ltb (t.row (i - 1)).number (t.row i).number) (ltb (rank_of (t.row (i - 1)).key) (rank_of (t.row i).key))))

-- x is the index after the check of a tag table, and r the answer; guesses are made from x, whatever it holds
pub record Checked (t x : List ℕ) (r : Bool) : Type 0 where
  pub answer : r ≡ tag_table_ok t
  pub size : length x ≡ 512

-- the record that such a number leads to
abbrev pub record_of : ℕ → Option ℕ
record_of zero = None
record_of (suc i) = Some i

-- record i has a key
abbrev pub has_key : Table → List ℕ → ℕ → Bool
has_key t k i = same (t.row i).key k

-- the last record below n with a key
unfoldable pub last_key : Table → List ℕ → ℕ → Option ℕ
last_key t k n = record_of (last (has_key t k) n)

-- a place in a key's bucket, one more than a record's number, or 0
abbrev pub InBucketOf : Table → List ℕ → ℕ → Type 0
InBucketOf t k at = (i : ℕ) → at ≡ suc i → bucket_of (t.row i).key ≡ bucket_of k
