-- Lent tables (01, "Lent tables"): runs of 20-byte records, at most 256, possibly empty.
use Rattle.std.specs.Prelude.{ℕ, zero, suc, ◌+◌, ◌-◌, ◌*◌, ◌/◌, ◌%◌, ◌<◌, ◌≤◌, Bool, true, not, List, leb, ltb, eqb, length, drop, Option, Some, None}
use Rattle.klv.specs.Pick.{pick, both}
use Rattle.klv.specs.Bytes.{same}
use Rattle.klv.specs.Key.{is_key, key_or_zeros}
use Rattle.klv.specs.Compact.{four_bytes}

-- a record: a number (4 bytes, most significant first), then a key
pub record Row : Type 0 where
  pub number : ℕ
  pub key : List ℕ

-- a table: how many records, and each by its number
pub record Table : Type 0 where
  pub count : ℕ
  pub row : ℕ → Row

-- the record at the front of a list
unfoldable pub row_at : List ℕ → Row
row_at l = record { number = four_bytes l; key = key_or_zeros (drop 4 l) }

-- the table that a slice holds
unfoldable pub table_of : List ℕ → Table
table_of t = record { count = length t / 20; row = λ (i : ℕ). row_at (drop (i * 20) t) }

-- the test holds of every number below n
unfoldable pub all_below : (ℕ → Bool) → ℕ → Bool
all_below p zero = true
all_below p (suc n) = both (all_below p n) (p n)

-- the least number below n of which the test holds
abbrev pub or_else : Option ℕ → Bool → ℕ → Option ℕ
or_else (Some i) t n = Some i
or_else None t n = pick t (Some n) None

unfoldable pub first : (ℕ → Bool) → ℕ → Option ℕ
first p zero = None
first p (suc n) = or_else (first p n) (p n) n

-- whole records, and at most 256
unfoldable pub size_ok : List ℕ → Bool
size_ok t = both (eqb (length t % 20) 0) (leb (length t / 20) 256)

-- record j has another key than k
abbrev pub differ_from : Table → List ℕ → ℕ → Bool
differ_from t k j = not (same (t.row j).key k)

-- of a tag table: the key is a key, the tag is above the one before, the key stands in no record before
unfoldable pub tag_row_ok : Table → ℕ → Bool
tag_row_ok t i =
    both (is_key (t.row i).key)
    (both (pick (eqb i 0) true (ltb (t.row (i - 1)).number (t.row i).number))
    (all_below (differ_from t (t.row i).key) i))

unfoldable pub tag_table_ok : List ℕ → Bool
tag_table_ok t = both (size_ok t) (all_below (tag_row_ok (table_of t)) (length t / 20))

-- of a pack table: the key is a key
unfoldable pub pack_row_ok : Table → ℕ → Bool
pack_row_ok t i = is_key (t.row i).key

unfoldable pub pack_table_ok : List ℕ → Bool
pack_table_ok t = both (size_ok t) (all_below (pack_row_ok (table_of t)) (length t / 20))

-- the record with a tag, and the record with a key
unfoldable pub tag_index : Table → ℕ → Option ℕ
tag_index t tag = first (λ (i : ℕ). eqb (t.row i).number tag) t.count

unfoldable pub key_index : Table → List ℕ → Option ℕ
key_index t k = first (λ (i : ℕ). same (t.row i).key k) t.count

-- the first n records have lower tags, and no record after them has
pub record Parted (t : Table) (tag n : ℕ) : Type 0 where
  pub within : n ≤ t.count
  pub lower : (i : ℕ) → i < n → (t.row i).number < tag
  pub rest : (i : ℕ) → n ≤ i → i < t.count → tag ≤ (t.row i).number

-- ---- the search by halves, for any table; in a valid tag table it finds the record with the tag

-- where the search for a tag comes to, from `low` up to `high`, in at most `steps` steps
unfoldable pub halved : Table → ℕ → ℕ → ℕ → ℕ → ℕ
halved t tag zero low high = low
halved t tag (suc steps) low high =
    pick (ltb low high)
    (pick (ltb (t.row ((low + high) / 2)).number tag)
    (halved t tag steps ((low + high) / 2 + 1) high)
    (halved t tag steps low ((low + high) / 2)))
    low

-- how many records have a lower tag, by halves
unfoldable pub lower_tags : Table → ℕ → ℕ
lower_tags t tag = halved t tag t.count 0 t.count

-- record i if it has the tag, else another answer
abbrev pub here_or : Table → ℕ → ℕ → Option ℕ → Option ℕ
here_or t tag i other = pick (ltb i t.count) (pick (eqb (t.row i).number tag) (Some i) other) other

-- the record with a tag; and with a guess that is tried first
unfoldable pub by_halves : Table → ℕ → Option ℕ
by_halves t tag = here_or t tag (lower_tags t tag) None

unfoldable pub find_tag : Table → ℕ → ℕ → Option ℕ
find_tag t guess tag = here_or t tag guess (by_halves t tag)
