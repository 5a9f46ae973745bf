-- Items held in two arrays: `keys` has sixteen bytes for each item, `slots` four numbers: the value's offset and length, the
-- width of the length, and the width of the label or, once the item is measured for a local set, its tag.
use Rattle.std.specs.Prelude.{ℕ, zero, suc, ◌+◌, ◌*◌, ◌<◌, ◌≤◌, ◌≡◌, List, [], ◌∷◌, ◌++◌, Result, length, get_or, take, drop}
use Rattle.klv.specs.Ber.{longer}
use Rattle.klv.specs.Bytes.{pasted}
use Rattle.klv.specs.Pick.{pick}
use Rattle.groups.specs.declared.refusal.Refusal.{Refusal}
use Rattle.groups.specs.declared.refusal.Refused.{Refused}
use Rattle.groups.specs.Refusal.{Answer, ok}
use Rattle.groups.specs.Read.{Entry, Item, size}
use Rattle.groups.specs.Listing.{keys_of, tally}

-- ---- one item

abbrev pub held_key : List ℕ → ℕ → List ℕ
held_key keys i = take 16 (drop (16 * i) keys)

abbrev pub held_offset : List ℕ → ℕ → ℕ
held_offset slots i = get_or slots (4 * i) 0

abbrev pub held_size : List ℕ → ℕ → ℕ
held_size slots i = get_or slots (4 * i + 1) 0

abbrev pub held_width : List ℕ → ℕ → ℕ
held_width slots i = get_or slots (4 * i + 2) 0

abbrev pub held_tag : List ℕ → ℕ → ℕ
held_tag slots i = get_or slots (4 * i + 3) 0

-- its value, in the group s
abbrev pub held_value : List ℕ → List ℕ → ℕ → List ℕ
held_value slots s i = take (held_size slots i) (drop (held_offset slots i) s)

-- a 32-bit number of the slots
pub record Held (slots : List ℕ) (j r : ℕ) : Type 0 where
  pub is : r ≡ get_or slots j 0
  pub small : r ≤ 0xFFFF_FFFF

-- item i has a slot, and its value stands inside s
pub record Spanned (i : ℕ) (slots s : List ℕ) : Type 0 where
  pub place : i ≤ 255
  pub numbers : 4 * i + 4 ≤ length slots
  pub inside : held_offset slots i + held_size slots i ≤ length s

-- ---- n items

abbrev pub held_item : List ℕ → List ℕ → List ℕ → ℕ → Item
held_item keys slots s i = record { key = held_key keys i; value = held_value slots s i }

-- the first at `place`
unfoldable pub held_items : ℕ → ℕ → List ℕ → List ℕ → List ℕ → List Item
held_items place zero keys slots s = []
held_items place (suc n) keys slots s = held_item keys slots s place ∷ held_items (suc place) n keys slots s

-- their values' offsets and lengths, and the depth 1
unfoldable pub held_numbers : ℕ → List ℕ → List ℕ
held_numbers zero slots = []
held_numbers (suc n) slots = held_numbers n slots ++ (held_offset slots n ∷ held_size slots n ∷ 1 ∷ [])

-- how many of them have a length in more bytes than the shortest BER form
unfoldable pub longer_slots : ℕ → List ℕ → ℕ
longer_slots zero slots = 0
longer_slots (suc n) slots = pick (longer (held_size slots 0) (held_width slots 0)) 1 0 + longer_slots n (drop 4 slots)

-- n items have a slot each, and their values stand inside the group s
pub record Spanning (n : ℕ) (slots s : List ℕ) : Type 0 where
  pub few : n ≤ 256
  pub slots_in : 4 * n ≤ length slots
  pub inside : (i : ℕ) → i < n → held_offset slots i + held_size slots i ≤ length s
  pub small : length s ≤ 65536

-- and a key each
pub record Holding (n : ℕ) (keys slots s : List ℕ) : Type 0 where
  pub keys_in : 16 * n ≤ length keys
  pub spans : Spanning n slots s

-- the same slots, but for the tags
pub record SameSpans (d x : List ℕ) : Type 0 where
  pub size : length x ≡ length d
  pub offsets : (i : ℕ) → held_offset x i ≡ held_offset d i
  pub sizes : (i : ℕ) → held_size x i ≡ held_size d i

-- ---- reading into the arrays

-- n items fit, where n is no more than a group may have
pub record Roomy (n : ℕ) (d e : List ℕ) : Type 0 where
  pub few : n ≤ 256
  pub keys : 16 * n ≤ length d
  pub slots : 4 * n ≤ length e

-- the slots of entries, the first entry beginning at `at`
unfoldable pub slots_from : ℕ → List Entry → List ℕ
slots_from at [] = []
slots_from at (e ∷ es) = (at + e.label + e.width) ∷ length e.value ∷ e.width ∷ e.label ∷ slots_from (at + size e) es

-- x and y are d and e after reading, the first item at `from`: an accepted reading leaves its keys and slots at the front
pub record Filled (from : ℕ) (a : Answer (List Entry)) (d x e y : List ℕ) (r : Result ℕ (Refused Refusal)) : Type 0 where
  pub answer : r ≡ tally a
  pub keys : (es : List Entry) → a ≡ ok es → x ≡ pasted d 0 (keys_of es)
  pub slots : (es : List Entry) → a ≡ ok es → y ≡ pasted e 0 (slots_from from es)

-- item i, which begins at `at`, is held over d and e: x and y are left, and the next place is `next`
pub record Slot (i : ℕ) (key : List ℕ) (at label width size : ℕ) (d x e y : List ℕ) (next : ℕ) : Type 0 where
  pub key_bytes : x ≡ pasted d (16 * i) key
  pub numbers : y ≡ pasted e (4 * i) ((at + label + width) ∷ size ∷ width ∷ label ∷ [])
  pub place : next ≡ i + 1
