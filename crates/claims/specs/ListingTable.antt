-- The table of refusals for the listing: rows 1, 2, 4, 5, 7 to 11, 19 and 20 as for the call, and row 15 for its two slices.
use Rattle.std.specs.Prelude.{ℕ, ◌*◌, ◌<◌, ◌≡◌, true, List, [], length}
use Rattle.groups.specs.declared.refusal.Refusal.{Refusal}
use Rattle.groups.specs.declared.refusal.Refusal.TheVariants.{ShortSlice}
use Rattle.groups.specs.Refusal.{Answer, of_reading}
use Rattle.groups.specs.Read.{Item, Entry}
use Rattle.groups.specs.Listing.{listing_of}
use Rattle.claims.specs.Condition.{Inputs, Reads, Condition}

-- what a listing is given; the rooms are the lengths of the two lent slices
pub record ListingInputs : Type 0 where
  pub tags : List ℕ
  pub packs : List ℕ
  pub group : List ℕ
  pub key_room : ℕ
  pub number_room : ℕ

-- what it answers
abbrev pub listing : ListingInputs → Answer (List Entry)
listing j = listing_of j.tags j.packs j.group j.key_room j.number_room

-- the rows of reading ask nothing of target and output slice
abbrev pub given : ListingInputs → Inputs
given j = record { tags = j.tags; packs = j.packs; target = []; group = j.group; room = 0 }

-- either slice is short of what these items take
pub data SlicesShort (j : ListingInputs) (xs : List Item) : Type 0 where
  short_keys : j.key_room < 16 * length xs → SlicesShort j xs
  short_numbers : j.number_room < 3 * length xs → SlicesShort j xs

-- the condition and the place of each row
pub data ListingCondition (j : ListingInputs) (r : Refusal) (p : ℕ) : Type 0 where
  -- 1, 2, 4, 5, 7 to 11, 19, 20
  is_of_reading : of_reading r ≡ true → Condition (given j) r p → ListingCondition j r p
  -- 15 short slice: a lent output slice too short; 0
  short_slice : (xs : List Item) → r ≡ ShortSlice → p ≡ 0 → Reads (given j) xs → SlicesShort j xs → ListingCondition j r p
