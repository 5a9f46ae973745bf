-- What the C host receives: one number (01, "The host, the listing, the job"), from a feed six (02, point 4).
use Rattle.std.specs.Prelude.{ℕ, ◌+◌, ◌*◌, ◌≡◌, List, [], ◌∷◌, Result, Ok, Err, length}
use Rattle.groups.specs.declared.refusal.Refusal.{Refusal}
use Rattle.groups.specs.declared.refusal.Refused.{Refused}
use Rattle.groups.specs.Refusal.{Answer, ok, refused, number_of}
use Rattle.groups.specs.Listing.{keys_left, numbers_left, start, listing_of}
use Rattle.groups.specs.Regroup.{output_left, regroup_of}
use Rattle.feed.specs.declared.fault.Fault.{Fault}
use Rattle.feed.specs.declared.fault.Tally.{Tally}
use Rattle.feed.specs.Feed as feed
use Rattle.feed.specs.Feed.{Setting, setting, images, those, is_regrouped, is_refused, is_other, fault_number, feed_of, fed_left}

-- a refusal: 1,000,000 + 1,000 x number + place
abbrev pub host_of : Refusal → ℕ → ℕ
host_of r place = 1000000 + 1000 * number_of r + place

-- the output length, from the listing the count; or the refusal
abbrev pub hosted : {A : Type 0} → Answer (List A) → ℕ
hosted (ok l) = length l
hosted (refused r p) = host_of r p

-- the contract of the regrouping entry: d is the output slice at entry, x at exit, r the answer
pub record HostRegroups (tags packs target group d x : List ℕ) (r : ℕ) : Type 0 where
  pub answer : r ≡ hosted (regroup_of tags packs target group (length d))
  pub bytes : x ≡ output_left d (regroup_of tags packs target group (length d))

-- the contract of the listing entry: d and e are the slices of keys and numbers at entry, x and y at exit
pub record HostLists (tags packs group d x e y : List ℕ) (r : ℕ) : Type 0 where
  pub answer : r ≡ hosted (listing_of tags packs group (length d) (length e))
  pub keys : x ≡ keys_left d (listing_of tags packs group (length d) (length e))
  pub numbers : y ≡ numbers_left (start group) e (listing_of tags packs group (length d) (length e))

-- the six numbers of a feed: output length, regrouped, refused, others, the refusal's number and its place; what does not apply
-- is 0
abbrev pub feed_numbers : Setting → feed.Answer → List ℕ
feed_numbers s (feed.ok ts) =
    length (images s ts) ∷ length (those (is_regrouped s) ts) ∷ length (those (is_refused s) ts) ∷ length (those (is_other s) ts) ∷ 0 ∷ 0 ∷ []
feed_numbers s (feed.refused f p) = 0 ∷ 0 ∷ 0 ∷ 0 ∷ fault_number f ∷ p ∷ []

-- the same of the answer by value
abbrev pub fed_numbers : Result Tally (Refused Fault) → List ℕ
fed_numbers (Ok y) = y.length ∷ y.regrouped ∷ y.refused ∷ y.others ∷ 0 ∷ 0 ∷ []
fed_numbers (Err e) = 0 ∷ 0 ∷ 0 ∷ 0 ∷ fault_number e.why ∷ e.place ∷ []

-- the contract of the feed's entry: d is the output slice at entry, x at exit, n the numbers at exit
pub record HostFeeds (tags packs source target feed d x n : List ℕ) : Type 0 where
  pub numbers : n ≡ feed_numbers (setting tags packs source target) (feed_of (setting tags packs source target) feed (length d))
  pub bytes : x ≡ fed_left (setting tags packs source target) d (feed_of (setting tags packs source target) feed (length d))
