-- The listings, answered as the host's entries answer, and how many items had a longer BER form than needed.
use Rattle.std.specs.Prelude.{ℕ, ◌≡◌, List, length, take}
use Rattle.groups.specs.declared.kind.Kind.{Kind}
use Rattle.groups.specs.Kind.{kind_of}
use Rattle.groups.specs.Refusal as plain
use Rattle.groups.specs.Read.{Entry}
use Rattle.groups.specs.Listing.{start, keys_left, numbers_left, longer_items, listing_of}
use Rattle.deep.specs.Tree.{Answer, ok, refused, Tree}
use Rattle.deep.specs.Deep.{fault_number, count_of, tree_longer, deep_listing_of, tree_keys_left, tree_numbers_left}
use Rattle.probe.specs.Sets.{coded}

-- ---- the plain listing

-- the count, or the refusal
abbrev pub list_host : plain.Answer (List Entry) → ℕ
list_host (plain.ok es) = length es
list_host (plain.refused r p) = coded (plain.number_of r) p

-- how many items had a longer form; a refusal leaves the number m
abbrev pub longer_left : Kind → ℕ → plain.Answer (List Entry) → ℕ
longer_left kind m (plain.ok es) = length (longer_items kind es)
longer_left kind m (plain.refused r p) = m

-- the contract of the entry: d and e are the slices of keys and numbers at entry, x and y at exit, m and o the number of
-- longer forms, r the answer
pub record ProbeLonger (tags packs group d x e y : List ℕ) (m o r : ℕ) : Type 0 where
  pub answer : r ≡ list_host (listing_of tags packs group (length d) (length e))
  pub longer : o ≡ longer_left (kind_of (take 16 group)) m (listing_of tags packs group (length d) (length e))
  pub keys : x ≡ keys_left d (listing_of tags packs group (length d) (length e))
  pub numbers : y ≡ numbers_left (start group) e (listing_of tags packs group (length d) (length e))

-- ---- the deep listing

abbrev pub deep_list_host : Answer Tree → ℕ
deep_list_host (ok t) = count_of t
deep_list_host (refused f p) = coded (fault_number f) p

abbrev pub deep_longer_left : Kind → ℕ → Answer Tree → ℕ
deep_longer_left kind m (ok t) = length (tree_longer kind t)
deep_longer_left kind m (refused f p) = m

-- the contracts of the two entries
pub record ProbeDeepListing (tags group d x e y : List ℕ) (r : ℕ) : Type 0 where
  pub answer : r ≡ deep_list_host (deep_listing_of tags group (length d) (length e))
  pub keys : x ≡ tree_keys_left d (deep_listing_of tags group (length d) (length e))
  pub numbers : y ≡ tree_numbers_left (start group) e (deep_listing_of tags group (length d) (length e))

pub record ProbeDeepLonger (tags group d x e y : List ℕ) (m o r : ℕ) : Type 0 where
  pub listing : ProbeDeepListing tags group d x e y r
  pub longer : o ≡ deep_longer_left (kind_of (take 16 group)) m (deep_listing_of tags group (length d) (length e))
