-- How wide lengths were sent (02, point 7): which items the listing counts, and that an accepted call leaves none to count.
use Rattle.std.specs.Prelude.{ℕ, ◌+◌, ◌*◌, ◌≤◌, ◌≡◌, false, List, [], ◌∷◌, Ok, length, take}
use Rattle.klv.specs.Pick.{pick}
use Rattle.groups.specs.declared.kind.Kind.{Kind}
use Rattle.groups.specs.Refusal.{ok}
use Rattle.groups.specs.Kind.{kind_of, kind_of_byte}
use Rattle.groups.specs.Span.{ber_lengths}
use Rattle.groups.specs.Read.{Entry, read, size}
use Rattle.groups.specs.Listing.{start, Sent, longer_items, listed, listing_of}

-- ---- the kinds whose items are looked at

-- byte 6 of the keys of groups, in the order of 01
unfoldable pub group_bytes : List ℕ
group_bytes =
    0x01
    ∷ 0x02 ∷ 0x22 ∷ 0x42 ∷ 0x62
    ∷ 0x03 ∷ 0x0B ∷ 0x13 ∷ 0x1B ∷ 0x23 ∷ 0x2B ∷ 0x33 ∷ 0x3B ∷ 0x43 ∷ 0x4B ∷ 0x53 ∷ 0x5B ∷ 0x63 ∷ 0x6B ∷ 0x73 ∷ 0x7B
    ∷ 0x04 ∷ 0x24 ∷ 0x44 ∷ 0x64
    ∷ 0x05
    ∷ []

-- those of some bytes under which items have BER lengths
unfoldable pub ber_bytes : List ℕ → List ℕ
ber_bytes [] = []
ber_bytes (b ∷ bs) = pick (ber_lengths (kind_of_byte b)) (b ∷ ber_bytes bs) (ber_bytes bs)

-- ---- the items that are counted

-- each length of entries, the first of which begins at an offset, as reading it there tells
abbrev pub SentItems : Kind → List ℕ → ℕ → List Entry → Type 0
SentItems kind s at [] = Unit {0}
SentItems kind s at (e ∷ es) = Sent kind s at e × SentItems kind s (at + size e) es

-- what holds of a group that reads
pub record LongerForms (group : List ℕ) (es : List Entry) : Type 0 where
  -- an item is among them exactly if its length is BER and, read where it stands in the group, tells that fewer bytes would do
  pub told : SentItems (kind_of (take 16 group)) group (start group) es
  -- fixed layouts and the elements of 05 are not counted
  pub fixed : ber_lengths (kind_of (take 16 group)) ≡ false → longer_items (kind_of (take 16 group)) es ≡ []

-- ---- an accepted call

-- what a call that wrote w leaves: the output reads under the same tables, and its listing tells of 0 longer forms
pub record Shortened (tags packs w : List ℕ) : Type 0 where
  pub entries : List Entry
  pub reads : read tags packs w ≡ ok entries
  pub none : longer_items (kind_of (take 16 w)) entries ≡ []
  pub lists : (key_room number_room : ℕ) → 16 * length entries ≤ key_room → 3 * length entries ≤ number_room
      → listed (kind_of (take 16 w)) (listing_of tags packs w key_room number_room) ≡ Ok (record { count = length entries; longer = 0 })
