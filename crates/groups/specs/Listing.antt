-- The listing (01): each item's key, its value's offset in the group and length, and the depth of its set; and which items
-- had a longer BER form than needed (02, point 7).
use Rattle.std.specs.Prelude.{ℕ, ◌+◌, ◌*◌, ◌≡◌, Bool, true, List, [], ◌∷◌, ◌++◌, Result, Ok, Err, leb, length, take, drop}
use Rattle.std.proofs.Math.Option.{Option, none, some}
use Rattle.klv.specs.Pick.{pick, both}
use Rattle.klv.specs.Ber.{longer, ber_length}
use Rattle.klv.specs.Bytes.{pasted}
use Rattle.klv.specs.Layout.{read_as}
use Rattle.klv.specs.declared.layout.Form.TheVariants.{Ber}
use Rattle.klv.specs.Number.{Read}
use Rattle.groups.specs.declared.kind.Kind.{Kind}
use Rattle.groups.specs.declared.listing.Listed.{Listed}
use Rattle.groups.specs.declared.refusal.Refusal.{Refusal}
use Rattle.groups.specs.declared.refusal.Refused.{Refused}
use Rattle.groups.specs.declared.refusal.Refusal.TheVariants.{ShortSlice}
use Rattle.groups.specs.Refusal.{Answer, ok, refused, and_then, check, number_of, Said, accepted, numbered, said}
use Rattle.groups.specs.Kind.{kind_of}
use Rattle.groups.specs.Span.{ber_lengths}
use Rattle.groups.specs.Read.{Entry, under, read_items, after_length, read, size}

-- the keys of entries, one after another
unfoldable pub keys_of : List Entry → List ℕ
keys_of [] = []
keys_of (e ∷ es) = e.key ++ keys_of es

-- the offset and length of each value, and the depth of the set that the item stands in: 1, since nothing is opened;
-- the first entry begins at `at`
unfoldable pub numbers_from : ℕ → List Entry → List ℕ
numbers_from at [] = []
numbers_from at (e ∷ es) = (at + e.label + e.width) ∷ length e.value ∷ 1 ∷ numbers_from (at + size e) es

-- how many items, or the refusal
abbrev pub tally : Answer (List Entry) → Result ℕ (Refused Refusal)
tally (ok es) = Ok (length es)
tally (refused r p) = Err (record { why = r; place = p })

-- what a slice that held d holds once the entries are listed; a refusal leaves it as it was
abbrev pub keys_left : List ℕ → Answer (List Entry) → List ℕ
keys_left d (ok es) = pasted d 0 (keys_of es)
keys_left d (refused r p) = d

abbrev pub numbers_left : ℕ → List ℕ → Answer (List Entry) → List ℕ
numbers_left at d (ok es) = pasted d 0 (numbers_from at es)
numbers_left at d (refused r p) = d

-- ---- at most so many items

-- the outer length and at most n items of a group whose key is good: `read_body` with another number of items
unfoldable pub read_up_to : ℕ → List ℕ → List ℕ → List ℕ → Answer (List Entry)
read_up_to n tags packs group =
    after_length (drop 16 group) (read_as Ber (drop 16 group)) (λ (body : List ℕ). read_items (under (take 16 group) tags packs) n 0 body)

-- ---- the listing

-- the width of the outer length as it was sent
abbrev pub width_of : Read → ℕ
width_of (Ok n) = n.width
width_of (Err e) = 0

-- where a group's first item begins
unfoldable pub start : List ℕ → ℕ
start group = 16 + width_of (read_as Ber (drop 16 group))

-- the entries, if both slices have room for them
unfoldable pub listing_of : List ℕ → List ℕ → List ℕ → ℕ → ℕ → Answer (List Entry)
listing_of tags packs group key_room number_room =
    and_then (read tags packs group) (λ (es : List Entry).
    check (both (leb (16 * length es) key_room) (leb (3 * length es) number_room)) ShortSlice (ok es))

-- ---- longer forms

-- an item of a group of this kind had a longer BER form than needed: its length is BER, and the writer uses fewer bytes
abbrev pub is_longer : Kind → Entry → Bool
is_longer kind e = both (ber_lengths kind) (longer (length e.value) e.width)

-- an item in front of others that had, if it had one too
abbrev pub kept_longer : Kind → Entry → List Entry → List Entry
kept_longer kind e es = pick (is_longer kind e) (e ∷ es) es

-- the items that had
unfoldable pub longer_items : Kind → List Entry → List Entry
longer_items kind [] = []
longer_items kind (e ∷ es) = kept_longer kind e (longer_items kind es)

-- The length of an item that begins at an offset of s, read where it stands: under BER lengths this tells how many bytes the
-- value has and how many the length occupied, and fewer would do exactly if the item is one of those.
abbrev pub Sent : Kind → List ℕ → ℕ → Entry → Type 0
Sent kind s at e = ber_lengths kind ≡ true → ber_length (drop (at + e.label) s) ≡ Ok (record { number = record { value = length e.value; width = e.width }; longer = is_longer kind e })

-- ---- by value

-- how many items, and how many of them had a longer form; or the refusal
abbrev pub listed : Kind → Answer (List Entry) → Result Listed (Refused Refusal)
listed kind (ok es) = Ok (record { count = length es; longer = length (longer_items kind es) })
listed kind (refused r p) = Err (record { why = r; place = p })

-- what each case of the result says in 01's words: the count, or number and place
abbrev pub listing_says : Result Listed (Refused Refusal) → Said
listing_says (Ok l) = accepted l.count
listing_says (Err e) = numbered (number_of e.why) e.place

-- and in 02's: how many items had a longer form, if the group is listed
abbrev pub longer_says : Result Listed (Refused Refusal) → Option ℕ
longer_says (Ok l) = some l.longer
longer_says (Err e) = none

abbrev pub longer_said : Kind → Answer (List Entry) → Option ℕ
longer_said kind (ok es) = some (length (longer_items kind es))
longer_said kind (refused r p) = none

-- the contract of the listing: d and e are the slices of keys and numbers at entry, x and y at exit, r the answer
pub record Lists (tags packs group d x e y : List ℕ) (r : Result Listed (Refused Refusal)) : Type 0 where
  -- the count, and how many items had a longer form; or the refusal with its place
  pub answer : r ≡ listed (kind_of (take 16 group)) (listing_of tags packs group (length d) (length e))
  -- in 01's words: the count, or number and place
  pub says : listing_says r ≡ said (listing_of tags packs group (length d) (length e))
  -- in 02's: how many items had a longer form
  pub longer_forms : longer_says r ≡ longer_said (kind_of (take 16 group)) (listing_of tags packs group (length d) (length e))
  -- keys and numbers at the front of the slices; a refusal leaves both as they were
  pub keys : x ≡ keys_left d (listing_of tags packs group (length d) (length e))
  pub numbers : y ≡ numbers_left (start group) e (listing_of tags packs group (length d) (length e))
