-- The deep operations (02, point 1): a set with its nested sets in universal form, and the deep listing, which also tells how
-- many items had a longer BER form than needed (02, point 7).
use Rattle.std.specs.Prelude.{ℕ, suc, ◌+◌, ◌*◌, ◌≡◌, List, [], ◌∷◌, ◌++◌, Result, Ok, Err, leb, length, take, set}
use Rattle.std.proofs.Math.Option.{Option, none, some}
use Rattle.klv.specs.Pick.{both}
use Rattle.klv.specs.Bytes.{pasted}
use Rattle.groups.specs.declared.refusal.Refusal.TheVariants.{LongOutput, ShortSlice}
use Rattle.groups.specs.declared.refusal.Refused.{Refused}
use Rattle.groups.specs.declared.kind.Kind.{Kind}
use Rattle.groups.specs.declared.listing.Listed.{Listed}
use Rattle.groups.specs.Kind.{kind_of}
use Rattle.groups.specs.Read.{Entry, size}
use Rattle.groups.specs.Write.{group as grouped}
use Rattle.groups.specs.Listing.{start, kept_longer}
use Rattle.groups.specs.Refusal.{number_of, Said, accepted, numbered}
use Rattle.deep.specs.declared.fault.Fault.{Fault}
use Rattle.deep.specs.declared.fault.Fault.TheVariants.{Plain, TooDeep, Unread}
use Rattle.deep.specs.Tree.{Answer, ok, refused, and_then, check, Tree, end, leaf, nest, deep_read}

-- the numbers of the refusals
unfoldable pub fault_number : Fault → ℕ
fault_number (Plain r) = number_of r
fault_number TooDeep = 17
fault_number Unread = 18

-- what an answer says in the papers' words
abbrev pub deep_says : Result ℕ (Refused Fault) → Said
deep_says (Ok n) = accepted n
deep_says (Err r) = numbered (fault_number r.why) r.place

-- ---- the deep write

-- a set's key with byte 6 made 01
abbrev pub as_universal : List ℕ → List ℕ
as_universal k = set k 5 0x01

-- the bytes of the items in universal form: key, BER length, value; of a nested set its items
unfoldable pub universal_bytes : Tree → List ℕ
universal_bytes end = []
universal_bytes (leaf e t) = grouped e.key e.value ++ universal_bytes t
universal_bytes (nest e inner t) = grouped (as_universal e.key) (universal_bytes inner) ++ universal_bytes t

-- a whole set of them, under the key of a group
abbrev pub universal_set : List ℕ → Tree → List ℕ
universal_set group t = grouped (as_universal (take 16 group)) (universal_bytes t)

-- the output, or the refusal with its place; `room` is the length of the lent output slice
unfoldable pub deep_of : List ℕ → List ℕ → ℕ → Answer (List ℕ)
deep_of tags group room =
    and_then (deep_read tags group) (λ (t : Tree).
    check (leb (length (universal_set group t)) 65536) LongOutput
    (check (leb (length (universal_set group t)) room) ShortSlice
    (ok (universal_set group t))))

-- what the call answers, and what it leaves of a slice that held d
abbrev pub deep_answer : Answer (List ℕ) → Result ℕ (Refused Fault)
deep_answer (ok w) = Ok (length w)
deep_answer (refused r p) = Err (record { why = r; place = p })

abbrev pub deep_left : List ℕ → Answer (List ℕ) → List ℕ
deep_left d (ok w) = pasted d 0 w
deep_left d (refused r p) = d

-- what an answer says: the output's length, or number and place
abbrev pub said_deep : Answer (List ℕ) → Said
said_deep (ok w) = accepted (length w)
said_deep (refused f p) = numbered (fault_number f) p

-- the contract of the deep write: d is the output slice at entry, x at exit, r the answer
pub record DeepWrites (tags group d x : List ℕ) (r : Result ℕ (Refused Fault)) : Type 0 where
  -- the output's length, or the refusal with its place
  pub answer : r ≡ deep_answer (deep_of tags group (length d))
  -- in the papers' words: the output's length, or the refusal's number and its place
  pub says : deep_says r ≡ said_deep (deep_of tags group (length d))
  -- the output at the front of the slice; a refusal leaves it as it was
  pub bytes : x ≡ deep_left d (deep_of tags group (length d))

-- ---- the deep listing

-- how many items, the nested ones included
unfoldable pub count_of : Tree → ℕ
count_of end = 0
count_of (leaf e t) = suc (count_of t)
count_of (nest e inner t) = suc (count_of inner + count_of t)

-- each nested item after its holder, with its key as it was sent
unfoldable pub tree_keys : Tree → List ℕ
tree_keys end = []
tree_keys (leaf e t) = e.key ++ tree_keys t
tree_keys (nest e inner t) = e.key ++ (tree_keys inner ++ tree_keys t)

-- the offset and length of each value, and the depth of the set that the item stands in; the first item begins at `at`
unfoldable pub tree_numbers : ℕ → ℕ → Tree → List ℕ
tree_numbers at depth end = []
tree_numbers at depth (leaf e t) = (at + e.label + e.width) ∷ length e.value ∷ depth ∷ tree_numbers (at + size e) depth t
tree_numbers at depth (nest e inner t) =
    (at + e.label + e.width) ∷ length e.value ∷ depth
    ∷ (tree_numbers (at + e.label + e.width) (suc depth) inner ++ tree_numbers (at + size e) depth t)

-- the items that had a longer BER form than needed, those inside an item after it; the outermost set is of this kind, and a
-- nested one of its own
unfoldable pub tree_longer : Kind → Tree → List Entry
tree_longer kind end = []
tree_longer kind (leaf e t) = kept_longer kind e (tree_longer kind t)
tree_longer kind (nest e inner t) = kept_longer kind e (tree_longer (kind_of e.key) inner ++ tree_longer kind t)

-- the tree, if both slices have room for its items
unfoldable pub deep_listing_of : List ℕ → List ℕ → ℕ → ℕ → Answer Tree
deep_listing_of tags group key_room number_room =
    and_then (deep_read tags group) (λ (t : Tree).
    check (both (leb (16 * count_of t) key_room) (leb (3 * count_of t) number_room)) ShortSlice (ok t))

-- what the listing answers, and what it leaves of slices that held d
abbrev pub listing_answer : Kind → Answer Tree → Result Listed (Refused Fault)
listing_answer kind (ok t) = Ok (record { count = count_of t; longer = length (tree_longer kind t) })
listing_answer kind (refused r p) = Err (record { why = r; place = p })

abbrev pub tree_keys_left : List ℕ → Answer Tree → List ℕ
tree_keys_left d (ok t) = pasted d 0 (tree_keys t)
tree_keys_left d (refused r p) = d

abbrev pub tree_numbers_left : ℕ → List ℕ → Answer Tree → List ℕ
tree_numbers_left at d (ok t) = pasted d 0 (tree_numbers at 1 t)
tree_numbers_left at d (refused r p) = d

-- what an answer says in the papers' words: the count, or number and place; and how many items had a longer form, if the set
-- is listed
abbrev pub deep_listed_says : Result Listed (Refused Fault) → Said
deep_listed_says (Ok l) = accepted l.count
deep_listed_says (Err r) = numbered (fault_number r.why) r.place

abbrev pub deep_longer_says : Result Listed (Refused Fault) → Option ℕ
deep_longer_says (Ok l) = some l.longer
deep_longer_says (Err r) = none

-- what an answer says so
abbrev pub said_tree : Answer Tree → Said
said_tree (ok t) = accepted (count_of t)
said_tree (refused f p) = numbered (fault_number f) p

abbrev pub said_longer : Kind → Answer Tree → Option ℕ
said_longer kind (ok t) = some (length (tree_longer kind t))
said_longer kind (refused f p) = none

-- the contract of the deep listing: d and e are the slices of keys and numbers at entry, x and y at exit, r the answer
pub record DeepLists (tags group d x e y : List ℕ) (r : Result Listed (Refused Fault)) : Type 0 where
  -- the count, and how many items had a longer form; or the refusal with its place
  pub answer : r ≡ listing_answer (kind_of (take 16 group)) (deep_listing_of tags group (length d) (length e))
  -- in the papers' words: the count, or the refusal's number and its place
  pub says : deep_listed_says r ≡ said_tree (deep_listing_of tags group (length d) (length e))
  -- and how many items had a longer form
  pub longer_forms : deep_longer_says r ≡ said_longer (kind_of (take 16 group)) (deep_listing_of tags group (length d) (length e))
  -- keys and numbers at the front of the slices; a refusal leaves both as they were
  pub keys : x ≡ tree_keys_left d (deep_listing_of tags group (length d) (length e))
  pub numbers : y ≡ tree_numbers_left (start group) e (deep_listing_of tags group (length d) (length e))
