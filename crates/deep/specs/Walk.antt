-- What the walks over a tree do: measuring, writing, listing; of private functions only.
use Rattle.std.specs.Prelude.{ℕ, suc, ◌+◌, ◌*◌, ◌<◌, ◌≤◌, ◌≡◌, Bool, true, false, List, [], ◌∷◌, ◌++◌, Result, Ok, Err, length, get_or, drop, set}
use Rattle.klv.specs.Bytes.{pasted}
use Rattle.klv.specs.Pick.{pick}
use Rattle.klv.specs.Layout.{written}
use Rattle.klv.specs.declared.layout.Form.TheVariants.{Ber}
use Rattle.groups.specs.declared.kind.Kind.{Kind}
use Rattle.groups.specs.declared.refusal.Refusal.{Refusal}
use Rattle.groups.specs.declared.refusal.Refused.{Refused}
use Rattle.groups.specs.Arrays.{Put}
use Rattle.groups.specs.Kind.{kind_of}
use Rattle.groups.specs.Refusal as plain
use Rattle.groups.specs.Tables.{table_of}
use Rattle.groups.specs.Read.{Entry, Under, read_item, set_under}
use Rattle.groups.specs.Write.{group as grouped}
use Rattle.deep.specs.declared.fault.Fault.{Fault}
use Rattle.deep.specs.declared.fault.Fault.TheVariants.{Plain, TooDeep, Unread}
use Rattle.deep.specs.declared.set.Member.{Member}
use Rattle.groups.specs.declared.listing.Listed.{Listed}
use Rattle.deep.specs.declared.walk.Walked.{Walked}
use Rattle.deep.specs.declared.write.Spot.{Spot}
use Rattle.deep.specs.Tree.{Answer, ok, refused, Tree, end, leaf, nest, Inside, closed, opened, too_deep, unread, tree_of, inside_of}
use Rattle.deep.specs.Deep.{as_universal, universal_bytes, universal_set, count_of, tree_keys, tree_numbers, tree_longer}

-- the items of a set of this kind, below which `deeper` levels may be opened
abbrev pub set_tree : ℕ → List ℕ → Kind → List ℕ → Answer Tree
set_tree deeper tags kind s = tree_of (inside_of deeper tags) (set_under kind (table_of tags)) 256 0 s

-- how many bytes a key, the length n and n bytes take
unfoldable pub framed : ℕ → ℕ
framed n = 16 + length (written Ber n) + n

-- ---- one item

-- an item that begins at an offset of its set, by value: where its value stands, its key, and how many bytes its length
-- occupied; `row` is the record to try first for the next one
abbrev pub member_of : ℕ → ℕ → plain.Answer Entry → Result Member Refusal
member_of at row (plain.ok e) =
    Ok (record { from = at + e.label + e.width; end = at + e.label + e.width + length e.value; key = e.key; width = e.width; row = row })
member_of at row (plain.refused r p) = Err r

-- the item at an offset of a set; its place does not show, and the record to try first for the next one is a guess, whatever
-- it is
pub record MemberOf (u : Under) (s : List ℕ) (at : ℕ) (r : Result Member Refusal) : Type 0 where
  pub row : ℕ
  pub reads : (place : ℕ) → r ≡ member_of at row (read_item u place (drop at s))

-- ---- the sizes of nested sets, in the order of their items

-- how many bytes the items of each nested set take in universal form
unfoldable pub set_sizes : Tree → List ℕ
set_sizes end = []
set_sizes (leaf e t) = set_sizes t
set_sizes (nest e inner t) = length (universal_bytes inner) ∷ (set_sizes inner ++ set_sizes t)

-- numbers stored from k on, as far as there is room
unfoldable pub noted : List ℕ → ℕ → List ℕ → List ℕ
noted d k [] = d
noted d k (x ∷ xs) = noted (set d k x) (suc k) xs

-- the numbers stand from k on, as far as there is room
pub record Noted (m : List ℕ) (k : ℕ) (l : List ℕ) : Type 0 where
  pub each : (i : ℕ) → i < length l → k + i < length m → get_or m (k + i) 0 ≡ get_or l i 0

-- ---- measuring

abbrev pub walked : Answer Tree → Result Walked (Refused Fault)
walked (ok t) = Ok (record { size = length (universal_bytes t); count = count_of t; sets = length (set_sizes t) })
walked (refused r p) = Err (record { why = r; place = p })

-- the total with one item more
abbrev pub total_plus : Walked → Walked → Walked
total_plus t w = record { size = t.size + framed w.size; count = t.count + (1 + w.count); sets = t.sets + w.sets }

-- all of them are small
pub record Small (t w : Walked) : Type 0 where
  pub total : t.size ≤ 0x0FFF_FFFF
  pub counted : t.count ≤ 0x0FFF_FFFF
  pub opened_sets : t.sets ≤ 0x0FFF_FFFF
  pub inner : w.size ≤ 0x0FFF_FFFF
  pub more : w.count ≤ 0x0FFF_FFFF
  pub more_sets : w.sets ≤ 0x0FFF_FFFF

abbrev pub sizes_of : Answer Tree → List ℕ
sizes_of (ok t) = set_sizes t
sizes_of (refused r p) = []

-- whether items read
abbrev pub reads : Answer Tree → Bool
reads (ok t) = true
reads (refused r p) = false

-- d and x are the sizes before and after; those of nested sets stand from `first` on
pub record Walks (a : Answer Tree) (first : ℕ) (d x : List ℕ) (r : Result Walked (Refused Fault)) : Type 0 where
  pub answer : r ≡ walked a
  pub sizes : reads a ≡ true → x ≡ noted d first (sizes_of a)

-- an item at a place, whose value has n bytes
abbrev pub inside_walked : ℕ → ℕ → Inside → Result Walked (Refused Fault)
inside_walked place n closed = Ok (record { size = n; count = 0; sets = 0 })
inside_walked place n (opened t) = Ok (record { size = length (universal_bytes t); count = count_of t; sets = suc (length (set_sizes t)) })
inside_walked place n too_deep = Err (record { why = TooDeep; place = place })
inside_walked place n unread = Err (record { why = Unread; place = place })

abbrev pub inside_sizes : Inside → List ℕ
inside_sizes closed = []
inside_sizes (opened t) = length (universal_bytes t) ∷ set_sizes t
inside_sizes too_deep = []
inside_sizes unread = []

abbrev pub inside_reads : Inside → Bool
inside_reads closed = true
inside_reads (opened t) = true
inside_reads too_deep = false
inside_reads unread = false

pub record InsideWalks (place n : ℕ) (i : Inside) (first : ℕ) (d x : List ℕ) (r : Result Walked (Refused Fault)) : Type 0 where
  pub answer : r ≡ inside_walked place n i
  pub sizes : inside_reads i ≡ true → x ≡ noted d first (inside_sizes i)

-- a nested set's fault, to the item that holds it
abbrev pub inner_fault : Fault → Fault
inner_fault (Plain r) = Unread
inner_fault TooDeep = TooDeep
inner_fault Unread = Unread

-- ---- writing

-- the items in universal form, and a whole set of them
abbrev pub bytes_of : Answer Tree → List ℕ
bytes_of (ok t) = universal_bytes t
bytes_of (refused r p) = []

abbrev pub group_bytes : List ℕ → Answer Tree → List ℕ
group_bytes group (ok t) = universal_set group t
group_bytes group (refused r p) = []

abbrev pub item_bytes : List ℕ → List ℕ → Inside → List ℕ
item_bytes key value closed = grouped key value
item_bytes key value (opened t) = grouped (as_universal key) (universal_bytes t)
item_bytes key value too_deep = []
item_bytes key value unread = []

-- l is written over d at a position, and n nested sets are among it, the first of them set k: x is left, and r says what is next
pub record PutSets (d : List ℕ) (at : ℕ) (l x : List ℕ) (k n : ℕ) (r : Spot) : Type 0 where
  pub put : Put d at l x r.at
  pub sets : r.set ≡ k + n

-- ---- listing

abbrev pub count_in : Answer Tree → ℕ
count_in (ok t) = count_of t
count_in (refused r p) = 0

abbrev pub keys_in_tree : Answer Tree → List ℕ
keys_in_tree (ok t) = tree_keys t
keys_in_tree (refused r p) = []

abbrev pub numbers_in : ℕ → ℕ → Answer Tree → List ℕ
numbers_in at depth (ok t) = tree_numbers at depth t
numbers_in at depth (refused r p) = []

-- how many items had a longer BER form than needed, in a set of this kind
abbrev pub longer_in : Kind → Answer Tree → ℕ
longer_in kind (ok t) = length (tree_longer kind t)
longer_in kind (refused r p) = 0

-- the items inside an item whose value stands at an offset
abbrev pub inside_count : Inside → ℕ
inside_count closed = 0
inside_count (opened t) = count_of t
inside_count too_deep = 0
inside_count unread = 0

abbrev pub inside_keys : Inside → List ℕ
inside_keys closed = []
inside_keys (opened t) = tree_keys t
inside_keys too_deep = []
inside_keys unread = []

abbrev pub inside_numbers : ℕ → ℕ → Inside → List ℕ
inside_numbers offset depth closed = []
inside_numbers offset depth (opened t) = tree_numbers offset depth t
inside_numbers offset depth too_deep = []
inside_numbers offset depth unread = []

-- of those inside an item with this key
abbrev pub inside_longer : List ℕ → Inside → ℕ
inside_longer key closed = 0
inside_longer key (opened t) = length (tree_longer (kind_of key) t)
inside_longer key too_deep = 0
inside_longer key unread = 0

-- the items so far, if the last had a longer form
unfoldable pub tallied_one : Listed → Bool → Listed
tallied_one t more = record { count = t.count; longer = t.longer + pick more 1 0 }

-- so many items are listed over d and e, as items n and on: x and y are left, and the next item's number is `next`
pub record ListedAt (count n : ℕ) (keys numbers d x e y : List ℕ) (next : ℕ) : Type 0 where
  pub end : next ≡ n + count
  pub key_bytes : x ≡ pasted d (16 * n) keys
  pub triples : y ≡ pasted e (3 * n) numbers

-- the same after the items so far; `more` of these items had a longer form
pub record Tallied (count more : ℕ) (n : Listed) (keys numbers d x e y : List ℕ) (next : Listed) : Type 0 where
  pub listed : ListedAt count n.count keys numbers d x e y next.count
  pub longer : next.longer ≡ n.longer + more

-- room for so many items from item n on
pub record Room (count n : ℕ) (d e : List ℕ) : Type 0 where
  pub keys : 16 * (n + count) ≤ length d
  pub numbers : 3 * (n + count) ≤ length e
