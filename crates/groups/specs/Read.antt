-- Reading (01, "Reading and writing"): the items of a group in order, or a refusal with its place.
use Rattle.std.specs.Prelude.{ℕ, zero, suc, ◌+◌, ◌-◌, ◌/◌, ◌≤◌, ◌≡◌, Bool, true, false, List, [], ◌∷◌, map, leb, eqb, length, take, drop, Some, None, Result, Ok, Err}
use Rattle.std.proofs.Math.Option.{Option, none, some}
use Rattle.klv.specs.Pick.{pick}
use Rattle.klv.specs.Layout.{read_as}
use Rattle.klv.specs.Key.{key_at}
use Rattle.klv.specs.declared.layout.Form.{Form}
use Rattle.klv.specs.declared.layout.Form.TheVariants.{Ber}
use Rattle.klv.specs.Number.{Read}
use Rattle.groups.specs.declared.kind.Kind.{Kind}
use Rattle.groups.specs.declared.kind.Kind.TheVariants.{Universal, Global, Local, Variable, Defined, NoGroup}
use Rattle.groups.specs.declared.item.Item as declared
use Rattle.groups.specs.declared.item.SetItem.{SetItem}
use Rattle.groups.specs.declared.item.NoItem.{NoItem}
use Rattle.std.specs.Prelude as std
use Rattle.groups.specs.declared.root.Group.{Group}
use Rattle.groups.specs.declared.label.Label.{Label}
use Rattle.groups.specs.declared.label.LabelError.{LabelError}
use Rattle.groups.specs.declared.span.Span as spans
use Rattle.groups.specs.declared.refusal.Refusal.{Refusal}
use Rattle.groups.specs.declared.refusal.Refusal.TheVariants.{TagTable, PackTable, Oversize, GroupKey, OuterLength, Span, Count, Surplus}
use Rattle.groups.specs.Refusal.{Answer, ok, refused, and_then, check}
use Rattle.groups.specs.Kind.{kind_of, is_group, is_pack}
use Rattle.groups.specs.Root.{root_for, root_bytes}
use Rattle.groups.specs.Tables.{Table, table_of, find_tag, tag_table_ok, pack_table_ok}
use Rattle.groups.specs.Label.{key_label, label_refusal, read_label, set_label}
use Rattle.groups.specs.Span.{within, read_span}

-- an item: its full key and its value
pub record Item : Type 0 where
  pub key : List ℕ
  pub value : List ℕ

-- an item as it was read: also how many bytes its label and its length occupied
pub record Entry : Type 0 where
  pub key : List ℕ
  pub label : ℕ
  pub width : ℕ
  pub value : List ℕ

-- what a group is read or written under: its key's kind and root, and the two tables
pub record Under : Type 0 where
  pub kind : Kind
  pub root : List ℕ
  pub tags : Table
  pub packs : Table

-- the same of a group by value
abbrev pub under_of : Group → List ℕ → List ℕ → Under
under_of g tags packs = record { kind = g.kind; root = root_bytes g.root; tags = table_of tags; packs = table_of packs }

-- a pack has a record for each of its first n items
pub record Recorded (kind : Kind) (packs : List ℕ) (n : ℕ) : Type 0 where
  pub enough : is_pack kind ≡ true → n ≤ length packs / 20

-- ---- one item

-- the entry at the front of a list, from its label and its span
abbrev pub entry : List ℕ → List ℕ → ℕ → ℕ → ℕ → Entry
entry l k a w n = record { key = k; label = a; width = w; value = take n (drop (a + w) l) }

abbrev pub after_span : List ℕ → List ℕ → ℕ → std.Option spans.Span → ℕ → Answer Entry
after_span l k a (Some y) place = ok (entry l k a y.width y.length)
after_span l k a None place = refused Span place

abbrev pub after_label : Under → ℕ → List ℕ → Result Label LabelError → Answer Entry
after_label u place l (Ok x) = after_span l x.key x.width (read_span u.kind u.packs place (drop x.width l)) place
after_label u place l (Err why) = refused (label_refusal why) place

-- the item at the front of a list: its label, then its span
unfoldable pub read_item : Under → ℕ → List ℕ → Answer Entry
read_item u place l = after_label u place l (read_label u.kind u.root u.tags u.packs place l)

-- an item by value: its widths and its key, or why there is none
abbrev pub head_of : Answer Entry → Result declared.Item Refusal
head_of (ok e) = Ok (record { label = e.label; width = e.width; length = length e.value; key = e.key })
head_of (refused r p) = Err r

-- ---- one item of a universal or local set, for any table

-- what a universal or local set of a kind is read under
abbrev pub set_under : Kind → Table → Under
set_under kind tags = record { kind = kind; root = []; tags = tags; packs = table_of [] }

-- Its item, the tag looked up by halves after a guess: under a valid tag table it is the item of `read_item`, but for the place
-- of a refusal.
unfoldable pub set_item : Kind → Table → ℕ → List ℕ → Answer Entry
set_item kind tags guess l = after_label (set_under kind tags) 0 l (set_label kind tags guess l)

-- an item with a label of a bytes, which stands for a key, and a length in a layout; and a universal set's item
unfoldable pub spanned_item : Form → ℕ → List ℕ → List ℕ → Answer Entry
spanned_item f a k l = after_span l k a (within (length (drop a l)) (read_as f (drop a l))) 0

unfoldable pub keyed_item : List ℕ → Answer Entry
keyed_item l = after_label (set_under Universal (table_of [])) 0 l (key_label (key_at l))

-- the record after the one that was found, else the guess
abbrev pub row_after : ℕ → std.Option ℕ → ℕ
row_after guess (Some i) = i + 1
row_after guess None = guess

abbrev pub tag_row : Table → ℕ → Read → ℕ
tag_row tags guess (Ok n) = row_after guess (find_tag tags guess n.value)
tag_row tags guess (Err e) = guess

unfoldable pub set_row : Kind → Table → ℕ → List ℕ → ℕ
set_row Universal tags guess l = guess
set_row (Global y) tags guess l = guess
set_row (Local t y) tags guess l = tag_row tags guess (read_as t.form l)
set_row (Variable y) tags guess l = guess
set_row Defined tags guess l = guess
set_row NoGroup tags guess l = guess

-- an item by value, or why there is none, with the record to try first for the next one
abbrev pub with_row : Result declared.Item Refusal → ℕ → Result SetItem NoItem
with_row (Ok i) row = Ok (record { item = i; row = row })
with_row (Err r) row = Err (record { why = r; row = row })

-- ---- all items

-- how many bytes an entry occupied
abbrev pub size : Entry → ℕ
size e = e.label + e.width + length e.value

abbrev pub cons : Entry → Answer (List Entry) → Answer (List Entry)
cons e (ok es) = ok (e ∷ es)
cons e (refused r p) = refused r p

-- how many items a group may have: 256 in a set; in a pack as many as records
abbrev pub most : Under → ℕ
most u = pick (is_pack u.kind) u.packs.count 256

-- bytes that are left after them: 10 in a set, 11 in a pack
abbrev pub over : Under → Refusal
over u = pick (is_pack u.kind) Surplus Count

-- a set ends where its bytes end; a pack after its last record, and every record must be present
abbrev pub ended : Under → List ℕ → Bool
ended u [] = pick (is_pack u.kind) false true
ended u (b ∷ bs) = false

-- at most `left` items more, the next at `place`
unfoldable pub read_items : Under → ℕ → ℕ → List ℕ → Answer (List Entry)
read_items u zero place [] = ok []
read_items u zero place (b ∷ bs) = refused (over u) place
read_items u (suc left) place l =
    pick (ended u l) (ok [])
    (and_then (read_item u place l) (λ (e : Entry). cons e (read_items u left (suc place) (drop (size e) l))))

-- ---- a group

-- the outer length is BER and equals the bytes after it
abbrev pub after_length : List ℕ → Read → (List ℕ → Answer (List Entry)) → Answer (List Entry)
after_length l (Ok n) go = check (eqb n.value (length l - n.width)) OuterLength (go (drop n.width l))
after_length l (Err e) go = refused OuterLength 0

-- what the group with key k is read or written under
unfoldable pub under : List ℕ → List ℕ → List ℕ → Under
under k tags packs = record { kind = kind_of k; root = root_for (kind_of k) k; tags = table_of tags; packs = table_of packs }

-- the outer length and the items of a group whose key is good
unfoldable pub read_body : List ℕ → List ℕ → List ℕ → Answer (List Entry)
read_body tags packs group =
    after_length (drop 16 group) (read_as Ber (drop 16 group))
    (λ (body : List ℕ). read_items (under (take 16 group) tags packs) (most (under (take 16 group) tags packs)) 0 body)

-- under 16 bytes, no key, or no group kind
abbrev pub group_key_ok : List ℕ → Bool
group_key_ok group = is_group (kind_of (take 16 group))

-- refusals 1, 2, 4, 5, 7; for each item 10, 8, 19, 20, 9; then 11
unfoldable pub read : List ℕ → List ℕ → List ℕ → Answer (List Entry)
read tags packs group =
    check (tag_table_ok tags) TagTable
    (check (pack_table_ok packs) PackTable
    (check (leb (length group) 65536) Oversize
    (check (group_key_ok group) GroupKey
    (read_body tags packs group))))

-- the item list forgets the widths
abbrev pub item : Entry → Item
item e = record { key = e.key; value = e.value }

abbrev pub items : List Entry → List Item
items es = map item es

-- ---- bytes that read

-- the item list that bytes read as, if they read
abbrev pub items_of : Answer (List Entry) → Option (List Item)
items_of (ok es) = some (items es)
items_of (refused r p) = none

unfoldable pub reads_as : List ℕ → List ℕ → List ℕ → Option (List Item)
reads_as tags packs s = items_of (read tags packs s)
