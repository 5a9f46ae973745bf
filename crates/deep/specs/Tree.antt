-- Sets inside sets (02, point 1): the tree of a set's items.
use Rattle.std.specs.Prelude.{ℕ, zero, suc, ◌-◌, Bool, true, false, List, [], ◌∷◌, Ok, Err, leb, eqb, length, take, drop}
use Rattle.klv.specs.Pick.{pick}
use Rattle.klv.specs.Layout.{read_as}
use Rattle.klv.specs.declared.layout.Form.TheVariants.{Ber}
use Rattle.klv.specs.Number.{Read}
use Rattle.groups.specs.declared.kind.Kind.{Kind}
use Rattle.groups.specs.declared.kind.Kind.TheVariants.{Universal, Global, Local, Variable, Defined, NoGroup}
use Rattle.groups.specs.declared.refusal.Refusal.{Refusal}
use Rattle.groups.specs.declared.refusal.Refusal.TheVariants.{TagTable, Oversize, GroupKey, OuterLength, Count}
use Rattle.groups.specs.Refusal as plain
use Rattle.groups.specs.Kind.{kind_of}
use Rattle.groups.specs.Tables.{tag_table_ok}
use Rattle.groups.specs.Read.{Entry, Under, under, read_item, ended, size}
use Rattle.deep.specs.declared.fault.Fault.{Fault}
use Rattle.deep.specs.declared.fault.Fault.TheVariants.{Plain, TooDeep, Unread}

-- a value, or a refusal with its place
pub data Answer (A : Type 0) : Type 0 where
  ok : A → Answer A
  refused : Fault → ℕ → Answer A

-- go on where the answer is a value
abbrev pub and_then : {A B : Type 0} → Answer A → (A → Answer B) → Answer B
and_then (ok a) f = f a
and_then (refused r p) f = refused r p

-- go on where the test holds, else refuse at place 0
abbrev pub check : {A : Type 0} → Bool → Refusal → Answer A → Answer A
check true r a = a
check false r a = refused (Plain r) 0

-- an answer of the plain reading
abbrev pub of_plain : {A : Type 0} → plain.Answer A → Answer A
of_plain (plain.ok a) = ok a
of_plain (plain.refused r p) = refused (Plain r) p

-- the kinds that are opened: universal and local sets
abbrev pub opens : Kind → Bool
opens Universal = true
opens (Global y) = false
opens (Local t y) = true
opens (Variable y) = false
opens Defined = false
opens NoGroup = false

-- the items of a set in order: one that is not opened, or a nested set with its own items
pub data Tree : Type 0 where
  end : Tree
  leaf : Entry → Tree → Tree
  nest : Entry → Tree → Tree → Tree

-- what stands inside an item: bytes; the items of a nested set; a set too deep; a nested value that does not read
pub data Inside : Type 0 where
  closed : Inside
  opened : Tree → Inside
  too_deep : Inside
  unread : Inside

-- an item at its place, with what stands inside it, and the items after it
abbrev pub grow : ℕ → Entry → Inside → Answer Tree → Answer Tree
grow place e closed (ok t) = ok (leaf e t)
grow place e closed (refused r p) = refused r p
grow place e (opened inner) (ok t) = ok (nest e inner t)
grow place e (opened inner) (refused r p) = refused r p
grow place e too_deep a = refused TooDeep place
grow place e unread a = refused Unread place

-- At most `left` items more, the next at `place`; `look` opens an item as soon as its span is read.
unfoldable pub tree_of : (List ℕ → List ℕ → Inside) → Under → ℕ → ℕ → List ℕ → Answer Tree
tree_of look u zero place [] = ok end
tree_of look u zero place (b ∷ bs) = refused (Plain Count) place
tree_of look u (suc left) place l =
    pick (ended u l) (ok end)
    (and_then (of_plain (read_item u place l)) (λ (e : Entry).
    grow place e (look e.key e.value) (tree_of look u left (suc place) (drop (size e) l))))

-- a nested value that does not read is 18, and a set too deep inside it is 17
abbrev pub nested : Answer Tree → Inside
nested (ok t) = opened t
nested (refused TooDeep p) = too_deep
nested (refused Unread p) = unread
nested (refused (Plain r) p) = unread

-- What stands inside an item with this key and value, of a set below which `deeper` levels may be opened: a nested set is
-- known by its key, has its items as value, at most 256, and uses the same tag table.
unfoldable pub inside_of : ℕ → List ℕ → List ℕ → List ℕ → Inside
inside_of zero tags key value = pick (opens (kind_of key)) too_deep closed
inside_of (suc deeper) tags key value =
    pick (opens (kind_of key)) (nested (tree_of (inside_of deeper tags) (under key tags []) 256 0 value)) closed

-- the outer length is BER and equals the bytes after it
abbrev pub after_length : List ℕ → Read → (List ℕ → Answer Tree) → Answer Tree
after_length l (Ok n) go = check (eqb n.value (length l - n.width)) OuterLength (go (drop n.width l))
after_length l (Err e) go = refused (Plain OuterLength) 0

-- The outer length and the items of a set whose key is good: the outermost set has depth 1, and depth 4 is the deepest.
unfoldable pub deep_body : List ℕ → List ℕ → Answer Tree
deep_body tags group =
    after_length (drop 16 group) (read_as Ber (drop 16 group))
    (λ (body : List ℕ). tree_of (inside_of 3 tags) (under (take 16 group) tags []) 256 0 body)

-- Refusals 1, 4, 5, 7; then for each outermost item 10, 8, 19, 20, 9, 17 or 18.
unfoldable pub deep_read : List ℕ → List ℕ → Answer Tree
deep_read tags group =
    check (tag_table_ok tags) TagTable
    (check (leb (length group) 65536) Oversize
    (check (opens (kind_of (take 16 group))) GroupKey
    (deep_body tags group)))
