-- Bounds of a tree that was read: its items in universal form, how many items it has, and the place of a refusal.
use mathlib.Core.Path.{◌≡◌}
use mathlib.Core.Bool.{true}
use mathlib.Core.List.{List, [], ◌++◌}
use Prim.Native.Nat.{ℕ, zero, suc, ◌+◌, ◌*◌, ◌<◌, ◌≤◌}
use native.Mathlib.Omega.{arith}
use lib.ListN.{length, drop, length-append, length-drop, length-set}
use Rattle.klv.specs.Layout.{written}
use Rattle.klv.specs.declared.layout.Form.TheVariants.{Ber}
use Rattle.klv.proofs.LayoutLaws.{written_most}
use Rattle.groups.specs.Tables.{table_of}
use Rattle.groups.specs.Read.{Entry, Under, under, size}
use Rattle.groups.specs.Write.{group as grouped}
use Rattle.groups.proofs.item.EntryLaws.{entry_within, item_place}
use Rattle.deep.specs.declared.fault.Fault.{Fault}
use Rattle.deep.specs.Tree.{ok, refused, opens, Tree, end, leaf, nest, Inside, opened, tree_of, inside_of}
use Rattle.deep.specs.Deep.{as_universal, universal_bytes, count_of}
use Rattle.deep.specs.Walk.{set_sizes}
use Rattle.deep.proofs.TreeLaws.{tree_none, tree_told, tree_over, tree_refused, inside_none, inside_opened}
use Rattle.deep.proofs.SetItems.{set_width, set_key_law, under_kind, under_tags}

-- ---- the bytes in universal form

-- key and length have at most 25 bytes
group_most : (k v : List ℕ) → length k ≡ 16 → length (grouped k v) ≤ 25 + length v
group_most k v h =
    omega (arith, length-append k (written Ber (length v) ++ v), length-append (written Ber (length v)) v, written_most Ber (length v))

-- an item that was read, and the rest of the bytes: in universal form at most 26 times as long
step_size : (l : List ℕ) (e : Entry) (k v r : List ℕ) → size e ≤ length l → 0 < e.width → length k ≡ 16 → length v ≤ 26 * length e.value
    → length r ≤ 26 * length (drop (size e) l) → length (grouped k v ++ r) ≤ 26 * length l
step_size l e k v r a b c d f =
    omega (arith, length-append (grouped k v) r, group_most k v c, length-drop (size e) l)

-- where what is opened is at most 26 times as long
items_size : (look : List ℕ → List ℕ → Inside) (u : Under) (tags : List ℕ) (left place : ℕ) (l : List ℕ) (t : Tree)
    → ((k v : List ℕ) (inner : Tree) → look k v ≡ opened inner → length (universal_bytes inner) ≤ 26 * length v)
    → opens u.kind ≡ true → u.tags ≡ table_of tags → tree_of look u left place l ≡ ok t → length (universal_bytes t) ≤ 26 * length l
unfolding universal_bytes
items_size look u tags zero place l t f o g q = rw (tree_none look u place l t q) (omega arith)
items_size look u tags (suc left) place l t f o g q =
    tree_told look u left place l t q
    (λ b z. rw z (omega arith))
    (λ e s r c a z. rw z
    (step_size l e e.key e.value (universal_bytes s) (entry_within u place l e r) (set_width u place l e o r) (set_key_law u tags place l e o g r)
    (omega arith)
    (items_size look u tags left (suc place) (drop (size e) l) s f o g a)))
    (λ e inner s r c a z. rw z
    (step_size l e (as_universal e.key) (universal_bytes inner) (universal_bytes s) (entry_within u place l e r) (set_width u place l e o r)
    (rw (length-set e.key 5 1) (set_key_law u tags place l e o g r))
    (f e.key e.value inner c)
    (items_size look u tags left (suc place) (drop (size e) l) s f o g a)))

-- the items in universal form are at most 26 times as long as they were
pub tree_size : (deeper : ℕ) (tags : List ℕ) (u : Under) (left place : ℕ) (l : List ℕ) (t : Tree) → opens u.kind ≡ true → u.tags ≡ table_of tags
    → tree_of (inside_of deeper tags) u left place l ≡ ok t → length (universal_bytes t) ≤ 26 * length l
tree_size zero tags u left place l t o g q =
    items_size (inside_of zero tags) u tags left place l t (λ k v inner e. inside_none tags k v inner e) o g q
tree_size (suc deeper) tags u left place l t o g q =
    items_size (inside_of (suc deeper) tags) u tags left place l t
    (λ k v inner e.
    let p = inside_opened deeper tags k v inner e in
    tree_size deeper tags (under k tags []) 256 0 v inner (rw (under_kind k tags []) p.0) (under_tags k tags []) p.1)
    o g q

-- ---- how many items

-- where what is opened has at most as many items as bytes
items_count : (look : List ℕ → List ℕ → Inside) (u : Under) (left place : ℕ) (l : List ℕ) (t : Tree)
    → ((k v : List ℕ) (inner : Tree) → look k v ≡ opened inner → count_of inner ≤ length v)
    → opens u.kind ≡ true → tree_of look u left place l ≡ ok t → count_of t ≤ length l
unfolding count_of
items_count look u zero place l t f o q = rw (tree_none look u place l t q) (omega arith)
items_count look u (suc left) place l t f o q =
    tree_told look u left place l t q
    (λ b z. rw z (omega arith))
    (λ e s r c a z. rw z
    (omega (
      arith,
      entry_within u place l e r,
      set_width u place l e o r,
      items_count look u left (suc place) (drop (size e) l) s f o a,
      length-drop (size e) l,
    )))
    (λ e inner s r c a z. rw z
    (omega (
      arith,
      entry_within u place l e r,
      set_width u place l e o r,
      f e.key e.value inner c,
      items_count look u left (suc place) (drop (size e) l) s f o a,
      length-drop (size e) l,
    )))

-- a tree has at most as many items as bytes, the nested ones included
pub tree_count : (deeper : ℕ) (tags : List ℕ) (u : Under) (left place : ℕ) (l : List ℕ) (t : Tree) → opens u.kind ≡ true
    → tree_of (inside_of deeper tags) u left place l ≡ ok t → count_of t ≤ length l
tree_count zero tags u left place l t o q =
    items_count (inside_of zero tags) u left place l t (λ k v inner e. inside_none tags k v inner e) o q
tree_count (suc deeper) tags u left place l t o q =
    items_count (inside_of (suc deeper) tags) u left place l t
    (λ k v inner e.
    let p = inside_opened deeper tags k v inner e in
    tree_count deeper tags (under k tags []) 256 0 v inner (rw (under_kind k tags []) p.0) p.1)
    o q

-- ---- refusals

-- no more nested sets than items
pub sets_few : (t : Tree) → length (set_sizes t) ≤ count_of t
unfolding set_sizes count_of
sets_few end = omega arith
sets_few (leaf e t) = omega (arith, sets_few t)
sets_few (nest e inner t) = omega (arith, sets_few inner, sets_few t, length-append (set_sizes inner) (set_sizes t))

-- a refusal comes at one of the places that were left, or right after them
pub tree_place : (look : List ℕ → List ℕ → Inside) (u : Under) (left place : ℕ) (l : List ℕ) (f : Fault) (p : ℕ)
    → tree_of look u left place l ≡ refused f p → p ≤ left + place
tree_place look u zero place l f p q = omega (arith, (tree_over look u place l f p q).1)
tree_place look u (suc left) place l f p q =
    tree_refused look u left place l f p q
    (λ r a b. omega (arith, item_place u place l r p a))
    (λ a b. omega arith)
    (λ a b. omega arith)
    (λ e a b. omega (arith, tree_place look u left (suc place) (drop (size e) l) f p b))
