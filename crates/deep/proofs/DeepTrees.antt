-- Every tree that a deep operation reads: how deep it is, where its values stand, and what its lengths tell there.
use mathlib.Core.Path.{◌≡◌, refl, sym, ap, ◌∙◌}
use mathlib.Core.List.{List, [], ◌∷◌, ◌++◌}
use Prim.Native.Nat.{ℕ, zero, suc, ◌+◌, ◌-◌, ◌≤◌}
use native.Mathlib.Omega.{arith}
use lib.ListN.{length, take, drop, length-drop, take-append-drop}
use lib.Seq.{drop-drop, take_all, take-take}
use Rattle.groups.specs.Refusal as plain
use Rattle.groups.specs.Read.{Entry, Under, under, read_item, size}
use Rattle.groups.specs.declared.kind.Kind.{Kind}
use Rattle.groups.specs.Kind.{kind_of}
use Rattle.groups.specs.Listing.{start, Sent}
use Rattle.groups.proofs.item.EntryStands.{item_stands}
use Rattle.groups.proofs.item.LengthSent.{sent_at}
use Rattle.deep.specs.Tree.{ok, Tree, Inside, opened, tree_of, inside_of, deep_read}
use Rattle.deep.specs.DeepText.{Levels, EachItem, Stands, DeepTree}
use Rattle.deep.proofs.TreeLaws.{tree_none, tree_told, inside_none, inside_opened}
use Rattle.deep.proofs.SetItems.{under_kind}
use Rattle.deep.proofs.FineTrees.{Fine, fine_end, fine_leaf, fine_nest}
use Rattle.deep.proofs.DeepTheorem.{deep_told, deep_fine}

-- ---- how deep

levels : {deeper left : ℕ} {t : Tree} → Fine deeper left t → Levels deeper t
levels fine_end = tt
levels (fine_leaf k o h f) = levels f
levels (fine_nest q o h a b) = rw q (levels a, rw q at (levels b))

-- ---- where the values stand

-- l is a part of the group that begins at an offset
abbrev Part : List ℕ → ℕ → List ℕ → Type 0
Part group at l = l ≡ take (length l) (drop at group)

take_none : (n : ℕ) → ◌≡◌ {A = List ℕ} [] (take n [])
take_none zero = refl
take_none (suc n) = refl

drop_part : (k m : ℕ) (l : List ℕ) → drop k (take m l) ≡ take (m - k) (drop k l)
drop_part zero m l = let z : m - 0 ≡ m = omega arith in rw z
drop_part (suc k) zero l = let z : zero - suc k ≡ 0 = omega arith in rw z
drop_part (suc k) (suc m) [] = take_none (suc m - suc k)
drop_part (suc k) (suc m) (b ∷ bs) = let z : suc m - suc k ≡ m - k = omega arith in rw z (drop_part k m bs)

-- a part of a part
part_drop : (group : List ℕ) (at k : ℕ) (l : List ℕ) → Part group at l → Part group (at + k) (drop k l)
part_drop group at k l p =
    ap (drop k) p ∙ drop_part k (length l) (drop at group) ∙ ap (take (length l - k)) (drop-drop k at group) ∙ (rw (← length-drop k l) refl)

part_take : (group : List ℕ) (at n : ℕ) (l : List ℕ) → Part group at l → n ≤ length l → take n l ≡ take n (drop at group)
part_take group at n l p h = ap (take n) p ∙ take-take n (length l) (drop at group) h

-- the value of an item that was read
value_part : (group : List ℕ) (at : ℕ) (u : Under) (place : ℕ) (l : List ℕ) (e : Entry) → Part group at l → read_item u place l ≡ plain.ok e → Part group (at + e.label + e.width) e.value
value_part group at u place l e p r =
    let s = item_stands u place l e r in
    let d : length (drop (e.label + e.width) l) ≡ length l - (e.label + e.width) = length-drop (e.label + e.width) l in
    let z : at + e.label + e.width ≡ at + (e.label + e.width) = omega arith in
    s.value
    ∙ part_take group (at + (e.label + e.width)) (length e.value) (drop (e.label + e.width) l) (part_drop group at (e.label + e.width) l p) (omega (arith, s.lies))
    ∙ ap (λ (x : ℕ). take (length e.value) (drop x group)) (sym z)

-- ---- what the lengths tell

sent_part : (group : List ℕ) (at : ℕ) (u : Under) (place : ℕ) (l : List ℕ) (e : Entry) → Part group at l → read_item u place l ≡ plain.ok e → Sent u.kind group at e
sent_part group at u place l e p r =
    let z : drop at group ≡ l ++ drop (length l) (drop at group) = sym (take-append-drop (length l) (drop at group)) ∙ ap (λ (x : List ℕ). x ++ drop (length l) (drop at group)) (sym p) in
    sent_at u place group l (drop (length l) (drop at group)) at e z r

-- ---- what holds of an item wherever it is read holds of each item of a tree

module _ (P : Kind → ℕ → Entry → Type 0) (group : List ℕ)
    (holds : (at : ℕ) (u : Under) (place : ℕ) (l : List ℕ) (e : Entry) → Part group at l → read_item u place l ≡ plain.ok e → P u.kind at e) where
  each_opened : (look : List ℕ → List ℕ → Inside) (u : Under) (left place at : ℕ) (l : List ℕ) (t : Tree)
      → ((k v : List ℕ) (inner : Tree) (o : ℕ) → look k v ≡ opened inner → Part group o v → EachItem P (kind_of k) o inner) → Part group at l → tree_of look u left place l ≡ ok t
      → EachItem P u.kind at t
  each_opened look u zero place at l t f p q = rw (tree_none look u place l t q) tt
  each_opened look u (suc left) place at l t f p q =
      tree_told look u left place l t q
      (λ b z. rw z tt)
      (λ e s r c a z. rw z
      (holds at u place l e p r, each_opened look u left (suc place) (at + size e) (drop (size e) l) s f (part_drop group at (size e) l p) a))
      (λ e inner s r c a z. rw z (
        holds at u place l e p r,
        f e.key e.value inner (at + e.label + e.width) c (value_part group at u place l e p r),
        each_opened look u left (suc place) (at + size e) (drop (size e) l) s f (part_drop group at (size e) l p) a,
      ))

  each_item : (deeper : ℕ) (tags k : List ℕ) (left place at : ℕ) (l : List ℕ) (t : Tree) → Part group at l → tree_of (inside_of deeper tags) (under k tags []) left place l ≡ ok t
      → EachItem P (kind_of k) at t
  each_item zero tags k left place at l t p q =
      rw (under_kind k tags []) at (each_opened (inside_of zero tags) (under k tags []) left place at l t (λ c v inner o e h. inside_none tags c v inner e) p q)
  each_item (suc deeper) tags k left place at l t p q =
      rw (under_kind k tags []) at (each_opened (inside_of (suc deeper) tags) (under k tags []) left place at l t
      (λ c v inner o e h. each_item deeper tags c 256 0 o v inner h (inside_opened deeper tags c v inner e).1) p q)

-- ---- all of it, of every accepted group

pub deep_tree : (tags group : List ℕ) (t : Tree) → deep_read tags group ≡ ok t → DeepTree group t
unfolding start
deep_tree tags group t e =
    let d = deep_told tags group t e in
    let b : drop d.width (drop 16 group) ≡ drop (16 + d.width) group = drop-drop d.width 16 group in
    let p : Part group (16 + d.width) (drop (16 + d.width) group) = sym (take_all (length (drop (16 + d.width) group)) (drop (16 + d.width) group) (omega arith)) in
    record {
      deepest = levels (deep_fine tags group t e);
      offsets = rw d.outer (each_item (Stands group) group (λ at u place l i s r. sym (value_part group at u place l i s r)) 3 tags (take 16 group) 256 0 (16 + d.width) (drop (16 + d.width) group) t p (rw b at d.body));
      lengths = rw d.outer (each_item (λ (kind : Kind) (at : ℕ) (i : Entry). Sent kind group at i) group (sent_part group) 3 tags (take 16 group) 256 0 (16 + d.width) (drop (16 + d.width) group) t p (rw b at d.body));
    }
