-- The tree of a set's items, step by step: what reading it tells, and what reads as a tree.
use mathlib.Core.Path.{◌≡◌, refl, sym}
use mathlib.Core.Bool.{true, false}
use mathlib.Core.List.{List, [], ◌∷◌}
use Prim.Native.Nat.{ℕ, zero, suc}
use lib.ListN.{drop}
use Rattle.klv.proofs.Cases.{absurd_number, pick_cases}
use Rattle.groups.specs.declared.refusal.Refusal.{Refusal}
use Rattle.groups.specs.declared.refusal.Refusal.TheVariants.{Count}
use Rattle.groups.specs.Refusal as plain
use Rattle.groups.specs.Kind.{kind_of, is_pack}
use Rattle.groups.specs.Read.{Entry, Under, under, read_item, ended, size}
use Rattle.deep.specs.declared.fault.Fault.{Fault}
use Rattle.deep.specs.declared.fault.Fault.TheVariants.{Plain, TooDeep, Unread}
use Rattle.deep.specs.Tree.{Answer, ok, refused, of_plain, opens, Tree, end, leaf, nest, Inside, closed, opened, too_deep, grow, tree_of, nested, inside_of}
use Rattle.deep.proofs.DeepAnswers.{not_ok, ok_same, then_ok, plain_ok, grow_ok, nested_ok, nested_not_closed, then_refused, plain_refused, grow_refused}

-- ---- what a tree tells

-- no item may follow
pub tree_none : (look : List ℕ → List ℕ → Inside) (u : Under) (place : ℕ) (l : List ℕ) (t : Tree) → tree_of look u zero place l ≡ ok t → t ≡ end
unfolding tree_of
tree_none look u place [] t e = sym (ok_same end t e)
tree_none look u place (b ∷ bs) t e = not_ok (Plain Count) place t e

-- the bytes have ended, or an item and the items after it were read
pub tree_told : {P : Type 0} (look : List ℕ → List ℕ → Inside) (u : Under) (left place : ℕ) (l : List ℕ) (t : Tree) → tree_of look u (suc left) place l ≡ ok t
    → (ended u l ≡ true → t ≡ end → P)
    → ((e : Entry) (s : Tree) → read_item u place l ≡ plain.ok e → look e.key e.value ≡ closed
    → tree_of look u left (suc place) (drop (size e) l) ≡ ok s → t ≡ leaf e s → P)
    → ((e : Entry) (inner s : Tree) → read_item u place l ≡ plain.ok e → look e.key e.value ≡ opened inner
    → tree_of look u left (suc place) (drop (size e) l) ≡ ok s → t ≡ nest e inner s → P)
    → P
unfolding tree_of
tree_told look u left place l t q f g h =
    pick_cases (ended u l) (ok end) _ (ok t) q
    (λ b r. f b (sym (ok_same end t r)))
    (λ b r.
    let m = then_ok (of_plain (read_item u place l)) (λ (e : Entry). grow place e (look e.key e.value) (tree_of look u left (suc place) (drop (size e) l))) t r in
    let i = plain_ok (read_item u place l) m.0 m.1 in
    grow_ok place m.0 (look m.0.key m.0.value) (tree_of look u left (suc place) (drop (size m.0) l)) t m.2
    (λ s c a z. g m.0 s i c a z)
    (λ inner s c a z. h m.0 inner s i c a z))

-- at most no item more: bytes are left
pub tree_over : (look : List ℕ → List ℕ → Inside) (u : Under) (place : ℕ) (l : List ℕ) (f : Fault) (p : ℕ) → tree_of look u zero place l ≡ refused f p
    → (f ≡ Plain Count) × (p ≡ place)
unfolding tree_of
tree_over look u place [] f p e = absurd_number (cc)
tree_over look u place (b ∷ bs) f p e = (cc, cc)

-- the item, what stands inside it, or an item after it is refused
pub tree_refused : {P : Type 0} (look : List ℕ → List ℕ → Inside) (u : Under) (left place : ℕ) (l : List ℕ) (f : Fault) (p : ℕ) → tree_of look u (suc left) place l ≡ refused f p
    → ((r : Refusal) → read_item u place l ≡ plain.refused r p → f ≡ Plain r → P)
    → (f ≡ TooDeep → p ≡ place → P)
    → (f ≡ Unread → p ≡ place → P)
    → ((e : Entry) → read_item u place l ≡ plain.ok e → tree_of look u left (suc place) (drop (size e) l) ≡ refused f p → P)
    → P
unfolding tree_of
tree_refused look u left place l f p q g h k m =
    pick_cases (ended u l) (ok end) _ (refused f p) q
    (λ b r. absurd_number (cc))
    (λ b r.
    then_refused (of_plain (read_item u place l)) (λ (e : Entry). grow place e (look e.key e.value) (tree_of look u left (suc place) (drop (size e) l))) f p r
    (λ a. let x = plain_refused (read_item u place l) f p a in g x.0 x.1 x.2)
    (λ e a c. grow_refused place e (look e.key e.value) (tree_of look u left (suc place) (drop (size e) l)) f p c h k
    (λ d. m e (plain_ok (read_item u place l) e a) d)))

-- ---- what stands inside an item

-- nothing is opened below the deepest level
pub inside_none : {P : Type 0} (tags k v : List ℕ) (t : Tree) → inside_of zero tags k v ≡ opened t → P
unfolding inside_of
inside_none tags k v t e = pick_cases (opens (kind_of k)) too_deep closed (opened t) e (λ b q. absurd_number (cc)) (λ b q. absurd_number (cc))

-- what is opened is a set, and its items were read
pub inside_opened : (deeper : ℕ) (tags k v : List ℕ) (t : Tree) → inside_of (suc deeper) tags k v ≡ opened t
    → (opens (kind_of k) ≡ true) × (tree_of (inside_of deeper tags) (under k tags []) 256 0 v ≡ ok t)
unfolding inside_of
inside_opened deeper tags k v t e =
    let a : Answer Tree = tree_of (inside_of deeper tags) (under k tags []) 256 0 v in
    pick_cases (opens (kind_of k)) (nested a) closed (opened t) e (λ b q. (b, nested_ok a t q)) (λ b q. absurd_number (cc))

-- what is not opened is no set
pub inside_closed : (deeper : ℕ) (tags k v : List ℕ) → inside_of deeper tags k v ≡ closed → opens (kind_of k) ≡ false
unfolding inside_of
inside_closed zero tags k v e = pick_cases (opens (kind_of k)) too_deep closed closed e (λ b q. absurd_number (cc)) (λ b q. b)
inside_closed (suc deeper) tags k v e =
    let a : Answer Tree = tree_of (inside_of deeper tags) (under k tags []) 256 0 v in
    pick_cases (opens (kind_of k)) (nested a) closed closed e (λ b q. nested_not_closed a q) (λ b q. b)

-- ---- what reads as a tree

-- a set ends where its bytes end
pub tree_end : (look : List ℕ → List ℕ → Inside) (u : Under) (left place : ℕ) → is_pack u.kind ≡ false → tree_of look u left place [] ≡ ok end
unfolding tree_of
tree_end look u zero place h = refl
tree_end look u (suc left) place h = rw h

-- an item that is not opened, and the items after it
pub tree_leaf : (look : List ℕ → List ℕ → Inside) (u : Under) (left place : ℕ) (l rest : List ℕ) (e : Entry) (s : Tree) → ended u l ≡ false
    → read_item u place l ≡ plain.ok e → drop (size e) l ≡ rest → look e.key e.value ≡ closed → tree_of look u left (suc place) rest ≡ ok s
    → tree_of look u (suc left) place l ≡ ok (leaf e s)
unfolding tree_of
tree_leaf look u left place l rest e s h i d c q = rw (h, i, d, c, q)

-- a nested set, and the items after it
pub tree_nest : (look : List ℕ → List ℕ → Inside) (u : Under) (left place : ℕ) (l rest : List ℕ) (e : Entry) (inner s : Tree) → ended u l ≡ false
    → read_item u place l ≡ plain.ok e → drop (size e) l ≡ rest → look e.key e.value ≡ opened inner → tree_of look u left (suc place) rest ≡ ok s
    → tree_of look u (suc left) place l ≡ ok (nest e inner s)
unfolding tree_of
tree_nest look u left place l rest e inner s h i d c q = rw (h, i, d, c, q)

-- what is no set is not opened
pub closed_inside : (deeper : ℕ) (tags k v : List ℕ) → opens (kind_of k) ≡ false → inside_of deeper tags k v ≡ closed
unfolding inside_of
closed_inside zero tags k v o = rw o
closed_inside (suc deeper) tags k v o = rw o

-- a set whose items read is opened
pub opened_inside : (deeper : ℕ) (tags k v : List ℕ) (t : Tree) → opens (kind_of k) ≡ true → tree_of (inside_of deeper tags) (under k tags []) 256 0 v ≡ ok t
    → inside_of (suc deeper) tags k v ≡ opened t
unfolding inside_of
opened_inside deeper tags k v t o q = rw (o, q)
