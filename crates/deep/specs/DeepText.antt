-- What holds of the deep operations in the words of 02, point 1: the tree of items is the same before and after, a second
-- application changes nothing, and some refusals never come.
use Rattle.std.specs.Prelude.{ℕ, zero, suc, ◌+◌, ◌≤◌, ◌≡◌, true, List, [], ◌∷◌, length, take, drop}
use Rattle.groups.specs.declared.kind.Kind.{Kind}
use Rattle.groups.specs.Kind.{kind_of}
use Rattle.groups.specs.Listing.{start, Sent}
use Rattle.groups.specs.Read.{Entry, size}
use Rattle.groups.specs.Tables.{tag_table_ok}
use Rattle.deep.specs.declared.fault.Fault.{Fault}
use Rattle.deep.specs.Tree.{ok, refused, Tree, end, leaf, nest, deep_read}
use Rattle.deep.specs.Deep.{fault_number, as_universal, tree_longer, deep_of, deep_listing_of}

-- the tree of items: widths forgotten, byte 6 of opened keys made 01
pub data Shape : Type 0 where
  none : Shape
  item : List ℕ → List ℕ → Shape → Shape
  set : List ℕ → Shape → Shape → Shape

unfoldable pub shape_of : Tree → Shape
shape_of end = none
shape_of (leaf e t) = item e.key e.value (shape_of t)
shape_of (nest e inner t) = set (as_universal e.key) (shape_of inner) (shape_of t)

-- what holds where a deep write of `group` was accepted and wrote w
pub record DeepKept (tags group w : List ℕ) : Type 0 where
  -- the tree of items is the same before and after: the output reads deep, under every valid tag table
  pub same_tree : (others : List ℕ) → tag_table_ok others ≡ true
      → (t : Tree) × (u : Tree) × (deep_read tags group ≡ ok t) × (deep_read others w ≡ ok u) × (shape_of u ≡ shape_of t)
  -- a second application, lent a slice long enough, is accepted and writes the same bytes
  pub again : (others : List ℕ) (more : ℕ) → tag_table_ok others ≡ true → length w ≤ more → deep_of others w more ≡ ok w
  -- the output's deep listing tells of no longer form (02, point 7)
  pub shortest : (others : List ℕ) → tag_table_ok others ≡ true → (u : Tree) × (deep_read others w ≡ ok u) × (tree_longer (kind_of (take 16 w)) u ≡ [])

-- sets are nested at most so many levels deep
abbrev pub Levels : ℕ → Tree → Type 0
Levels n end = Unit {0}
Levels n (leaf e t) = Levels n t
Levels zero (nest e inner t) = ⊥
Levels (suc n) (nest e inner t) = Levels n inner × Levels (suc n) t

-- what holds of each item of a tree: P of the kind of its set, the offset at which it begins, and the item itself
abbrev pub EachItem : (Kind → ℕ → Entry → Type 0) → Kind → ℕ → Tree → Type 0
EachItem P kind at end = Unit {0}
EachItem P kind at (leaf e t) = P kind at e × EachItem P kind (at + size e) t
EachItem P kind at (nest e inner t) = P kind at e × EachItem P (kind_of e.key) (at + e.label + e.width) inner × EachItem P kind (at + size e) t

-- an item that begins at an offset of the group has its value at the offset that the listing gives
abbrev pub Stands : List ℕ → Kind → ℕ → Entry → Type 0
Stands group kind at e = take (length e.value) (drop (at + e.label + e.width) group) ≡ e.value

-- what holds of every tree that a deep operation reads: depth 4 is the deepest, the values stand where the listing says, and
-- the items with a longer form are those whose length, read where it stands, has one
pub record DeepTree (group : List ℕ) (t : Tree) : Type 0 where
  pub deepest : Levels 3 t
  pub offsets : EachItem (Stands group) (kind_of (take 16 group)) (start group) t
  pub lengths : EachItem (λ (kind : Kind) (at : ℕ) (e : Entry). Sent kind group at e) (kind_of (take 16 group)) (start group) t

-- a number is none of a list
abbrev pub NoneOf : ℕ → List ℕ → Type 0
NoneOf n [] = Unit {0}
NoneOf n (x ∷ xs) = (n ≡ x → ⊥) × NoneOf n xs

-- 2, 3, 6, 11, 12 and 13 never come, and from the listing 14 does not either
pub record NeverCome : Type 0 where
  pub writing : (tags group : List ℕ) (room : ℕ) (f : Fault) (p : ℕ) → deep_of tags group room ≡ refused f p
      → NoneOf (fault_number f) (2 ∷ 3 ∷ 6 ∷ 11 ∷ 12 ∷ 13 ∷ [])
  pub listing : (tags group : List ℕ) (key_room number_room : ℕ) (f : Fault) (p : ℕ) → deep_listing_of tags group key_room number_room ≡ refused f p
      → NoneOf (fault_number f) (2 ∷ 3 ∷ 6 ∷ 11 ∷ 12 ∷ 13 ∷ 14 ∷ [])
