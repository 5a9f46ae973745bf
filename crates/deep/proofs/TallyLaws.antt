-- How many items had a longer BER form than needed: of an item and the items after it, and of what stands inside an item; and
-- the items so far.
use mathlib.Core.Path.{◌≡◌, refl, sym, ap, ◌∙◌}
use mathlib.Core.Bool.{Bool, true, false, false≢true}
use mathlib.Core.List.{List, [], ◌∷◌, ◌++◌}
use Prim.Native.Nat.{ℕ, ◌+◌, ◌-◌, ◌<◌, ◌≤◌}
use native.Mathlib.Omega.{arith}
use lib.ListN.{length, length-append}
use Rattle.klv.specs.Pick.{pick}
use Rattle.klv.proofs.Cases.{test_cases}
use Rattle.groups.specs.declared.kind.Kind.{Kind}
use Rattle.groups.specs.Kind.{kind_of}
use Rattle.groups.specs.Listing.{is_longer, kept_longer}
use Rattle.groups.specs.Read.{Entry}
use Rattle.groups.proofs.listing.LongerFacts.{one_most}
use Rattle.deep.specs.declared.fault.Fault.TheVariants.{Plain, TooDeep, Unread}
use Rattle.groups.specs.declared.listing.Listed.{Listed}
use Rattle.deep.specs.Tree.{Answer, ok, refused, opens, Tree, end, leaf, nest, Inside, closed, opened, too_deep, unread, grow, nested, inside_of}
use Rattle.deep.specs.Deep.{count_of, tree_longer}
use Rattle.deep.specs.Walk.{set_tree, reads, count_in, keys_in_tree, numbers_in, longer_in, inside_reads, inside_count, inside_keys, inside_numbers, inside_longer, tallied_one, ListedAt, Tallied, Room}
use Rattle.deep.proofs.TreeLaws.{closed_inside}
use Rattle.deep.proofs.ListLaws.{opened_as, too_deep_law, closed_listed, opened_listed}

-- ---- an item and the items after it

kept_length : (kind : Kind) (e : Entry) (es : List Entry) → length (kept_longer kind e es) ≡ pick (is_longer kind e) 1 0 + length es
kept_length kind e es = test_cases (is_longer kind e) (λ t. rw t (omega arith)) (λ t. rw t (omega arith))

pub grow_longer : (kind : Kind) (place : ℕ) (e : Entry) (i : Inside) (a : Answer Tree) → reads (grow place e i a) ≡ true
    → longer_in kind (grow place e i a) ≡ pick (is_longer kind e) 1 0 + inside_longer e.key i + longer_in kind a
unfolding tree_longer
grow_longer kind place e closed (ok t) h = omega (arith, kept_length kind e (tree_longer kind t))
grow_longer kind place e closed (refused r p) h = absurd (false≢true h)
grow_longer kind place e (opened inner) (ok t) h =
    omega (
      arith,
      kept_length kind e (tree_longer (kind_of e.key) inner ++ tree_longer kind t),
      length-append (tree_longer (kind_of e.key) inner) (tree_longer kind t),
    )
grow_longer kind place e (opened inner) (refused r p) h = absurd (false≢true h)
grow_longer kind place e too_deep a h = absurd (false≢true h)
grow_longer kind place e unread a h = absurd (false≢true h)

pub longer_end : (kind : Kind) → longer_in kind (ok end) ≡ 0
unfolding tree_longer
longer_end kind = refl

-- ---- no more than there are items

tree_few : (kind : Kind) (t : Tree) → length (tree_longer kind t) ≤ count_of t
unfolding tree_longer count_of
tree_few kind end = omega arith
tree_few kind (leaf e t) = omega (arith, kept_length kind e (tree_longer kind t), one_most (is_longer kind e), tree_few kind t)
tree_few kind (nest e inner t) =
    omega (
      arith,
      kept_length kind e (tree_longer (kind_of e.key) inner ++ tree_longer kind t),
      length-append (tree_longer (kind_of e.key) inner) (tree_longer kind t),
      one_most (is_longer kind e),
      tree_few (kind_of e.key) inner,
      tree_few kind t,
    )

inside_few : (key : List ℕ) (i : Inside) → inside_longer key i ≤ inside_count i
inside_few key closed = omega arith
inside_few key (opened t) = tree_few (kind_of key) t
inside_few key too_deep = omega arith
inside_few key unread = omega arith

-- ---- the items so far

-- an item was listed, and what stands inside it
pub tallied_few : (key : List ℕ) (i : Inside) (n next : Listed) (ks ns d x e y : List ℕ) → Tallied (1 + inside_count i) (inside_longer key i) n ks ns d x e y next
    → n.longer ≤ n.count → next.longer < next.count
tallied_few key i n next ks ns d x e y h l = omega (arith, h.longer, h.listed.end, inside_few key i)

pub item_few : (n : Listed) (next : ℕ) (key d x e y : List ℕ) (o s p : ℕ) → ListedAt 1 n.count key (o ∷ s ∷ p ∷ []) d x e y next → n.longer ≤ n.count → n.longer ≤ next
item_few n next key d x e y o s p h l = omega (arith, h.end)

pub tallied_items : (n : Listed) (t : Bool) → (tallied_one n t).count ≡ n.count
unfolding tallied_one
tallied_items n t = refl

pub tallied_longer : (n : Listed) (t : Bool) → (tallied_one n t).longer ≡ n.longer + pick t 1 0
unfolding tallied_one
tallied_longer n t = refl

pub tallied_within : (n : Listed) (t : Bool) → n.longer < n.count → (tallied_one n t).longer ≤ (tallied_one n t).count
tallied_within n t h = omega (arith, tallied_items n t, tallied_longer n t, one_most t)

-- ---- what stands inside an item

nested_longer : (key : List ℕ) (a : Answer Tree) → inside_longer key (nested a) ≡ longer_in (kind_of key) a
nested_longer key (ok t) = refl
nested_longer key (refused TooDeep p) = refl
nested_longer key (refused Unread p) = refl
nested_longer key (refused (Plain r) p) = refl

module _ (deeper o s p : ℕ) (n : Listed) (tags key value d x e y : List ℕ) (b : Bool) (f : b ≡ opens (kind_of key)) where
  -- an item that is too deep does not read
  pub deep_tallied : (next : Listed) → inside_reads (inside_of deeper tags key value) ≡ true → b ≡ true → deeper ≡ 0
      → Tallied (1 + inside_count (inside_of deeper tags key value)) (inside_longer key (inside_of deeper tags key value)) n (key ++ inside_keys (inside_of deeper tags key value)) (o ∷ s ∷ p ∷ inside_numbers o (5 - deeper) (inside_of deeper tags key value)) d x e y next
  deep_tallied next r g h = too_deep_law deeper tags key value b r f g h

  -- one that is not opened
  pub closed_tallied : (next : ℕ) → ListedAt 1 n.count key (o ∷ s ∷ p ∷ []) d x e y next → b ≡ false
      → Tallied (1 + inside_count (inside_of deeper tags key value)) (inside_longer key (inside_of deeper tags key value)) n (key ++ inside_keys (inside_of deeper tags key value)) (o ∷ s ∷ p ∷ inside_numbers o (5 - deeper) (inside_of deeper tags key value)) d x e y (record { count = next; longer = n.longer })
  closed_tallied next l g =
      let c : inside_longer key (inside_of deeper tags key value) ≡ 0 = ap (inside_longer key) (closed_inside deeper tags key value (sym f ∙ g)) in
      record { listed = closed_listed deeper n.count o s p next tags key value d x e y b l f g; longer = omega arith }

  -- a nested set, after its items were listed
  pub opened_tallied : (next : ℕ) (r : Listed) (z w : List ℕ) (kind : Kind) → ListedAt 1 n.count key (o ∷ s ∷ p ∷ []) d x e y next
      → Tallied (count_in (set_tree (deeper - 1) tags kind value)) (longer_in kind (set_tree (deeper - 1) tags kind value)) (record { count = next; longer = n.longer }) (keys_in_tree (set_tree (deeper - 1) tags kind value)) (numbers_in o (4 - (deeper - 1)) (set_tree (deeper - 1) tags kind value)) x z y w r
      → Room (1 + inside_count (inside_of deeper tags key value)) n.count d e
      → kind ≡ kind_of key → b ≡ true → (deeper ≡ 0 → ⊥) → length key ≡ 16 → deeper ≤ 3
      → Tallied (1 + inside_count (inside_of deeper tags key value)) (inside_longer key (inside_of deeper tags key value)) n (key ++ inside_keys (inside_of deeper tags key value)) (o ∷ s ∷ p ∷ inside_numbers o (5 - deeper) (inside_of deeper tags key value)) d z e w r
  opened_tallied next r z w kind l m room q g h k u =
      let i : inside_of deeper tags key value ≡ nested (set_tree (deeper - 1) tags kind value) = opened_as deeper tags key value kind b q f g h in
      let c : inside_longer key (inside_of deeper tags key value) ≡ longer_in kind (set_tree (deeper - 1) tags kind value) =
      ap (inside_longer key) i ∙ nested_longer key (set_tree (deeper - 1) tags kind value) ∙ ap (λ (v : Kind). longer_in v (set_tree (deeper - 1) tags kind value)) (sym q) in
      record {
        listed = opened_listed deeper n.count o s p next r.count tags key value d x z e y w kind b l m.listed room q f g h k u;
        longer = omega (arith, m.longer);
      }
