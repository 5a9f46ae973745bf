-- Bounds of what a walk measures: bytes, items and nested sets of a set, and of what stands inside an item.
use mathlib.Core.Path.{◌≡◌, refl, sym, ◌∙◌}
use mathlib.Core.Bool.{true}
use mathlib.Core.List.{List}
use Prim.Native.Nat.{ℕ, zero, suc, ◌+◌, ◌*◌, ◌≤◌}
use native.Mathlib.Omega.{arith}
use Rattle.std.specs.Prelude.{Result, Ok}
use lib.ListN.{length}
use Rattle.klv.proofs.Cases.{absurd_number}
use Rattle.groups.specs.declared.kind.Kind.{Kind}
use Rattle.groups.specs.Kind.{kind_of}
use Rattle.groups.specs.Tables.{table_of}
use Rattle.groups.specs.Read.{set_under}
use Rattle.groups.specs.declared.refusal.Refused.{Refused}
use Rattle.deep.specs.declared.fault.Fault.{Fault}
use Rattle.deep.specs.declared.walk.Walked.{Walked}
use Rattle.deep.specs.Tree.{Answer, ok, refused, opens, Tree, Inside, closed, opened, too_deep, unread, inside_of}
use Rattle.deep.specs.Deep.{universal_bytes, count_of}
use Rattle.deep.specs.Walk.{set_tree, set_sizes, walked, Walks, inside_walked, inside_sizes}
use Rattle.deep.proofs.TreeLaws.{inside_none, inside_opened}
use Rattle.deep.proofs.TreeBounds.{tree_size, tree_count, sets_few}
use Rattle.deep.proofs.StepLaws.{set_under_law}
use Rattle.deep.proofs.GrowLaws.{items_are}

pub record Most (n b c m : ℕ) : Type 0 where
  pub size : b ≤ 26 * n
  pub count : c ≤ n
  pub sets : m ≤ n

tree_most : (deeper : ℕ) (tags : List ℕ) (kd : Kind) (s : List ℕ) (v : Walked) (a : Answer Tree) → opens kd ≡ true → set_tree deeper tags kd s ≡ a → walked a ≡ Ok v → Most (length s) v.size v.count v.sets
tree_most deeper tags kd s v (ok t) o e h =
    let q = items_are (length (universal_bytes t)) (count_of t) (length (set_sizes t)) v h in
    record {
      size = omega (arith, q.0, tree_size deeper tags (set_under kd (table_of tags)) 256 0 s t o refl e);
      count = omega (arith, q.1, tree_count deeper tags (set_under kd (table_of tags)) 256 0 s t o e);
      sets = omega (arith, q.2, sets_few t, tree_count deeper tags (set_under kd (table_of tags)) 256 0 s t o e);
    }
tree_most deeper tags kd s v (refused r p) o e h = absurd_number (cc)

pub walk_most : (deeper : ℕ) (tags : List ℕ) (kd : Kind) (s : List ℕ) (first : ℕ) (v : Walked) (d x : List ℕ) (r : Result Walked (Refused Fault)) → Walks (set_tree deeper tags kd s) first d x r → r ≡ Ok v → opens kd ≡ true
    → Most (length s) v.size v.count v.sets
walk_most deeper tags kd s first v d x r w e o = tree_most deeper tags kd s v (set_tree deeper tags kd s) o refl (sym w.answer ∙ e)

-- the same inside an item
pub record InsideMost (n b c m : ℕ) : Type 0 where
  pub size : b ≤ 26 * n
  pub count : c ≤ n
  pub sets : m ≤ 1 + n

inside_tree : (deeper : ℕ) (tags k v : List ℕ) (place : ℕ) (w : Walked) (i : Inside) → inside_of deeper tags k v ≡ i → inside_walked place (length v) i ≡ Ok w → InsideMost (length v) w.size w.count w.sets
inside_tree deeper tags k v place w closed e h =
    let q = items_are (length v) 0 0 w h in
    record { size = omega (arith, q.0); count = omega (arith, q.1); sets = omega (arith, q.2) }
inside_tree zero tags k v place w (opened t) e h = inside_none tags k v t e
inside_tree (suc deeper) tags k v place w (opened t) e h =
    let z = items_are (length (universal_bytes t)) (count_of t) (suc (length (set_sizes t))) w h in
    let p = inside_opened deeper tags k v t e in
    let q = tree_most deeper tags (kind_of k) v (record { size = length (universal_bytes t); count = count_of t; sets = length (set_sizes t) }) (ok t) p.0 (rw (← set_under_law k tags p.0) p.1) refl in
    record { size = omega (arith, z.0, q.size); count = omega (arith, z.1, q.count); sets = omega (arith, z.2, q.sets) }
inside_tree deeper tags k v place w too_deep e h = absurd_number (cc)
inside_tree deeper tags k v place w unread e h = absurd_number (cc)

pub inside_most : (deeper : ℕ) (tags k v : List ℕ) (place : ℕ) (w : Walked) → inside_walked place (length v) (inside_of deeper tags k v) ≡ Ok w → InsideMost (length v) w.size w.count w.sets
inside_most deeper tags k v place w h = inside_tree deeper tags k v place w (inside_of deeper tags k v) refl h

pub sizes_told : (place n : ℕ) (w : Walked) (i : Inside) → inside_walked place n i ≡ Ok w → length (inside_sizes i) ≡ w.sets
sizes_told place n w closed h = (items_are n 0 0 w h).2
sizes_told place n w (opened t) h = (items_are (length (universal_bytes t)) (count_of t) (suc (length (set_sizes t))) w h).2
sizes_told place n w too_deep h = absurd_number (cc)
sizes_told place n w unread h = absurd_number (cc)
