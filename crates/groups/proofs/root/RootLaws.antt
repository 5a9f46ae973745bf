-- Laws of the root of a global set: how long it is, and that it leaves no word open, since it ends with the designator.
-- From klv's laws of keys and labels.
use mathlib.Core.Path.{◌≡◌, sym, ap, ◌∙◌}
use mathlib.Core.Bool.{true, false}
use mathlib.Core.List.{List, ◌++◌}
use Prim.Native.Nat.{ℕ, ◌+◌, ◌<◌, ◌≤◌}
use native.Mathlib.Omega.{arith}
use lib.ListN.{length, take, drop, length-append, length-drop}
use lib.Seq.{length-take-le, get_or-take, take-add}
use Rattle.klv.specs.Key.{is_key, label_length}
use Rattle.klv.specs.KeyText.{inside_after}
use Rattle.klv.specs.declared.layout.Layout.{Layout}
use Rattle.klv.proofs.KeyLaws.{key_size, key_front, range_iff}
use Rattle.klv.proofs.KeyLabel.{label_least, label_closed, range_closed}
use Rattle.klv.proofs.LabelLaws.{after_join}
use Rattle.groups.specs.declared.kind.Kind.TheVariants.{Global}
use Rattle.groups.specs.Kind.{kind_of, leading, designator_length}
use Rattle.groups.specs.Root.{root_of}
use Rattle.groups.proofs.kind.KindLaws.{Bounds, global_told}

-- the first bytes of a key, up to eight, leave no word open
pub front_closed : (k : List ℕ) (c : ℕ) → is_key k ≡ true → c ≤ 8 → inside_after false (take c k) ≡ false
front_closed k c e h =
    let n : length (take c k) ≡ c = length-take-le c k (omega (arith, key_size k e)) in
    range_closed (take c k)
    ((range_iff (take c k)).1
    (λ i l. let g : i < c = omega arith in rw (get_or-take c k i 0 g) (key_front k i e (omega arith))))

-- a root has as many bytes as 01 says
pub root_length : (k : List ℕ) (y : Layout) → kind_of k ≡ Global y → length (root_of k) ≡ leading k + designator_length k
unfolding root_of
root_length k y e =
    let p = global_told k y e in
    let s : length k ≡ 16 = key_size k p.0 in
    let b : Bounds (leading k) (designator_length k) = p.1 in
    let m : length (take (leading k) k) ≡ leading k = length-take-le (leading k) k (omega arith) in
    let n : length (take (designator_length k) (drop 8 k)) ≡ designator_length k = length-take-le (designator_length k) (drop 8 k) (omega (arith, length-drop 8 k)) in
    rw (length-append, m, n)

-- the designator leaves no word open
pub designator_closed : (k : List ℕ) → is_key k ≡ true → inside_after false (take (designator_length k) (drop 8 k)) ≡ false
designator_closed k e =
    let g : ℕ = designator_length k in
    let l : label_length k ≡ 8 + g = omega (arith, label_least k) in
    let t : take (label_length k) k ≡ take 8 k ++ take g (drop 8 k) = ap (λ (n : ℕ). take n k) l ∙ take-add 8 g k in
    let j = after_join false (take 8 k) (take g (drop 8 k)) in
    sym (rw (front_closed k 8 e (omega arith)) at j) ∙ (rw t at (label_closed k e))

-- what a tag needs of a root
pub record RootFit (root : List ℕ) : Type 0 where
  pub least : 4 ≤ length root
  pub most : length root ≤ 15
  pub closed : inside_after false root ≡ false

-- the root of a global set's key: 4 to 15 bytes, no word left open
pub root_fit : (k : List ℕ) (y : Layout) → kind_of k ≡ Global y → RootFit (root_of k)
unfolding root_of
root_fit k y e =
    let p = global_told k y e in
    let b : Bounds (leading k) (designator_length k) = p.1 in
    let n : length (root_of k) ≡ leading k + designator_length k = root_length k y e in
    record {
      least = omega arith;
      most = omega arith;
      closed = after_join false (take (leading k) k) (take (designator_length k) (drop 8 k))
          ∙ rw (front_closed k (leading k) p.0 b.c_most) (designator_closed k p.0);
    }
