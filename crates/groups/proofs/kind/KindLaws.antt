-- What the kind of a group tells of its key: it is a key, and the bounds of a global set's root; and which kind the length
-- column binds. From the definitions of kinds, and klv's bound of a label.
use mathlib.Core.Path.{◌≡◌, refl, ap, ◌∙◌}
use mathlib.Core.Bool.{true, false≢true}
use mathlib.Core.List.{List}
use Prim.Native.Nat.{ℕ, ◌+◌, ◌≤◌}
use native.Mathlib.Omega.{arith}
use lib.Dec.{leb, eqb}
use lib.ListN.{length, get_or}
use borrow.Author.Tests.{leb-true, eqb-true}
use Rattle.klv.specs.Pick.{both}
use Rattle.klv.specs.Key.{is_key, label_length}
use Rattle.klv.specs.declared.layout.Layout.{Layout}
use Rattle.klv.proofs.Cases.{pick_cases, both_true, absurd_number}
use Rattle.klv.proofs.KeyLaws.{key_size}
use Rattle.klv.proofs.KeyLabel.{label_most}
use Rattle.groups.specs.declared.kind.Kind.{Kind}
use Rattle.groups.specs.declared.kind.Kind.TheVariants.{Universal, Global, Local, Variable, Defined, NoGroup}
use Rattle.groups.specs.Kind.{kind_of, kind_of_byte, bounded, global_ok, leading, designator_length, is_group, is_bound}

-- of two kinds that are no group, and a group
no_group : {P : Type 0} (d : Kind) → NoGroup ≡ d → is_group d ≡ true → P
no_group d e g = absurd (false≢true (ap is_group e ∙ g))

-- a group's kind comes from a key with byte 5 = 02
pub group_told : (k : List ℕ) (d : Kind) → kind_of k ≡ d → is_group d ≡ true
    → (is_key k ≡ true) × (get_or k 4 0 ≡ 0x02) × (bounded k (kind_of_byte (get_or k 5 0)) ≡ d)
unfolding kind_of
group_told k d e g =
    pick_cases (is_key k) _ NoGroup d e
    (λ h q. pick_cases (eqb (get_or k 4 0) 0x02) _ NoGroup d q
    (λ t r. (h, eqb-true (get_or k 4 0) 0x02 t, r))
    (λ t r. no_group d r g))
    (λ h q. no_group d q g)

-- a group's key is a key
pub group_key_law : (k : List ℕ) → is_group (kind_of k) ≡ true → is_key k ≡ true
group_key_law k g = (group_told k (kind_of k) refl g).0

-- bounds as numbers
pub record Bounds (c g : ℕ) : Type 0 where
  pub c_most : c ≤ 8
  pub g_least : 2 ≤ g
  pub g_most : g ≤ 8
  pub sum_least : 4 ≤ c + g
  pub sum_most : c + g ≤ 15

bounded_told : (k : List ℕ) (y : Layout) (d : Kind) → bounded k d ≡ Global y → global_ok k ≡ true
bounded_told k y Universal e = absurd_number (cc)
bounded_told k y (Global z) e = pick_cases (global_ok k) (Global z) NoGroup (Global y) e (λ h q. h) (λ h q. absurd_number (cc))
bounded_told k y (Local t z) e = absurd_number (cc)
bounded_told k y (Variable z) e = absurd_number (cc)
bounded_told k y Defined e = absurd_number (cc)
bounded_told k y NoGroup e = absurd_number (cc)

ok_told_law : (k : List ℕ) → is_key k ≡ true → global_ok k ≡ true → Bounds (leading k) (designator_length k)
unfolding global_ok
ok_told_law k i e =
    let c : ℕ = leading k in
    let g : ℕ = designator_length k in
    let p = both_true (leb (get_or k 6 0) 9) (both (leb 2 g) (both (leb 4 (c + g)) (leb (c + g) 15))) e in
    let q = both_true (leb 2 g) (both (leb 4 (c + g)) (leb (c + g) 15)) p.1 in
    let r = both_true (leb 4 (c + g)) (leb (c + g) 15) q.1 in
    let a : get_or k 6 0 ≤ 9 = leb-true (get_or k 6 0) 9 p.0 in
    let m : label_length k ≤ 16 = label_most k (key_size k i) in
    record {
      c_most = omega arith;
      g_least = leb-true 2 (designator_length k) q.0;
      g_most = omega arith;
      sum_least = leb-true 4 (leading k + designator_length k) r.0;
      sum_most = leb-true (leading k + designator_length k) 15 r.1;
    }

-- a global set's key is a key, and its root keeps within 01's bounds
pub global_told : (k : List ℕ) (y : Layout) → kind_of k ≡ Global y → (is_key k ≡ true) × Bounds (leading k) (designator_length k)
global_told k y e =
    let p = group_told k (Global y) e refl in
    (p.0, ok_told_law k p.0 (bounded_told k y (kind_of_byte (get_or k 5 0)) p.2))

-- a group's key has sixteen bytes
pub group_size : (k : List ℕ) → is_group (kind_of k) ≡ true → length k ≡ 16
group_size k g = key_size k (group_key_law k g)

-- the length column binds defined-length packs only
pub bound_defined : (d : Kind) → is_bound d ≡ true → d ≡ Defined
bound_defined Universal e = absurd (false≢true e)
bound_defined (Global y) e = absurd (false≢true e)
bound_defined (Local t y) e = absurd (false≢true e)
bound_defined (Variable y) e = absurd (false≢true e)
bound_defined Defined e = refl
bound_defined NoGroup e = absurd (false≢true e)
