-- Module `kind`: each fact in the shape of its need.
use mathlib.Core.Path.{◌≡◌}
use mathlib.Core.List.{List}
use mathlib.Core.Bool.{Bool, true, false}
use Prim.Native.Nat.{ℕ, ◌+◌, ◌-◌, ◌<◌, ◌≤◌}
use native.Mathlib.Omega.{arith}
use mir.Val.{Fits}
use mir.Syntax.{w64}
use lib.Dec.{leb}
use lib.ListN.{length, get_or, set}
use borrow.Author.Tests.{le-leb, lt-leb, eq-eqb, ne_eqb}
use Rattle.klv.specs.Bytes.{same}
use Rattle.klv.specs.Key.{is_key, label_length}
use Rattle.klv.proofs.KeyLabel.{label_least, label_most}
use Rattle.groups.specs.declared.kind.Kind.{Kind}
use Rattle.groups.specs.declared.kind.Kind.TheVariants.{NoGroup}
use Rattle.groups.specs.Kind.{leading, designator_length, global_ok, bounded, kind_of_byte, kind_of, is_global, family_of}

-- ---- the bounds of a global set's key

pub label_more : (k : List ℕ) (n : ℕ) → n ≡ label_length k → 8 ≤ n
label_more k n e = omega (arith, label_least k)

pub designator_is : (k : List ℕ) (n : ℕ) → n ≡ label_length k → n - 8 ≡ designator_length k
designator_is k n e = omega arith

pub bounds_leading : (k : List ℕ) → 9 < get_or k 6 0 → false ≡ global_ok k
unfolding global_ok
bounds_leading k h = rw (lt-leb (get_or k 6 0) 9 h)

pub bounds_designator : (k : List ℕ) (g : ℕ) → g ≡ designator_length k → get_or k 6 0 ≤ 9 → g < 2 → false ≡ global_ok k
unfolding global_ok
bounds_designator k g e a h = rw (le-leb (get_or k 6 0) 9 a, lt-leb 2 (designator_length k) (omega arith))

pub bounds_fit : (k : List ℕ) (g c : ℕ) → g ≡ designator_length k → c ≡ leading k → get_or k 6 0 ≤ 9 → length k ≡ 16 → Fits w64 (c + g)
bounds_fit k g c e f a l = omega (arith, label_most k l)

pub bounds_few : (k : List ℕ) (g c : ℕ) → g ≡ designator_length k → c ≡ leading k → get_or k 6 0 ≤ 9 → 2 ≤ g → c + g < 4 → false ≡ global_ok k
unfolding global_ok
bounds_few k g c e f a b h =
    rw (le-leb (get_or k 6 0) 9 a, le-leb 2 (designator_length k) (omega arith), lt-leb 4 (leading k + designator_length k) (omega arith))

pub bounds_end : (k : List ℕ) (g c : ℕ) → g ≡ designator_length k → c ≡ leading k → get_or k 6 0 ≤ 9 → 2 ≤ g → 4 ≤ c + g → leb (c + g) 15 ≡ global_ok k
unfolding global_ok
bounds_end k g c e f a b h =
    rw (le-leb (get_or k 6 0) 9 a, le-leb 2 (designator_length k) (omega arith), le-leb 4 (leading k + designator_length k) (omega arith), e, f)

-- ---- the kind of a key

pub kind_is : (k : List ℕ) (t : Bool) (x r : Kind) → t ≡ is_key k → t ≡ true → get_or k 4 0 ≡ 0x02 → x ≡ kind_of_byte (get_or k 5 0) → r ≡ bounded k x → r ≡ kind_of k
unfolding kind_of
kind_is k t x r e h a f g = rw (← e, h, eq-eqb (get_or k 4 0) 0x02 a, ← f) g

pub kind_other : (k : List ℕ) (t : Bool) → t ≡ is_key k → t ≡ true → (get_or k 4 0 ≡ 0x02 → ⊥) → NoGroup ≡ kind_of k
unfolding kind_of
kind_other k t e h a = rw (← e, h, ne_eqb (get_or k 4 0) 0x02 a)

pub kind_none : (k : List ℕ) (t : Bool) → t ≡ is_key k → t ≡ false → NoGroup ≡ kind_of k
unfolding kind_of
kind_none k t e h = rw (← e, h)

-- ---- families

pub family_first : (x y : Kind) (a b : List ℕ) (t : Bool) → t ≡ is_global x → t ≡ true → true ≡ family_of x y a b
unfolding family_of
family_first x y a b t e h = rw (← e, h)

pub family_second : (x y : Kind) (a b : List ℕ) (t u : Bool) → t ≡ is_global x → t ≡ false → u ≡ is_global y → u ≡ true → true ≡ family_of x y a b
unfolding family_of
family_second x y a b t u e h f g = rw (← e, h, ← f, g)

pub family_bytes : (x y : Kind) (a b : List ℕ) (t u r : Bool) → t ≡ is_global x → t ≡ false → u ≡ is_global y → u ≡ false → r ≡ same (set a 5 (get_or b 5 0)) b
    → r ≡ family_of x y a b
unfolding family_of
family_bytes x y a b t u r e h f g z = rw (← e, h, ← f, g) z
