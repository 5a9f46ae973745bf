-- What a choice tells of its test.
use mathlib.Core.Path.{◌≡◌, refl, ap}
use mathlib.Core.Bool.{Bool, true, false, false≢true}
use Prim.Native.Nat.{ℕ}
use native.Mathlib.Omega.{arith}
use Rattle.std.specs.Prelude.{Ok, Err}
use Rattle.klv.specs.Compact.{value_of}
use Rattle.klv.specs.Number.{Read, Value}
use Rattle.klv.specs.Pick.{pick, both}

pub pick_cases : {X P : Type 0} (t : Bool) (a b x : X) → pick t a b ≡ x → (t ≡ true → a ≡ x → P) → (t ≡ false → b ≡ x → P) → P
pick_cases true a b x e f g = f refl e
pick_cases false a b x e f g = g refl e

-- a test, either way
pub test_cases : {P : Type 0} (t : Bool) → (t ≡ true → P) → (t ≡ false → P) → P
test_cases true f g = f refl
test_cases false f g = g refl

pub both_true : (a b : Bool) → both a b ≡ true → (a ≡ true) × (b ≡ true)
both_true true b e = (refl, e)
both_true false b e = (e, let z : b ≡ true = cc in z)

-- two constructors that are equal prove anything: `cc` makes the premise
pub absurd_number : {P : Type 0} → ◌≡◌ {A = ℕ} 0 1 → P
absurd_number e = absurd (let f : ⊥ = omega arith in f)

-- a test that refuses where t holds, and else asks b, is passed: t does not hold, and b does
pub passed : (t b : Bool) → pick t false b ≡ true → (t ≡ false) × (b ≡ true)
passed true b e = absurd (false≢true e)
passed false b e = (refl, e)

-- ---- numbers as read

abbrev width_of : Read → ℕ
width_of (Ok n) = n.width
width_of (Err e) = 0

pub same_value : (a b v w : ℕ) → Value a b ≡ Value v w → a ≡ v
same_value a b v w e = ap value_of e

pub same_width : (a b v w : ℕ) → Value a b ≡ Value v w → b ≡ w
same_width a b v w e = ap width_of e
