-- Laws of `fewest`, the fewest digits that hold a number.
use mathlib.Core.Path.{◌≡◌, refl, ap, ◌∙◌}
use Prim.Native.Nat.{ℕ, zero, suc, ◌*◌, ◌/◌, ◌^◌, ◌<◌, ◌≤◌}
use native.Mathlib.Omega.{arith}
use native.Mathlib.Decide.{dec_le}
use native.Mathlib.Nat.{pow-zero, pow-suc, div-lt_iff_lt-mul}
use borrow.Author.Tests.{lt-ltb, le-ltb}
use Rattle.klv.specs.Number.{fewest}

pub fewest_one : (base most n : ℕ) → n < base → fewest base (suc most) n ≡ 1
unfolding fewest
fewest_one base most n h = rw (lt-ltb n base h)

pub fewest_more : (base most n : ℕ) → base ≤ n → fewest base (suc most) n ≡ suc (fewest base most (n / base))
unfolding fewest
fewest_more base most n h = rw (le-ltb n base h)

pub fewest_none : (base n : ℕ) → fewest base 0 n ≡ 0
unfolding fewest
fewest_none base n = refl

-- one digit is allowed, and one it is
pub fewest_last : (base n : ℕ) → fewest base 1 n ≡ 1
fewest_last base n =
    elim (dec_le base n) [
      | yes h ↦ fewest_more base 0 n h ∙ ap suc (fewest_none base (n / base))
      | no h ↦ fewest_one base 0 n (omega arith)
    ]

pub fewest_most : (base most n : ℕ) → fewest base most n ≤ most
fewest_most base zero n = rw fewest_none (omega arith)
fewest_most base (suc most) n =
    elim (dec_le base n) [
      | yes h ↦ rw (fewest_more base most n h) (omega (arith, fewest_most base most (n / base)))
      | no h ↦ rw (fewest_one base most n (omega arith)) (omega arith)
    ]

pub fewest_some : (base most n : ℕ) → 0 < fewest base (suc most) n
fewest_some base most n =
    elim (dec_le base n) [
      | yes h ↦ rw (fewest_more base most n h) (omega arith)
      | no h ↦ rw (fewest_one base most n (omega arith)) (omega arith)
    ]

pub div_small : (base k n : ℕ) → 0 < base → n < base ^ suc k → n / base < base ^ k
div_small base k n b h = (div-lt_iff_lt-mul b).1 (rw pow-suc at h)

div_large : (base k n : ℕ) → 0 < base → n / base < base ^ k → n < base ^ suc k
div_large base k n b h = rw pow-suc ((div-lt_iff_lt-mul b).0 h)

-- the fewest digits hold the number, if `most` do
pub fewest_holds : (base most n : ℕ) → 0 < base → n < base ^ suc most → n < base ^ fewest base (suc most) n
fewest_holds base zero n b h = rw fewest_last h
fewest_holds base (suc most) n b h =
    elim (dec_le base n) [
      | yes k ↦ rw (fewest_more base (suc most) n k) (div_large base (fewest base (suc most) (n / base)) n b (fewest_holds base most (n / base) b (div_small base (suc most) n b h)))
      | no k ↦ let l : n < base = omega arith in rw (fewest_one base (suc most) n l, pow-suc, pow-zero) (omega arith)
    ]

below_base : (base k n : ℕ) → 0 < base → base ≤ n → n < base ^ suc k → 0 < k
below_base base zero n b l h = let g : n < 1 * base = rw (pow-suc, pow-zero) at h in absurd (let f : ⊥ = omega arith in f)
below_base base (suc k) n b l h = omega arith

-- no fewer do
pub fewest_least : (base most k n : ℕ) → 0 < base → 0 < k → n < base ^ k → fewest base most n ≤ k
fewest_least base zero k n b p h = rw fewest_none (omega arith)
fewest_least base (suc most) zero n b p h = absurd (let f : ⊥ = omega arith in f)
fewest_least base (suc most) (suc k) n b p h =
    elim (dec_le base n) [
      | yes l ↦ rw (fewest_more base most n l) (omega (arith, fewest_least base most k (n / base) b (below_base base k n b l h) (div_small base k n b h)))
      | no l ↦ rw (fewest_one base most n (omega arith)) (omega arith)
    ]
