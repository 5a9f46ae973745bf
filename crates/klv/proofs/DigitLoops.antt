-- The loops of `digits::count`, `digits::put` and `fixed::spell`: each fact in the shape of its need.
use mathlib.Core.Path.{◌≡◌, refl, sym, ◌∙◌}
use mathlib.Core.List.{List}
use mathlib.Core.Bool.{false}
use Prim.Native.Nat.{ℕ, suc, ◌+◌, ◌-◌, ◌*◌, ◌/◌, ◌%◌, ◌^◌, ◌<◌, ◌≤◌}
use native.Mathlib.Omega.{arith}
use native.Mathlib.Nat.{pow-zero, pow-suc, pow-le-pow_right, div-div-eq-div-mul, div-one, lt_of_lt_of_le, zero-lt-suc}
use mir.Val.{Fits}
use mir.Syntax.{w64}
use lib.Dec.{eqb}
use lib.ListN.{length, take, drop, set, length-set, length-take}
use borrow.Author.Tests.{ne_eqb}
use Rattle.klv.specs.Pick.{pick}
use Rattle.klv.specs.Bytes.{pasted}
use Rattle.klv.specs.Number.{number, digits, fewest, marked}
use Rattle.klv.proofs.Paste.{pasted_none, set_pasted}
use Rattle.klv.proofs.DigitLaws.{marked_more}
use Rattle.klv.proofs.Fewest.{fewest_one, fewest_more, fewest_last}

-- ---- counting digits: k of them are counted, `rest` is what is left of n

pub record Counted (base most n rest k : ℕ) : Type 0 where
  pub some : 0 < k
  pub within : k ≤ most
  pub total : k + fewest base (suc (most - k)) rest ≡ 1 + fewest base most n

pub counted_again : (base most n rest k : ℕ) → Counted base most n rest k → k < most → base ≤ rest → Counted base most n (rest / base) (k + 1)
counted_again base most n rest k c h l =
    let e : most - k ≡ suc (most - (k + 1)) = omega arith in
    let t : k + suc (fewest base (suc (most - (k + 1))) (rest / base)) ≡ 1 + fewest base most n = rw (fewest_more base (most - k) rest l, e) at c.total in
    record { some = omega arith; within = omega arith; total = omega arith }

pub counted_stop : (base most n rest k : ℕ) → Counted base most n rest k → rest < base → k ≡ fewest base most n
counted_stop base most n rest k c l =
    let t : k + 1 ≡ 1 + fewest base most n = rw (fewest_one base (most - k) rest l) at c.total in
    omega arith

pub counted_end : (base most n rest k : ℕ) → Counted base most n rest k → most ≤ k → most ≡ fewest base most n
counted_end base most n rest k c l =
    let w : k ≤ most = c.within in
    let e : most - k ≡ 0 = omega arith in
    let t : k + 1 ≡ 1 + fewest base most n = rw (e, fewest_last base rest) at c.total in
    omega arith

-- ---- writing digits from the last one up: k - j are written, `rest` is what is left of n

pub record Putting (d : List ℕ) (at n base mark k : ℕ) (out : List ℕ) (rest high j : ℕ) : Type 0 where
  pub within : j ≤ k
  pub left : rest ≡ n / base ^ (k - j)
  pub marks : high ≡ pick (eqb (k - j) 0) 0 mark
  pub size : length out ≡ length d
  pub bytes : out ≡ pasted d (at + j) (marked mark (digits base (k - j) n))

pub putting_start : (d : List ℕ) (at n base mark k : ℕ) → Putting d at n base mark k d n 0 k
putting_start d at n base mark k =
    let z : k - k ≡ 0 = omega arith in
    record {
      within = omega arith;
      left = rw (z, pow-zero) (sym (div-one n));
      marks = rw z;
      size = refl;
      bytes = rw z (sym (pasted_none d (at + k)));
    }

pub putting_again : (d : List ℕ) (at n base mark k : ℕ) (out : List ℕ) (rest high j : ℕ) → Putting d at n base mark k out rest high j → 0 < j
    → at + k ≤ length d → Putting d at n base mark k (set out (at + (j - 1)) (high + rest % base)) (rest / base) mark (j - 1)
putting_again d at n base mark k out rest high j p h f =
    let w : j ≤ k = p.within in
    let q : k - (j - 1) ≡ suc (k - j) = omega arith in
    let s : at + j ≡ at + (j - 1) + 1 = omega arith in
    let e : out ≡ pasted d (at + (j - 1) + 1) (marked mark (digits base (k - j) n)) = rw s at p.bytes in
    let nz : eqb (suc (k - j)) 0 ≡ false = ne_eqb (suc (k - j)) 0 (omega arith) in
    record {
      within = omega arith;
      left = rw (p.left, q, div-div-eq-div-mul, pow-suc);
      marks = rw (q, nz);
      size = length-set out (at + (j - 1)) (high + rest % base) ∙ p.size;
      bytes = rw (q, marked_more mark base (k - j) n (n / base ^ (k - j) % base), e, p.left, p.marks)
          (set_pasted d (at + (j - 1)) (marked mark (digits base (k - j) n)) (pick (eqb (k - j) 0) 0 mark + n / base ^ (k - j) % base) (omega arith));
    }

-- ---- spelling a number from its bytes: i of them are read

pub record Spelling (l : List ℕ) (value i : ℕ) : Type 0 where
  pub small : value < 256 ^ i
  pub rest : number 256 value (drop i l) ≡ number 256 0 l

pub small_56 : (value i : ℕ) → value < 256 ^ i → i < 8 → value < 2 ^ 56
small_56 value i h k = lt_of_lt_of_le h (pow-le-pow_right {n = 256} (zero-lt-suc 255) {i = i} {j = 7} (omega arith))

pub shift_fits : (s : List ℕ) (at k value i : ℕ) → Spelling (take (at + k - at) (drop at s)) value i → i < length (take (at + k - at) (drop at s)) → k ≤ 8 → Fits w64 (value * 256)
shift_fits s at k value i p h l =
    let m : value < 2 ^ 56 = small_56 value i p.small (omega (arith, length-take (at + k - at) (drop at s))) in
    omega arith
