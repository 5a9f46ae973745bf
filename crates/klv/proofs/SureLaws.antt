-- The test of eight bytes at once: with no byte of 80 or more, adding 7F to each carries into bit 8 of just those that
-- are not 00; what is left of the eight bits stands for the bytes 00, and no byte above the least of these may be
-- filled. Each law goes from byte to byte, by the laws of the bit operations on blocks of digits.
use mathlib.Core.Path.{◌≡◌, refl, sym, ap, ◌∙◌}
use mathlib.Core.Bool.{true, false}
use Prim.Native.Nat.{ℕ, zero, suc, ◌+◌, ◌-◌, ◌*◌, ◌/◌, ◌%◌, ◌^◌, ◌<◌, ◌≤◌}
use native.Mathlib.Omega.{arith}
use native.Mathlib.Decide.{dec_le}
use mir.Val.{Fits}
use mir.Syntax.{w64}
use lib.Bits.{bit_and, bit_xor, and_block, xor_block, and_high, xor_self}
use lib.Count.{count_trailing_zeros}
use lib.Dec.{leb}
use borrow.Author.Tests.{eq-eqb, ne_eqb, lt-leb, leb-true}
use Rattle.klv.specs.Bytes.{all_zero}
use Rattle.klv.specs.Key.{words, before_zero}
use Rattle.klv.specs.Sure.{Sure}
use Rattle.klv.specs.Number.{spread}
use Rattle.klv.proofs.Cases.{absurd_number}
use Rattle.klv.proofs.LittleLaws.{spread_zero, small_rest}
use Rattle.klv.proofs.ZeroBytes.{zero_byte, other_byte}
use Rattle.klv.proofs.HalfLoops.{words_none}

-- k bytes, all the same
repeated : ℕ → ℕ → ℕ
repeated b zero = 0
repeated b (suc k) = repeated b k * 256 + b

-- ---- bit 8 of a byte

bit_eight : (b : ℕ) → bit_and b 0x80 ≡ b / 128 % 2 * 128
bit_eight b = and_high b 1 7

and_step : (n m r s : ℕ) → r < 256 → s < 256 → bit_and (n * 256 + r) (m * 256 + s) ≡ bit_and n m * 256 + bit_and r s
and_step n m r s h g = and_block 8 n m r s h g

xor_step : (n m r s : ℕ) → r < 256 → s < 256 → bit_xor (n * 256 + r) (m * 256 + s) ≡ bit_xor n m * 256 + bit_xor r s
xor_step n m r s h g = xor_block 8 n m r s h g

parted : (n : ℕ) → n ≡ n / 256 * 256 + n % 256
parted n = omega arith

even_small : (x : ℕ) → x % 2 * 128 ≡ 0 → x < 2 → x ≡ 0
even_small zero e h = refl
even_small (suc zero) e h = absurd_number (cc)
even_small (suc (suc x)) e h = absurd (let f : ⊥ = omega arith in f)

low_byte : (b : ℕ) → b < 256 → bit_and b 0x80 ≡ 0 → b < 0x80
low_byte b h e =
    let z : b / 128 ≡ 0 = even_small (b / 128) (sym (bit_eight b) ∙ e) (omega arith) in
    omega arith

-- ---- no byte of 80 or more

low_step : (n k : ℕ) → bit_and n (repeated 0x80 (suc k)) ≡ bit_and (n / 256) (repeated 0x80 k) * 256 + bit_and (n % 256) 0x80
unfolding repeated
low_step n k =
    ap (λ (x : ℕ). bit_and x (repeated 0x80 k * 256 + 0x80)) (parted n)
    ∙ and_step (n / 256) (repeated 0x80 k) (n % 256) 0x80 (omega arith) (omega arith)

low_first : (n k : ℕ) → bit_and n (repeated 0x80 (suc k)) ≡ 0 → n % 256 < 0x80
unfolding repeated
low_first n k e = low_byte (n % 256) (omega arith) (omega (arith, low_step n k))

low_rest : (n k : ℕ) → bit_and n (repeated 0x80 (suc k)) ≡ 0 → bit_and (n / 256) (repeated 0x80 k) ≡ 0
unfolding repeated
low_rest n k e = omega (arith, low_step n k)

low_most : (k n : ℕ) → n < 256 ^ k → bit_and n (repeated 0x80 k) ≡ 0 → n ≤ repeated 0x7F k
unfolding repeated
low_most zero n h e = omega arith
low_most (suc k) n h e =
    let q : n / 256 ≤ repeated 0x7F k = low_most k (n / 256) (small_rest n k h) (low_rest n k e) in
    omega (arith, low_first n k e)

-- ---- the bits of the filled bytes, and of the empty ones

abbrev filled : ℕ → ℕ → ℕ
filled k n = bit_and (n + repeated 0x7F k) (repeated 0x80 k)

abbrev empty : ℕ → ℕ → ℕ
empty k n = bit_xor (filled k n) (repeated 0x80 k)

filled_step : (k n : ℕ) → n % 256 < 0x80 → filled (suc k) n ≡ filled k (n / 256) * 256 + bit_and (n % 256 + 0x7F) 0x80
unfolding repeated
filled_step k n h =
    let e : n + (repeated 0x7F k * 256 + 0x7F) ≡ (n / 256 + repeated 0x7F k) * 256 + (n % 256 + 0x7F) = omega arith in
    ap (λ (x : ℕ). bit_and x (repeated 0x80 k * 256 + 0x80)) e
    ∙ and_step (n / 256 + repeated 0x7F k) (repeated 0x80 k) (n % 256 + 0x7F) 0x80 (omega arith) (omega arith)

-- a byte 00 is empty
empty_zero : (k n : ℕ) → n % 256 ≡ 0 → empty (suc k) n ≡ empty k (n / 256) * 256 + 0x80
unfolding repeated
empty_zero k n z =
    let f : filled (suc k) n ≡ filled k (n / 256) * 256 + 0 = omega (arith, filled_step k n (omega arith), bit_eight (n % 256 + 0x7F)) in
    ap (λ (x : ℕ). bit_xor x (repeated 0x80 k * 256 + 0x80)) f
    ∙ xor_step (filled k (n / 256)) (repeated 0x80 k) 0 0x80 (omega arith) (omega arith)

-- another is not
empty_other : (k n : ℕ) → (n % 256 ≡ 0 → ⊥) → n % 256 < 0x80 → empty (suc k) n ≡ empty k (n / 256) * 256
unfolding repeated
empty_other k n z h =
    let f : filled (suc k) n ≡ filled k (n / 256) * 256 + 0x80 = omega (arith, filled_step k n h, bit_eight (n % 256 + 0x7F)) in
    let x : bit_xor (filled k (n / 256) * 256 + 0x80) (repeated 0x80 k * 256 + 0x80) ≡ empty k (n / 256) * 256 + 0 =
    xor_step (filled k (n / 256)) (repeated 0x80 k) 0x80 0x80 (omega arith) (omega arith) in
    ap (λ (y : ℕ). bit_xor y (repeated 0x80 k * 256 + 0x80)) f ∙ x ∙ (let g : empty k (n / 256) * 256 + 0 ≡ empty k (n / 256) * 256 = omega arith in g)

-- ---- all digits up to the least one

abbrev up_to : ℕ → ℕ
up_to e = bit_xor e (e - 1)

up_to_here : (e : ℕ) → up_to (e * 256 + 0x80) ≡ 0xFF
up_to_here e =
    let p : e * 256 + 0x80 - 1 ≡ e * 256 + 0x7F = omega arith in
    ap (bit_xor (e * 256 + 0x80)) p ∙ xor_step e e 0x80 0x7F (omega arith) (omega arith) ∙ rw (xor_self e)

up_to_above : (e : ℕ) → 0 < e → up_to (e * 256) ≡ up_to e * 256 + 0xFF
up_to_above e h =
    let p : e * 256 - 1 ≡ (e - 1) * 256 + 0xFF = omega arith in
    let q : e * 256 ≡ e * 256 + 0 = omega arith in
    ap (bit_xor (e * 256)) p ∙ ap (λ (x : ℕ). bit_xor x ((e - 1) * 256 + 0xFF)) q ∙ xor_step e (e - 1) 0 0xFF (omega arith) (omega arith)

-- ---- words

words_zero : (n k : ℕ) → n % 256 ≡ 0 → words false (spread (suc k) n) ≡ all_zero (spread k (n / 256))
unfolding words spread
words_zero n k z = rw (eq-eqb (n % 256) 0x00 z)

words_more : (n k : ℕ) → (n % 256 ≡ 0 → ⊥) → n % 256 < 0x80 → words false (spread (suc k) n) ≡ words false (spread k (n / 256))
unfolding words spread
words_more n k z h = rw (ne_eqb (n % 256) 0x00 z, ne_eqb (n % 256) 0x80 (λ q. omega arith), lt-leb 0x80 (n % 256) h)

-- no byte is 00
all_filled : (k n : ℕ) → bit_and n (repeated 0x80 k) ≡ 0 → empty k n ≡ 0 → words false (spread k n) ≡ true
all_filled zero n e f = sym (words_none false n)
all_filled (suc k) n e f =
    let h : n % 256 < 0x80 = low_first n k e in
    elim (dec_le 1 (n % 256)) [
      | yes a ↦
          let z : n % 256 ≡ 0 → ⊥ = λ q. omega arith in
          words_more n k z h ∙ all_filled k (n / 256) (low_rest n k e) (omega (arith, empty_other k n z h))
      | no a ↦ absurd (let q : ⊥ = omega (arith, empty_zero k n (let z : n % 256 ≡ 0 = omega arith in z)) in q)
    ]

-- the number does not reach past the least byte 00
none_above : (k n : ℕ) → bit_and n (repeated 0x80 k) ≡ 0 → 0 < empty k n → n ≤ up_to (empty k n) → words false (spread k n) ≡ true
none_above zero n e f g = sym (words_none false n)
none_above (suc k) n e f g =
    let h : n % 256 < 0x80 = low_first n k e in
    elim (dec_le 1 (n % 256)) [
      | yes a ↦
          let z : n % 256 ≡ 0 → ⊥ = λ q. omega arith in
          let s : empty (suc k) n ≡ empty k (n / 256) * 256 = empty_other k n z h in
          let p : 0 < empty k (n / 256) = omega arith in
          let u : up_to (empty (suc k) n) ≡ up_to (empty k (n / 256)) * 256 + 0xFF = ap up_to s ∙ up_to_above (empty k (n / 256)) p in
          words_more n k z h ∙ none_above k (n / 256) (low_rest n k e) p (omega arith)
      | no a ↦
          let z : n % 256 ≡ 0 = omega arith in
          let u : up_to (empty (suc k) n) ≡ 0xFF = ap up_to (empty_zero k n z) ∙ up_to_here (empty k (n / 256)) in
          let w : n / 256 ≡ 0 = omega arith in
          words_zero n k z ∙ rw w (spread_zero k)
    ]

-- ---- the bytes before the first byte 00

before_first : (k n : ℕ) → bit_and n (repeated 0x80 k) ≡ 0 → count_trailing_zeros (8 * k) (empty k n) / 8 ≡ before_zero false (spread k n)
unfolding repeated before_zero spread count_trailing_zeros
before_first zero n e = refl
before_first (suc k) n e =
    let h : n % 256 < 0x80 = low_first n k e in
    elim (dec_le 1 (n % 256)) [
      | yes a ↦
          let z : n % 256 ≡ 0 → ⊥ = λ q. omega arith in
          rw (ne_eqb (n % 256) 0x00 z, lt-leb 0x80 (n % 256) h, ← before_first k (n / 256) (low_rest n k e), empty_other k n z h) (zero_byte k (empty k (n / 256)))
      | no a ↦
          let z : n % 256 ≡ 0 = omega arith in
          rw (eq-eqb (n % 256) 0x00 z, empty_zero k n z) (other_byte k (empty k (n / 256)) 0x80 (omega arith) (omega arith))
    ]

-- ---- the test of eight bytes: each fact in the shape of its need

pub before_told : (n r : ℕ) → bit_and n 0x8080_8080_8080_8080 ≡ 0
    → r ≡ count_trailing_zeros 64 (bit_xor (bit_and (n + 0x7F7F_7F7F_7F7F_7F7F) 0x8080_8080_8080_8080) 0x8080_8080_8080_8080) / 8 → r ≡ before_zero false (spread 8 n)
unfolding repeated
before_told n r e f = f ∙ before_first 8 n e

pub sure_fits : (n : ℕ) → Fits w64 n → bit_and n 0x8080_8080_8080_8080 ≡ 0 → Fits w64 (n + 0x7F7F_7F7F_7F7F_7F7F)
unfolding repeated
sure_fits n f e = omega (arith, low_most 8 n (omega arith) e)

pub sure_filled : (n : ℕ) → bit_and n 0x8080_8080_8080_8080 ≡ 0
    → bit_xor (bit_and (n + 0x7F7F_7F7F_7F7F_7F7F) 0x8080_8080_8080_8080) 0x8080_8080_8080_8080 ≡ 0 → Sure n true
unfolding repeated
sure_filled n e f = record { holds = λ q. all_filled 8 n e f }

pub sure_above : (n x : ℕ) → bit_and n 0x8080_8080_8080_8080 ≡ 0
    → x ≡ bit_xor (bit_and (n + 0x7F7F_7F7F_7F7F_7F7F) 0x8080_8080_8080_8080) 0x8080_8080_8080_8080 → (x ≡ 0 → ⊥) → Sure n (leb n (bit_xor x (x - 1)))
unfolding repeated
sure_above n x e d f =
    record {
      holds = λ q.
          let p : 0 < x = omega arith in
          none_above 8 n e (rw d at p) (rw d at (leb-true n (bit_xor x (x - 1)) q));
    }
