-- Laws of `little`, the number that bytes spell with the first of them the least, and of `spread`, which takes a number
-- apart into such bytes. Bytes come back from their number, so lists of one length that spell the same number are equal;
-- the bytes of a number are all 00 only if it is 0. All from division by 256.
use mathlib.Core.Path.{◌≡◌, refl, sym, ap, ◌∙◌}
use mathlib.Core.Bool.{Bool, true, false}
use mathlib.Core.List.{List, [], ◌∷◌}
use Prim.Native.Nat.{ℕ, zero, suc, ◌+◌, ◌*◌, ◌/◌, ◌%◌, ◌^◌, ◌<◌}
use native.Mathlib.Omega.{arith}
use native.Mathlib.Nat.{pow-suc, pow-zero, div-one, div-div-eq-div-mul, mul_assoc, le_of_suc-le-suc}
use native.Mathlib.Decide.{dec_le}
use lib.Dec.{eqb}
use lib.ListN.{length, get_or, take}
use lib.Seq.{take_all}
use mir.Syntax.{w64}
use borrow.Author.Tests.{ne_eqb}
use Rattle.std.specs.Int.{bytes_low_first, from_be_bytes, swap_bytes, to_le_bytes}
use Rattle.klv.specs.Pick.{both}
use Rattle.klv.specs.Bytes.{Bytes, all_zero}
use Rattle.klv.specs.Number.{number, little, spread}
use Rattle.klv.proofs.BytesLaws.{bytes_rest}

-- bytes come back from their number
pub spread_little : (l : List ℕ) → Bytes l → spread (length l) (little l) ≡ l
unfolding little spread
spread_little [] h = refl
spread_little (b ∷ bs) h =
    let c : b < 256 = h 0 in
    let m : (b + 256 * little bs) % 256 ≡ b = omega arith in
    let d : (b + 256 * little bs) / 256 ≡ little bs = omega arith in
    rw (m, d) (ap (λ (l : List ℕ). b ∷ l) (spread_little bs (bytes_rest b bs h)))

-- as many bytes as are asked for
pub length_spread : (k n : ℕ) → length (spread k n) ≡ k
unfolding spread
length_spread zero n = refl
length_spread (suc k) n = ap suc (length_spread k (n / 256))

past : (z y : ℕ) → (z * 256 + y) % 256 ≡ y % 256
past z y = omega arith

over : (z y : ℕ) → (z * 256 + y) / 256 ≡ z + y / 256
over z y = omega arith

-- what is above k bytes does not matter to them
pub spread_low : (k z y : ℕ) → spread k (z * 256 ^ k + y) ≡ spread k y
unfolding spread
spread_low zero z y = refl
spread_low (suc k) z y =
    let m : z * (256 ^ k * 256) ≡ z * 256 ^ k * 256 = sym (mul_assoc z (256 ^ k) 256) in
    rw (pow-suc, m, past (z * 256 ^ k) y, over (z * 256 ^ k) y, spread_low k z (y / 256))

-- lists of one length that spell the same number are equal
pub little_same : (a b : List ℕ) → length a ≡ length b → Bytes a → Bytes b → little a ≡ little b → a ≡ b
little_same a b l p q e = sym (spread_little a p) ∙ rw (l, e) (spread_little b q)

-- bytes spell less than their count holds
pub little_small : (l : List ℕ) → Bytes l → little l < 256 ^ length l
unfolding little
little_small [] h = omega arith
little_small (b ∷ bs) h =
    let c : b < 256 = h 0 in
    let r : little bs < 256 ^ length bs = little_small bs (bytes_rest b bs h) in
    rw pow-suc (let s : b + 256 * little bs < 256 ^ length bs * 256 = omega arith in s)

-- one more byte, with its weight
pub little_more : (l : List ℕ) (j : ℕ) → j < length l → little (take (suc j) l) ≡ little (take j l) + get_or l j 0 * 256 ^ j
unfolding little
little_more [] j h = absurd (let f : ⊥ = omega arith in f)
little_more (b ∷ bs) zero h = omega arith
little_more (b ∷ bs) (suc j) h =
    let r : little (take (suc j) bs) ≡ little (take j bs) + get_or bs j 0 * 256 ^ j = little_more bs j (le_of_suc-le-suc h) in
    let m : get_or bs j 0 * (256 ^ j * 256) ≡ get_or bs j 0 * 256 ^ j * 256 = sym (mul_assoc (get_or bs j 0) (256 ^ j) 256) in
    rw (r, pow-suc, m) (omega arith)

-- ---- eight bytes in the opposite order, as the library has it

-- one more byte behind the others
number_more : (acc : ℕ) (l : List ℕ) (j : ℕ) → j < length l → number 256 acc (take (suc j) l) ≡ number 256 acc (take j l) * 256 + get_or l j 0
number_more acc [] j h = absurd (let f : ⊥ = omega arith in f)
number_more acc (b ∷ bs) zero h = refl
number_more acc (b ∷ bs) (suc j) h = number_more (acc * 256 + b) bs j (le_of_suc-le-suc h)

pub big_is : (l : List ℕ) → length l ≡ 8 → from_be_bytes w64 l ≡ number 256 0 l
big_is l h =
    let t : take 8 l ≡ l = take_all 8 l (omega arith) in
    let a = number_more 0 l 0 (omega arith) in
    let b = number_more 0 l 1 (omega arith) in
    let c = number_more 0 l 2 (omega arith) in
    let d = number_more 0 l 3 (omega arith) in
    let e = number_more 0 l 4 (omega arith) in
    let f = number_more 0 l 5 (omega arith) in
    let g = number_more 0 l 6 (omega arith) in
    let i = number_more 0 l 7 (omega arith) in
    let s : from_be_bytes w64 l ≡ number 256 0 (take 8 l) = omega (arith, a, b, c, d, e, f, g, i) in
    s ∙ ap (number 256 0) t

-- the bytes of a number from byte i on
bytes_are : (k i n : ℕ) → bytes_low_first i k n ≡ spread k (n / 256 ^ i)
unfolding spread
bytes_are zero i n = refl
bytes_are (suc k) zero n = let h : bytes_low_first 1 k n ≡ spread k (n / 256 ^ 1) = bytes_are k 1 n in rw (pow-zero, div-one) (ap (λ (l : List ℕ). n % 256 ∷ l) h)
bytes_are (suc k) (suc i) n =
    let h : bytes_low_first (suc (suc i)) k n ≡ spread k (n / 256 ^ suc (suc i)) = bytes_are k (suc (suc i)) n in
    let p : 256 ^ suc (suc i) ≡ 256 ^ suc i * 256 = rw pow-suc in
    let e : n / 256 ^ suc i / 256 ≡ n / 256 ^ suc (suc i) = div-div-eq-div-mul n (256 ^ suc i) 256 ∙ ap (λ (x : ℕ). n / x) (sym p) in
    rw e (ap (λ (l : List ℕ). n / 256 ^ suc i % 256 ∷ l) h)

pub swap_is : (n : ℕ) → swap_bytes w64 n ≡ number 256 0 (spread 8 n)
swap_is n =
    let h : to_le_bytes w64 n ≡ spread 8 n = bytes_are 8 0 n ∙ rw (pow-zero, div-one) in
    ap (from_be_bytes w64) h ∙ big_is (spread 8 n) (length_spread 8 n)

-- ---- bytes that are all 00

-- those of 0 are
pub spread_zero : (k : ℕ) → all_zero (spread k 0) ≡ true
unfolding all_zero spread
spread_zero zero = refl
spread_zero (suc k) = spread_zero k

both_false : (t : Bool) → both t false ≡ false
both_false true = refl
both_false false = refl

-- those of another number are not, if they hold it
pub spread_other : (k n : ℕ) → 0 < n → n < 256 ^ k → all_zero (spread k n) ≡ false
unfolding all_zero spread
spread_other zero n g h = absurd (let f : ⊥ = omega arith in f)
spread_other (suc k) n g h =
    let h : n < 256 ^ k * 256 = rw pow-suc at h in
    elim (dec_le 256 n) [
      | yes y ↦ rw (spread_other k (n / 256) (omega arith) (omega arith)) (both_false (eqb (n % 256) 0x00))
      | no y ↦ let l : n < 256 = omega arith in rw (ne_eqb (n % 256) 0x00 (omega arith))
    ]

-- the bytes after the first hold what is left of the number
pub small_rest : (n k : ℕ) → n < 256 ^ suc k → n / 256 < 256 ^ k
small_rest n k h = let g : n < 256 ^ k * 256 = rw pow-suc at h in omega arith
