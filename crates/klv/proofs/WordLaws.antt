-- Laws of BER words.
use mathlib.Core.Path.{◌≡◌, refl, sym, ap, ◌∙◌}
use mathlib.Core.List.{List, [], ◌∷◌, ◌++◌}
use mathlib.Core.Bool.{false}
use Prim.Native.Nat.{ℕ, zero, suc, ◌+◌, ◌-◌, ◌*◌, ◌/◌, ◌%◌, ◌^◌, ◌<◌, ◌≤◌}
use native.Mathlib.Omega.{arith}
use native.Mathlib.Decide.{dec_le}
use native.Mathlib.Nat.{zero-lt-suc, pow-suc, mod-lt, mod-eq_of_lt, one-le-pow, div-lt_iff_lt-mul, le-div_iff_mul-le, mul_comm}
use native.Mathlib.Numerals.{add-one}
use lib.Arith.{digits_lt}
use lib.Dec.{ltb, eqb}
use lib.ListN.{length}
use borrow.Author.Tests.{lt-ltb, le-ltb, ne_eqb, ltb-true, ltb-false}
use Rattle.klv.specs.Bytes.{Bytes}
use Rattle.klv.specs.Number.{number, digits, fewest, marked}
use Rattle.klv.specs.Word.{word_from, word_read, word_write}
use Rattle.klv.specs.Number.{Value}
use Rattle.klv.proofs.Cases.{pick_cases, absurd_number, same_value, same_width}
use Rattle.klv.proofs.BytesLaws.{bytes_none, bytes_cons, bytes_rest}
use Rattle.klv.proofs.DigitLaws.{number_of_digits}
use Rattle.klv.proofs.Fewest.{fewest_most, fewest_some, fewest_holds, fewest_least}
use Rattle.klv.proofs.WordFacts.{length_word}

-- ---- a word byte by byte

pub word_last : (left p acc b : ℕ) (bs : List ℕ) → b < 0x80 → word_from (suc left) p acc (b ∷ bs) ≡ Value (acc * 128 + b) (p + 1)
unfolding word_from
word_last left p acc b bs h = rw (lt-ltb b 0x80 h)

pub word_more : (left p acc d : ℕ) (bs : List ℕ) → word_from (suc left) p acc ((0x80 + d) ∷ bs) ≡ word_from left (p + 1) (acc * 128 + d) bs
unfolding word_from
word_more left p acc d bs = let e : 0x80 + d - 0x80 ≡ d = omega arith in rw (le-ltb (0x80 + d) 0x80 (omega arith), e)

-- what a word's first byte tells, if it reads
word_told : {P : Type 0} (left p acc : ℕ) (l : List ℕ) (v w : ℕ) → word_from left p acc l ≡ Value v w
    → ((r b : ℕ) (bs : List ℕ) → left ≡ suc r → l ≡ b ∷ bs → b < 0x80 → v ≡ acc * 128 + b → w ≡ p + 1 → P)
    → ((r d : ℕ) (bs : List ℕ) → left ≡ suc r → l ≡ (0x80 + d) ∷ bs → word_from r (p + 1) (acc * 128 + d) bs ≡ Value v w → P) → P
unfolding word_from
word_told zero p acc l v w e last more = absurd_number (cc)
word_told (suc r) p acc [] v w e last more = absurd_number (cc)
word_told (suc r) p acc (b ∷ bs) v w e last more =
    pick_cases (ltb b 0x80) _ _ (Value v w) e
    (λ t f. last r b bs refl refl (ltb-true b 0x80 t) (sym (same_value _ _ v w f)) (sym (same_width _ _ v w f)))
    (λ t f.
    let h : 0x80 ≤ b = ltb-false b 0x80 t in
    let s : b ≡ 0x80 + (b - 0x80) = omega arith in
    more r (b - 0x80) bs refl (ap (λ (z : ℕ). z ∷ bs) s) f)

-- k digits, marked, read back
word_digits : (left p acc k n : ℕ) (rest : List ℕ) → k < left
    → word_from left p acc (marked 0x80 (digits 128 (suc k) n) ++ rest) ≡ Value (number 128 acc (digits 128 (suc k) n)) (p + suc k)
word_digits zero p acc k n rest h = absurd (let f : ⊥ = omega arith in f)
word_digits (suc left) p acc zero n rest h = word_last left p acc (n / 128 ^ 0 % 128) rest (mod-lt (n / 128 ^ 0) (zero-lt-suc 127))
word_digits (suc left) p acc (suc k) n rest h =
    let e : p + 1 + suc k ≡ p + suc (suc k) = omega arith in
    word_more left p acc (n / 128 ^ suc k % 128) (marked 0x80 (digits 128 (suc k) n) ++ rest)
    ∙ word_digits left (p + 1) (acc * 128 + n / 128 ^ suc k % 128) k n rest (omega arith)
    ∙ rw e

-- ---- written and read back

-- a word of more than one byte does not begin with 80, since its first digit is not 0
top_digit : (k n : ℕ) → 128 ^ k ≤ n → n < 128 ^ suc k → 0 < n / 128 ^ k % 128
top_digit k n l h =
    let p : 0 < 128 ^ k = one-le-pow k 128 (zero-lt-suc 127) in
    let a : n / 128 ^ k < 128 = (div-lt_iff_lt-mul p).1 (rw (pow-suc, mul_comm (128 ^ k) 128) at h) in
    let b : 1 ≤ n / 128 ^ k = (le-div_iff_mul-le p).1 (omega arith) in
    rw (mod-eq_of_lt a) b

first_not_80 : (k n : ℕ) (rest : List ℕ) → n < 128 ^ suc k → (0 < k → 128 ^ k ≤ n)
    → word_read (marked 0x80 (digits 128 (suc k) n) ++ rest) ≡ word_from 4 0 0 (marked 0x80 (digits 128 (suc k) n) ++ rest)
unfolding word_read
first_not_80 zero n rest h l =
    let b : n / 128 ^ 0 % 128 < 128 = mod-lt (n / 128 ^ 0) (zero-lt-suc 127) in
    rw (ne_eqb (n / 128 ^ 0 % 128) 0x80 (omega arith))
first_not_80 (suc k) n rest h l =
    let b : 0 < n / 128 ^ suc k % 128 = top_digit (suc k) n (l (omega arith)) h in
    rw (ne_eqb (0x80 + n / 128 ^ suc k % 128) 0x80 (omega arith))

needed : (k n : ℕ) → fewest 128 4 n ≡ suc k → 0 < k → 128 ^ k ≤ n
needed k n e p =
    elim (dec_le (128 ^ k) n) [
      | yes h ↦ h
      | no h ↦ absurd (let s : n < 128 ^ k = omega arith in let m : fewest 128 4 n ≤ k = fewest_least 128 4 k n (zero-lt-suc 127) p s in let f : ⊥ = omega arith in f)
    ]

word_round : (f n : ℕ) (rest : List ℕ) → fewest 128 4 n ≡ f → n < 128 ^ 4 → word_read (marked 0x80 (digits 128 f n) ++ rest) ≡ Value n f
word_round zero n rest e h = absurd (let s : 0 < fewest 128 4 n = fewest_some 128 3 n in let f : ⊥ = omega arith in f)
word_round (suc k) n rest e h =
    let s : n < 128 ^ suc k = rw e at (fewest_holds 128 3 n (zero-lt-suc 127) h) in
    let m : fewest 128 4 n ≤ 4 = fewest_most 128 4 n in
    first_not_80 k n rest s (needed k n e)
    ∙ word_digits 4 0 0 k n rest (omega arith)
    ∙ rw (number_of_digits 128 (suc k) n (zero-lt-suc 127) s, zero-add)
  where
    zero-add : 0 + suc k ≡ suc k
    zero-add = omega arith

pub word_back : (n : ℕ) (rest : List ℕ) → n < 128 ^ 4 → word_read (word_write n ++ rest) ≡ Value n (length (word_write n))
unfolding word_write
word_back n rest h = rw (sym (length_word n (fewest 128 4 n) refl)) (word_round (fewest 128 4 n) n rest refl h)

marked_bytes : (k n : ℕ) → Bytes (marked 0x80 (digits 128 k n))
marked_bytes zero n = bytes_none
marked_bytes (suc zero) n = bytes_cons (n / 128 ^ 0 % 128) [] (let h : n / 128 ^ 0 % 128 < 128 = mod-lt (n / 128 ^ 0) (zero-lt-suc 127) in omega arith) bytes_none
marked_bytes (suc (suc k)) n =
    bytes_cons (0x80 + n / 128 ^ suc k % 128) (marked 0x80 (digits 128 (suc k) n))
    (let h : n / 128 ^ suc k % 128 < 128 = mod-lt (n / 128 ^ suc k) (zero-lt-suc 127) in omega arith)
    (marked_bytes (suc k) n)

pub word_bytes : (n : ℕ) → Bytes (word_write n)
unfolding word_write
word_bytes n = marked_bytes (fewest 128 4 n) n

pub word_widest : (n : ℕ) → length (word_write n) ≤ 4
word_widest n = omega (arith, length_word n (fewest 128 4 n) refl, fewest_most 128 4 n)

-- ---- of any word that was read

from_within : (left p acc : ℕ) (l : List ℕ) (v w : ℕ) → word_from left p acc l ≡ Value v w → (p < w) × (w ≤ p + length l) × (w ≤ p + left)
from_within zero p acc l v w e = word_told zero p acc l v w e (λ r b bs f g h i j. absurd (let z : ⊥ = omega arith in z)) (λ r d bs f g h. absurd (let z : ⊥ = omega arith in z))
from_within (suc left) p acc l v w e =
    word_told (suc left) p acc l v w e
    (λ r b bs f g h i j. (omega arith, rw g (omega arith), omega arith))
    (λ r d bs f g h.
    let q : left ≡ r = omega arith in
    let i : (p + 1 < w) × (w ≤ p + 1 + length bs) × (w ≤ p + 1 + left) = from_within left (p + 1) (acc * 128 + d) bs v w (rw q h) in
    (omega arith, rw g (omega arith), omega arith))

from_below : (left p acc : ℕ) (l : List ℕ) (v w : ℕ) → Bytes l → acc < 128 ^ p → word_from left p acc l ≡ Value v w → v < 128 ^ w
from_below zero p acc l v w b a e = word_told zero p acc l v w e (λ r x bs f g h i j. absurd (let z : ⊥ = omega arith in z)) (λ r d bs f g h. absurd (let z : ⊥ = omega arith in z))
from_below (suc left) p acc l v w b a e =
    word_told (suc left) p acc l v w e
    (λ r x bs f g h i j. rw (i, j, add-one, pow-suc) (digits_lt a h))
    (λ r d bs f g h.
    let q : left ≡ r = omega arith in
    let c : Bytes ((0x80 + d) ∷ bs) = rw g at b in
    let k : 0x80 + d < 256 = c 0 in
    from_below left (p + 1) (acc * 128 + d) bs v w (bytes_rest (0x80 + d) bs c) (rw (add-one, pow-suc) (digits_lt a (omega arith))) (rw q h))

-- what a word that was read tells of its first byte
word_first : {P : Type 0} (l : List ℕ) (v w : ℕ) → word_read l ≡ Value v w
    → ((b : ℕ) (bs : List ℕ) → l ≡ b ∷ bs → eqb b 0x80 ≡ false → word_from 4 0 0 l ≡ Value v w → P) → P
unfolding word_read
word_first [] v w e f = absurd_number (cc)
word_first (b ∷ bs) v w e f =
    pick_cases (eqb b 0x80) _ _ (Value v w) e (λ t g. absurd_number (cc)) (λ t g. f b bs refl t g)

pub word_within : (l : List ℕ) (v w : ℕ) → word_read l ≡ Value v w → (0 < w) × (w ≤ length l) × (w ≤ 4)
word_within l v w e = word_first l v w e (λ b bs f t g. let h : (0 < w) × (w ≤ 0 + length l) × (w ≤ 0 + 4) = from_within 4 0 0 l v w g in (omega arith, omega arith, omega arith))

pub word_below : (l : List ℕ) (v w : ℕ) → Bytes l → word_read l ≡ Value v w → v < 128 ^ w
word_below l v w b e = word_first l v w e (λ x bs f t g. from_below 4 0 0 l v w b (omega arith) g)

pub word_shortest : (l : List ℕ) (v w : ℕ) → Bytes l → word_read l ≡ Value v w → length (word_write v) ≤ w
word_shortest l v w b e =
    rw (sym (length_word v (fewest 128 4 v) refl)) (fewest_least 128 4 w v (zero-lt-suc 127) (word_within l v w e).0 (word_below l v w b e))
