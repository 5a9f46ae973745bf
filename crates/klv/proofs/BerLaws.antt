-- Laws of BER lengths.
use mathlib.Core.Path.{◌≡◌, refl, sym, ap, ◌∙◌}
use mathlib.Core.List.{List, [], ◌∷◌, ◌++◌}
use Prim.Native.Nat.{ℕ, ◌+◌, ◌-◌, ◌^◌, ◌<◌, ◌≤◌}
use native.Mathlib.Omega.{arith}
use native.Mathlib.Decide.{dec_le}
use native.Mathlib.Nat.{zero-lt-suc, pow-le-pow_right, lt_of_lt_of_le}
use lib.Dec.{ltb, eqb}
use lib.ListN.{length, take, length-append}
use lib.Seq.{take_at}
use borrow.Author.Tests.{lt-ltb, le-ltb, ne_eqb, ltb-true, ltb-false, eqb-false}
use Rattle.klv.specs.Bytes.{Bytes}
use Rattle.klv.specs.Number.{number, digits, fewest}
use Rattle.klv.specs.Ber.{ber_read, ber_write}
use Rattle.klv.specs.Number.{Value}
use Rattle.klv.proofs.Cases.{pick_cases, absurd_number, same_value, same_width}
use Rattle.klv.proofs.BytesLaws.{bytes_none, bytes_cons, bytes_rest}
use Rattle.klv.proofs.DigitLaws.{length_digits, number_of_digits, digits_below}
use Rattle.klv.proofs.Fewest.{fewest_most, fewest_some, fewest_holds, fewest_least}
use Rattle.klv.proofs.FixedLaws.{part_below}
use Rattle.klv.proofs.BerFacts.{ber_short, ber_long, length_short, length_long}

-- ---- what reads

pub ber_one : (b : ℕ) (bs : List ℕ) → b < 0x80 → ber_read (b ∷ bs) ≡ Value b 1
unfolding ber_read
ber_one b bs h = rw (lt-ltb b 0x80 h)

pub ber_more : (k : ℕ) (bs : List ℕ) → 0 < k → k ≤ 8 → k ≤ length bs → ber_read ((0x80 + k) ∷ bs) ≡ Value (number 256 0 (take k bs)) (k + 1)
unfolding ber_read
ber_more k bs p q h =
    let e : 0x80 + k - 0x80 ≡ k = omega arith in
    rw (
      le-ltb (0x80 + k) 0x80 (omega arith),
      ne_eqb (0x80 + k) 0x80 (omega arith),
      le-ltb 0x88 (0x80 + k) (omega arith),
      e,
      le-ltb (length bs) k h,
    )

-- what a length that was read tells: it is one byte, or a count and so many bytes
pub ber_told : {P : Type 0} (l : List ℕ) (v w : ℕ) → ber_read l ≡ Value v w
    → ((bs : List ℕ) → l ≡ v ∷ bs → v < 0x80 → w ≡ 1 → P)
    → ((k : ℕ) (bs : List ℕ) → l ≡ (0x80 + k) ∷ bs → 0 < k → k ≤ 8 → k ≤ length bs → v ≡ number 256 0 (take k bs) → w ≡ k + 1 → P) → P
unfolding ber_read
ber_told [] v w e short long = absurd_number (cc)
ber_told (b ∷ bs) v w e short long =
    pick_cases (ltb b 0x80) _ _ (Value v w) e
    (λ t f. let g : b ≡ v = same_value b 1 v w f in short bs (rw g) (rw g at (ltb-true b 0x80 t)) (sym (same_width b 1 v w f)))
    (λ t f. pick_cases (eqb b 0x80) _ _ (Value v w) f
    (λ t f. absurd_number (cc))
    (λ u f. pick_cases (ltb 0x88 b) _ _ (Value v w) f
    (λ t f. absurd_number (cc))
    (λ x f. pick_cases (ltb (length bs) (b - 0x80)) _ _ (Value v w) f
    (λ t f. absurd_number (cc))
    (λ y f.
    let k : ℕ = b - 0x80 in
    let p : 0x80 ≤ b = ltb-false b 0x80 t in
    let q : b ≤ 0x88 = ltb-false 0x88 b x in
    let n : b ≡ 0x80 → ⊥ = eqb-false b 0x80 u in
    let r : b - 0x80 ≤ length bs = ltb-false (length bs) (b - 0x80) y in
    let s : b ≡ 0x80 + (b - 0x80) = omega arith in
    long (b - 0x80) bs (ap (λ (z : ℕ). z ∷ bs) s) (omega arith) (omega arith) r (sym (same_value _ _ v w f)) (sym (same_width _ _ v w f))))))

-- ---- written and read back

pub ber_back : (n : ℕ) (rest : List ℕ) → n < 2 ^ 64 → ber_read (ber_write n ++ rest) ≡ Value n (length (ber_write n))
ber_back n rest h =
    elim (dec_le 0x80 n) [
      | yes l ↦
          let k : ℕ = fewest 256 8 n in
          let s : length (digits 256 k n) ≡ k = length_digits 256 k n in
          rw (sym (length_long n k refl l), ber_long n l)
          (ber_more k (digits 256 k n ++ rest) (fewest_some 256 7 n) (fewest_most 256 8 n) (omega (arith, length-append (digits 256 k n) rest))
          ∙ rw (take_at (digits 256 k n) rest k s, number_of_digits 256 k n (zero-lt-suc 255) (fewest_holds 256 7 n (zero-lt-suc 255) h)))
      | no l ↦ let s : n < 0x80 = omega arith in rw (ber_short n s) (ber_one n rest s)
    ]

pub ber_bytes_law : (n : ℕ) → Bytes (ber_write n)
ber_bytes_law n =
    elim (dec_le 0x80 n) [
      | yes l ↦
          rw (ber_long n l)
          (bytes_cons (0x80 + fewest 256 8 n) (digits 256 (fewest 256 8 n) n) (omega (arith, fewest_most 256 8 n)) (λ i. digits_below 256 (fewest 256 8 n) n i (zero-lt-suc 255)))
      | no l ↦ let s : n < 0x80 = omega arith in rw (ber_short n s) (bytes_cons n [] (omega arith) bytes_none)
    ]

pub ber_widest : (n : ℕ) → length (ber_write n) ≤ 9
ber_widest n =
    elim (dec_le 0x80 n) [
      | yes l ↦ omega (arith, length_long n (fewest 256 8 n) refl l, fewest_most 256 8 n)
      | no l ↦ omega (arith, length_short n (omega arith))
    ]

-- ---- of any length that was read

pub ber_within : (l : List ℕ) (v w : ℕ) → ber_read l ≡ Value v w → (0 < w) × (w ≤ length l)
ber_within l v w e =
    ber_told l v w e
    (λ bs f h g. (omega arith, rw f (omega arith)))
    (λ k bs f p q h g z. (omega arith, rw f (omega arith)))

pub ber_below : (l : List ℕ) (v w : ℕ) → Bytes l → ber_read l ≡ Value v w → v < 2 ^ 64
ber_below l v w b e =
    ber_told l v w e
    (λ bs f h g. omega arith)
    (λ k bs f p q h g z.
    let c : Bytes bs = bytes_rest (0x80 + k) bs (rw f at b) in
    rw g (lt_of_lt_of_le (part_below k bs c h) (pow-le-pow_right {n = 256} (zero-lt-suc 255) {i = k} {j = 8} q)))

-- no form that reads as a number is shorter than the one written
pub ber_shortest : (l : List ℕ) (v w : ℕ) → Bytes l → ber_read l ≡ Value v w → length (ber_write v) ≤ w
ber_shortest l v w b e =
    ber_told l v w e
    (λ bs f h g. omega (arith, length_short v h))
    (λ k bs f p q h g z.
    let c : Bytes bs = bytes_rest (0x80 + k) bs (rw f at b) in
    let s : v < 256 ^ k = rw g (part_below k bs c h) in
    elim (dec_le 0x80 v) [
      | yes l ↦ omega (arith, length_long v (fewest 256 8 v) refl l, fewest_least 256 8 k v (zero-lt-suc 255) p s)
      | no l ↦ omega (arith, length_short v (omega arith))
    ])
