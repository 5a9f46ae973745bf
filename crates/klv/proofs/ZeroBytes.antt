-- The count of a number's lowest zero digits, eight digits at a time: how many of its bytes are 00, from the least on. By it,
-- where a key's label ends, and how many bytes two keys have in common.
use mathlib.Core.Path.{◌≡◌, refl, sym, ap, ◌∙◌}
use mathlib.Core.Bool.{false≢true}
use mathlib.Core.List.{List, [], ◌∷◌}
use Prim.Native.Nat.{ℕ, zero, suc, ◌+◌, ◌*◌, ◌/◌, ◌%◌, ◌^◌, ◌<◌, ◌≤◌}
use native.Mathlib.Omega.{arith}
use native.Mathlib.Nat.{pow-suc, mul_assoc}
use native.Mathlib.Decide.{dec_le}
use lib.Bits.{bit_xor, xor_block, xor_lt, xor_self}
use lib.Count.{count_trailing_zeros, trailing_le}
use lib.Dec.{eqb}
use lib.ListN.{length, get_or, take, drop, length-drop}
use lib.Seq.{length-take-le}
use mir.Val.{Fits}
use mir.Syntax.{w8, w64}
use borrow.Author.Tests.{eq-eqb, eqb-true}
use Rattle.klv.specs.Bytes.{Bytes, common}
use Rattle.klv.specs.Number.{little}
use Rattle.klv.proofs.Cases.{test_cases, absurd_number}
use Rattle.klv.proofs.BytesLaws.{bytes_rest, bytes_take, bytes_drop}
use Rattle.klv.proofs.LittleLaws.{little_same}

-- ---- zero digits

even : (k n : ℕ) → n % 2 ≡ 0 → count_trailing_zeros (suc k) n ≡ suc (count_trailing_zeros k (n / 2))
unfolding count_trailing_zeros
even k n e = rw e

odd : (k n : ℕ) → n % 2 ≡ 1 → count_trailing_zeros (suc k) n ≡ 0
unfolding count_trailing_zeros
odd k n e = rw e

-- below j zero digits the others are counted
pub zeros_above : (j k n : ℕ) → count_trailing_zeros (j + k) (n * 2 ^ j) ≡ j + count_trailing_zeros k n
zeros_above zero k n =
    let e : n * 1 ≡ n = omega arith in
    let f : 0 + k ≡ k = omega arith in
    rw (e, f) (omega arith)
zeros_above (suc j) k n =
    let a : n * 2 ^ suc j ≡ n * 2 ^ j * 2 = ap (λ (x : ℕ). n * x) (pow-suc 2 j) ∙ sym (mul_assoc n (2 ^ j) 2) in
    let b : suc j + k ≡ suc (j + k) = omega arith in
    let c : n * 2 ^ j * 2 / 2 ≡ n * 2 ^ j = omega arith in
    rw (a, b) (even (j + k) (n * 2 ^ j * 2) (omega arith) ∙ rw (c, zeros_above j k n) (omega arith))

-- among j digits that are not all zero, fewer than j are counted
pub zeros_among : (j k n r : ℕ) → 0 < r → r < 2 ^ j → count_trailing_zeros (j + k) (n * 2 ^ j + r) < j
zeros_among zero k n r g h = absurd (let f : ⊥ = omega arith in f)
zeros_among (suc j) k n r g h =
    let a : n * 2 ^ suc j ≡ n * 2 ^ j * 2 = ap (λ (x : ℕ). n * x) (pow-suc 2 j) ∙ sym (mul_assoc n (2 ^ j) 2) in
    let b : suc j + k ≡ suc (j + k) = omega arith in
    let h : r < 2 ^ j * 2 = rw pow-suc at h in
    elim (dec_le 1 (r % 2)) [
      | yes y ↦ rw (a, b, odd (j + k) (n * 2 ^ j * 2 + r) (omega arith)) (omega arith)
      | no y ↦
          let c : (n * 2 ^ j * 2 + r) / 2 ≡ n * 2 ^ j + r / 2 = omega arith in
          let i : count_trailing_zeros (j + k) (n * 2 ^ j + r / 2) < j = zeros_among j k n (r / 2) (omega arith) (omega arith) in
          rw (a, b, even (j + k) (n * 2 ^ j * 2 + r) (omega arith), c) (omega arith)
    ]

-- ---- zero bytes

pub zero_byte : (k n : ℕ) → count_trailing_zeros (8 * suc k) (n * 256) / 8 ≡ suc (count_trailing_zeros (8 * k) n / 8)
zero_byte k n =
    let e : 8 * suc k ≡ 8 + 8 * k = omega arith in
    rw e (omega (arith, zeros_above 8 (8 * k) n))

pub other_byte : (k n r : ℕ) → 0 < r → r < 256 → count_trailing_zeros (8 * suc k) (n * 256 + r) / 8 ≡ 0
other_byte k n r g h =
    let e : 8 * suc k ≡ 8 + 8 * k = omega arith in
    rw e (omega (arith, zeros_among 8 (8 * k) n r g h))

-- ---- two numbers

last_digit : (a b : ℕ) → a < 2 → b < 2 → bit_xor a b ≡ 0 → a ≡ b
last_digit zero zero g h e = refl
last_digit zero (suc zero) g h e = absurd_number (sym e)
last_digit (suc zero) zero g h e = absurd_number (sym e)
last_digit (suc zero) (suc zero) g h e = refl
last_digit zero (suc (suc b)) g h e = absurd (let f : ⊥ = omega arith in f)
last_digit (suc zero) (suc (suc b)) g h e = absurd (let f : ⊥ = omega arith in f)
last_digit (suc (suc a)) b g h e = absurd (let f : ⊥ = omega arith in f)

-- numbers of j digits that do not differ are equal
pub no_difference : (j x y : ℕ) → x < 2 ^ j → y < 2 ^ j → bit_xor x y ≡ 0 → x ≡ y
no_difference zero x y g h e = omega arith
no_difference (suc j) x y g h e =
    let g : x < 2 ^ j * 2 = rw pow-suc at g in
    let h : y < 2 ^ j * 2 = rw pow-suc at h in
    let p : x ≡ x / 2 * 2 + x % 2 = omega arith in
    let q : y ≡ y / 2 * 2 + y % 2 = omega arith in
    let s : bit_xor x y ≡ bit_xor (x / 2) (y / 2) * 2 + bit_xor (x % 2) (y % 2) =
    ap (λ (z : ℕ). bit_xor z y) p ∙ ap (bit_xor (x / 2 * 2 + x % 2)) q ∙ xor_block 1 (x / 2) (y / 2) (x % 2) (y % 2) (omega arith) (omega arith) in
    let i : x / 2 ≡ y / 2 = no_difference j (x / 2) (y / 2) (omega arith) (omega arith) (omega arith) in
    let d : bit_xor (x % 2) (y % 2) ≡ 0 = omega arith in
    let m : x % 2 ≡ y % 2 = last_digit (x % 2) (y % 2) (omega arith) (omega arith) d in
    omega arith

difference : (x y : ℕ) → x < 256 → y < 256 → (x ≡ y → ⊥) → 0 < bit_xor x y
difference x y g h d =
    elim (dec_le 1 (bit_xor x y)) [
      | yes a ↦ a
      | no a ↦ absurd (d (no_difference 8 x y g h (omega arith)))
    ]

-- the bytes that two lists of k bytes have in common are those in which their numbers do not differ
pub common_bytes : (k : ℕ) (a b : List ℕ) → length a ≡ k → length b ≡ k → Bytes a → Bytes b → count_trailing_zeros (8 * k) (bit_xor (little a) (little b)) / 8 ≡ common a b
unfolding common little count_trailing_zeros
common_bytes zero [] b l m p q = refl
common_bytes zero (x ∷ a) b l m p q = absurd (let f : ⊥ = omega arith in f)
common_bytes (suc k) [] b l m p q = absurd (let f : ⊥ = omega arith in f)
common_bytes (suc k) (x ∷ a) [] l m p q = absurd (let f : ⊥ = omega arith in f)
common_bytes (suc k) (x ∷ a) (y ∷ b) l m p q =
    let u : x + 256 * little a ≡ little a * 256 + x = omega arith in
    let v : y + 256 * little b ≡ little b * 256 + y = omega arith in
    let g : x < 256 = p 0 in
    let h : y < 256 = q 0 in
    let s : bit_xor (x + 256 * little a) (y + 256 * little b) ≡ bit_xor (little a) (little b) * 256 + bit_xor x y = rw (u, v) (xor_block 8 (little a) (little b) x y g h) in
    test_cases (eqb x y)
    (λ t.
    let w : bit_xor x y ≡ 0 = rw (eqb-true x y t) (xor_self y) in
    let z : bit_xor (little a) (little b) * 256 + 0 ≡ bit_xor (little a) (little b) * 256 = omega arith in
    rw (s, w, z, t, zero_byte k (bit_xor (little a) (little b)), common_bytes k a b (omega arith) (omega arith) (bytes_rest x a p) (bytes_rest y b q)))
    (λ t. rw (s, t) (other_byte k (bit_xor (little a) (little b)) (bit_xor x y) (difference x y g h (λ e. false≢true (sym t ∙ eq-eqb x y e))) (xor_lt 8 x y g h)))

-- ---- from the halves to the whole

-- lists that begin alike
common_after : (n : ℕ) (a b : List ℕ) → n ≤ length a → take n a ≡ take n b → length a ≡ length b → common a b ≡ n + common (drop n a) (drop n b)
unfolding common
common_after zero a b h e l = omega arith
common_after (suc n) [] b h e l = absurd (let f : ⊥ = omega arith in f)
common_after (suc n) (x ∷ a) [] h e l = absurd (let f : ⊥ = omega arith in f)
common_after (suc n) (x ∷ a) (y ∷ b) h e l =
    let i : x ≡ y = cc in
    let r : take n a ≡ take n b = cc in
    rw (eq-eqb x y i) (omega (arith, common_after n a b (omega arith) r (omega arith)))

-- lists that differ among the first n
common_within : (n : ℕ) (a b : List ℕ) → common (take n a) (take n b) < n → length a ≡ length b → n ≤ length a → common a b ≡ common (take n a) (take n b)
unfolding common
common_within zero a b h l m = absurd (let f : ⊥ = omega arith in f)
common_within (suc n) [] b h l m = absurd (let f : ⊥ = omega arith in f)
common_within (suc n) (x ∷ a) [] h l m = absurd (let f : ⊥ = omega arith in f)
common_within (suc n) (x ∷ a) (y ∷ b) h l m =
    test_cases (eqb x y)
    (λ t. rw t (ap suc (common_within n a b (let g : suc (common (take n a) (take n b)) < suc n = rw t at h in omega arith) (omega arith) (omega arith))))
    (λ t. rw t)

-- ---- each fact in the shape of its need

pub more_zeros_fit : (n r : ℕ) → r ≡ count_trailing_zeros 64 n / 8 → Fits w64 (8 + r)
more_zeros_fit n r e = omega (arith, trailing_le 64 n)

-- the first halves are the same
pub common_last : (a b : List ℕ) (x u y v r : ℕ) → x ≡ little (take 8 a) → u ≡ little (take 8 b) → bit_xor x u ≡ 0 → y ≡ little (drop 8 a) → v ≡ little (drop 8 b)
    → r ≡ count_trailing_zeros 64 (bit_xor y v) / 8 → length a ≡ 16 → length b ≡ 16 → ((i : ℕ) → Fits w8 (get_or a i 0)) → ((i : ℕ) → Fits w8 (get_or b i 0))
    → Fits w64 x → Fits w64 u → 8 + r ≡ common a b
common_last a b x u y v r e f z g h w l m p q i j =
    let s : x ≡ u = no_difference 64 x u (omega arith) (omega arith) z in
    let la : length (take 8 a) ≡ 8 = length-take-le 8 a (omega arith) in
    let lb : length (take 8 b) ≡ 8 = length-take-le 8 b (omega arith) in
    let pa : Bytes a = λ n. (p n).fits in
    let pb : Bytes b = λ n. (q n).fits in
    let t : take 8 a ≡ take 8 b = little_same (take 8 a) (take 8 b) (la ∙ sym lb) (bytes_take 8 a pa) (bytes_take 8 b pb) (sym e ∙ s ∙ f) in
    let c : count_trailing_zeros 64 (bit_xor (little (drop 8 a)) (little (drop 8 b))) / 8 ≡ common (drop 8 a) (drop 8 b) =
    common_bytes 8 (drop 8 a) (drop 8 b) (simp (length-drop, l)) (simp (length-drop, m)) (bytes_drop 8 a pa) (bytes_drop 8 b pb) in
    let n : r ≡ common (drop 8 a) (drop 8 b) = rw (g, h, c) at w in
    rw n (sym (common_after 8 a b (omega arith) t (l ∙ sym m)))

-- they differ
pub common_first : (a b : List ℕ) (x u r : ℕ) → x ≡ little (take 8 a) → u ≡ little (take 8 b) → (bit_xor x u ≡ 0 → ⊥) → r ≡ count_trailing_zeros 64 (bit_xor x u) / 8
    → length a ≡ 16 → length b ≡ 16 → ((i : ℕ) → Fits w8 (get_or a i 0)) → ((i : ℕ) → Fits w8 (get_or b i 0)) → Fits w64 x → Fits w64 u → r ≡ common a b
common_first a b x u r e f z w l m p q i j =
    let la : length (take 8 a) ≡ 8 = length-take-le 8 a (omega arith) in
    let lb : length (take 8 b) ≡ 8 = length-take-le 8 b (omega arith) in
    let c : count_trailing_zeros 64 (bit_xor (little (take 8 a)) (little (take 8 b))) / 8 ≡ common (take 8 a) (take 8 b) =
    common_bytes 8 (take 8 a) (take 8 b) la lb (bytes_take 8 a (λ n. (p n).fits)) (bytes_take 8 b (λ n. (q n).fits)) in
    let n : r ≡ common (take 8 a) (take 8 b) = rw (e, f, c) at w in
    let d : count_trailing_zeros (64 + 0) (0 * 2 ^ 64 + bit_xor x u) < 64 =
    zeros_among 64 0 0 (bit_xor x u) (let y : 0 < bit_xor x u = omega arith in y) (xor_lt 64 x u (omega arith) (omega arith)) in
    let o : 0 * 2 ^ 64 + bit_xor x u ≡ bit_xor x u = omega arith in
    let d : count_trailing_zeros 64 (bit_xor x u) < 64 = rw o at d in
    n ∙ sym (common_within 8 a b (omega arith) (l ∙ sym m) (omega arith))
