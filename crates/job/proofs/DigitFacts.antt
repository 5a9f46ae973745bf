-- Module `digits`: each fact in the shape of its need.
use mathlib.Core.Path.{◌≡◌, refl, sym, ap, ◌∙◌, subst}
use mathlib.Core.List.{List, [], ◌∷◌, ◌++◌, map}
use Prim.Native.Nat.{ℕ, suc, ◌+◌, ◌-◌, ◌*◌, ◌/◌, ◌%◌, ◌^◌, ◌<◌, ◌≤◌}
use native.Mathlib.Omega.{arith}
use native.Mathlib.Decide.{dec_le}
use native.Mathlib.Nat.{pow-zero, pow-suc, pow-le-pow_right, div-one, div-div-eq-div-mul, zero-lt-suc}
use lib.ListN.{length, get_or, drop, set, length-map, length-set, drop_of_length-le}
use Rattle.klv.specs.Bytes.{pasted}
use Rattle.klv.specs.Number.{digits, fewest}
use Rattle.klv.proofs.DigitLaws.{length_digits}
use Rattle.klv.proofs.Fewest.{fewest_one, fewest_most, fewest_holds, fewest_least}
use Rattle.klv.proofs.Lists.{drop_step}
use Rattle.klv.proofs.Paste.{pasted_none, set_pasted}
use Rattle.job.specs.Text.{digit, decimal, hex}
use Rattle.groups.specs.Arrays.{Put}
use Rattle.job.proofs.PutLaws.{wrote_byte, wrote_more, wrote_as, Going, going_start, going_room, going_again, going_end}

-- ---- counting digits of base ten

pub length_decimal : (n : ℕ) → length (decimal n) ≡ fewest 10 20 n
unfolding decimal
length_decimal n = length-map (digits 10 (fewest 10 20 n) n) digit ∙ length_digits 10 (fewest 10 20 n) n

pub decimal_most : (n : ℕ) → length (decimal n) ≤ 20
decimal_most n = rw (length_decimal n) (fewest_most 10 20 n)

power_below : (k f : ℕ) → 10 ^ k < 10 ^ f → k < f
power_below k f h =
    elim (dec_le f k) [
      | yes l ↦ absurd (let g : 10 ^ f ≤ 10 ^ k = pow-le-pow_right {n = 10} (zero-lt-suc 9) {i = f} {j = k} l in omega arith)
      | no l ↦ omega arith
    ]

-- one more than the largest power of ten that the number holds
pub counted_power : (n k : ℕ) → 10 ^ k ≤ n → n < 10 * 10 ^ k → n < 2 ^ 64 → k + 1 ≡ length (decimal n)
counted_power n k h l s =
    let a : n < 10 ^ fewest 10 20 n = fewest_holds 10 19 n (omega arith) (omega arith) in
    let b : k < fewest 10 20 n = power_below k (fewest 10 20 n) (omega arith) in
    let t : n < 10 ^ suc k = rw pow-suc (omega arith) in
    let c : fewest 10 20 n ≤ suc k = fewest_least 10 20 (suc k) n (omega arith) (omega arith) t in
    omega (arith, length_decimal n)

pub counted_none : (n : ℕ) → n ≡ 0 → 1 ≡ length (decimal n)
counted_none n e = sym (length_decimal n ∙ fewest_one 10 19 n (omega arith))

-- ---- writing them from the last one up: k - j are written, `rest` is what is left of n

pub record Spelled (d : List ℕ) (at n k : ℕ) (out : List ℕ) (rest j : ℕ) : Type 0 where
  pub within : j ≤ k
  pub left : rest ≡ n / 10 ^ (k - j)
  pub size : length out ≡ length d
  pub bytes : out ≡ pasted d (at + j) (map digit (digits 10 (k - j) n))

pub spelled_start : (d : List ℕ) (at n k : ℕ) → Spelled d at n k d n k
spelled_start d at n k =
    let z : k - k ≡ 0 = omega arith in
    record { within = omega arith; left = rw (z, pow-zero) (sym (div-one n)); size = refl; bytes = rw z (sym (pasted_none d (at + k))) }

pub spelled_again : (d : List ℕ) (at n k : ℕ) (out : List ℕ) (rest j v : ℕ) → Spelled d at n k out rest j → 0 < j → k ≡ length (decimal n)
    → at + length (decimal n) ≤ length d → v ≡ digit (rest % 10) → Spelled d at n k (set out (at + (j - 1)) v) (rest / 10) (j - 1)
spelled_again d at n k out rest j v p h e f g =
    let w : j ≤ k = p.within in
    let q : k - (j - 1) ≡ suc (k - j) = omega arith in
    let s : at + j ≡ at + (j - 1) + 1 = omega arith in
    let b : out ≡ pasted d (at + (j - 1) + 1) (map digit (digits 10 (k - j) n)) = rw s at p.bytes in
    let v' : v ≡ digit (n / 10 ^ (k - j) % 10) = g ∙ ap (λ (x : ℕ). digit (x % 10)) p.left in
    record {
      within = omega arith;
      left = rw (p.left, q, div-div-eq-div-mul, pow-suc);
      size = length-set out (at + (j - 1)) v ∙ p.size;
      bytes = rw (q, b, v') (set_pasted d (at + (j - 1)) (map digit (digits 10 (k - j) n)) (digit (n / 10 ^ (k - j) % 10)) (omega arith));
    }

pub spelled_end : (d : List ℕ) (at n k : ℕ) (out : List ℕ) (rest j : ℕ) → Spelled d at n k out rest j → j ≤ 0 → k ≡ length (decimal n) → Put d at (decimal n) out (at + k)
unfolding decimal
spelled_end d at n k out rest j p h e =
    let s : at + j ≡ at = omega arith in
    let q : k - j ≡ k = omega arith in
    let b : out ≡ pasted d at (map digit (digits 10 k n)) = rw (s, q) at p.bytes in
    let f : k ≡ fewest 10 20 n = e ∙ length_decimal n in
    record { end = ap (λ (x : ℕ). at + x) e; bytes = b ∙ ap (λ (x : ℕ). pasted d at (map digit (digits 10 x n))) f }

pub spelled_in : (d out : List ℕ) (at n k j : ℕ) → length out ≡ length d → k ≡ length (decimal n) → at + length (decimal n) ≤ length d → j ≤ k → 0 < j → at + (j - 1) < length out
spelled_in d out at n k j s e h w l = omega arith

pub rest_small : (rest : ℕ) → rest % 10 < 16
rest_small rest = omega arith

-- ---- bytes in base sixteen: i of them are written

hex_step : (s : List ℕ) (i : ℕ) → i < length s → hex (drop i s) ≡ digit (get_or s i 0 / 16) ∷ digit (get_or s i 0 % 16) ∷ hex (drop (i + 1) s)
unfolding hex
hex_step s i h = ap hex (drop_step s i h)

hex_none : hex [] ≡ []
unfolding hex
hex_none = refl

pub length_hex : (s : List ℕ) → length (hex s) ≡ 2 * length s
unfolding hex
length_hex [] = refl
length_hex (b ∷ bs) = rw (length_hex bs) (omega arith)

abbrev pub Hexed : List ℕ → ℕ → List ℕ → List ℕ → ℕ → ℕ → Type 0
Hexed d at s out next i = Going d at (hex s) (hex (drop i s)) out next

pub hexed_start : (d : List ℕ) (at : ℕ) (s : List ℕ) → Hexed d at s d at 0
hexed_start d at s = going_start d at (hex s)

module _ (d : List ℕ) (at : ℕ) (s out : List ℕ) (next i : ℕ) (p : Hexed d at s out next i) (h : i < length s) (room : at + length (hex s) ≤ length d) where
  high : ℕ
  high = digit (get_or s i 0 / 16)

  low : ℕ
  low = digit (get_or s i 0 % 16)

  here : Going d at (hex s) ((high ∷ low ∷ []) ++ hex (drop (i + 1) s)) out next
  unfolding high low
  here = subst (λ (l : List ℕ). Going d at (hex s) l out next) (hex_step s i h) p

  next_room : next + 2 ≤ length out
  next_room = going_room (high ∷ low ∷ []) (hex (drop (i + 1) s)) here room

  pub hexed_in : next < length out
  hexed_in = omega (arith, next_room)

  pub hexed_second : (v : ℕ) → next + 1 < length (set out next v)
  hexed_second v = rw (length-set out next v) (omega (arith, next_room))

  pub hexed_again : (a b : ℕ) → a ≡ digit (get_or s i 0 / 16) → b ≡ digit (get_or s i 0 % 16) → Hexed d at s (set (set out next a) (next + 1) b) (next + 2) (i + 1)
  unfolding high low
  hexed_again a b e f =
      let w : Put out next (a ∷ b ∷ []) (set (set out next a) (next + 1) b) (next + 1 + 1) =
      wrote_more b (wrote_byte out next a (omega (arith, next_room))) (omega (arith, next_room)) in
      let n : next + 1 + 1 ≡ next + 2 = omega arith in
      let q : a ∷ b ∷ [] ≡ high ∷ low ∷ [] = rw (e, f) in
      let k : Put out next (high ∷ low ∷ []) (set (set out next a) (next + 1) b) (next + 2) = rw n at (wrote_as q w) in
      going_again (high ∷ low ∷ []) (hex (drop (i + 1) s)) here room k

pub hexed_end : (d : List ℕ) (at : ℕ) (s out : List ℕ) (next i : ℕ) → Hexed d at s out next i → length s ≤ i → Put d at (hex s) out next
hexed_end d at s out next i p h =
    let e : hex (drop i s) ≡ [] = ap hex (drop_of_length-le s h) ∙ hex_none in
    going_end (subst (λ (l : List ℕ). Going d at (hex s) l out next) e p)
