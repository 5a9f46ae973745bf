-- Eight bytes of a key as one number: the loops of `half` and `words_each`, and what `same_key` and `rank` make of the
-- numbers, each fact in the shape of its need.
use mathlib.Core.Path.{◌≡◌, refl, sym, ap, ◌∙◌}
use mathlib.Core.List.{List, ◌∷◌}
use mathlib.Core.Bool.{Bool, true, false, false≢true, not}
use Prim.Native.Nat.{ℕ, zero, suc, ◌+◌, ◌-◌, ◌*◌, ◌/◌, ◌%◌, ◌^◌, ◌<◌, ◌≤◌}
use native.Mathlib.Omega.{arith}
use native.Mathlib.Nat.{pow-suc}
use mir.Val.{Fits}
use mir.Syntax.{w8, w64}
use lib.Bits.{bit_xor, xor_self}
use lib.Dec.{leb, eqb}
use lib.ListN.{length, get_or, take, drop, length-drop}
use lib.Seq.{length-take-le, get_or-drop}
use borrow.Author.Tests.{eq-eqb, ne_eqb}
use Rattle.std.specs.Int.{swap_bytes}
use Rattle.klv.specs.Pick.{pick}
use Rattle.klv.specs.Bytes.{all_zero, same}
use Rattle.klv.specs.Key.{words}
use Rattle.klv.specs.Number.{number, little, spread}
use Rattle.klv.proofs.Cases.{test_cases}
use Rattle.klv.proofs.BytesLaws.{bytes_take, bytes_drop, same_true, same_iff}
use Rattle.klv.proofs.LittleLaws.{swap_is, spread_little, spread_zero, spread_other, small_rest, little_small, little_more}
use Rattle.klv.proofs.KeyLaws.{halves_same}
use Rattle.klv.proofs.ZeroBytes.{no_difference}

-- ---- eight bytes from the last one up: those from i on are in `value`, the others are still to be added

-- the weight of the byte before place i
pub weight_of : ℕ → ℕ
weight_of zero = 0
weight_of (suc i) = 256 ^ i

pub record Halving (k : List ℕ) (from value weight i : ℕ) : Type 0 where
  pub within : i ≤ 8
  pub weighed : weight ≡ weight_of i
  pub sum : value + little (take i (drop from k)) ≡ little (take 8 (drop from k))

pub halving_start : (k : List ℕ) (from : ℕ) → Halving k from 0 0x0100_0000_0000_0000 8
unfolding weight_of
halving_start k from = record { within = omega arith; weighed = refl; sum = omega arith }

weight_less : (i : ℕ) → weight_of (suc i) / 256 ≡ weight_of i
unfolding weight_of
weight_less zero = refl
weight_less (suc i) = rw pow-suc (let e : 256 ^ i * 256 / 256 ≡ 256 ^ i = omega arith in e)

-- the byte that is added next
next_byte : (k : List ℕ) (from i : ℕ) → i < 8 → from ≤ 8 → length k ≡ 16
    → little (take (suc i) (drop from k)) ≡ little (take i (drop from k)) + get_or k (from + i) 0 * weight_of (suc i)
unfolding weight_of
next_byte k from i h f l = rw (get_or-drop from k i 0) at (little_more (drop from k) i (simp length-drop (omega arith)))

pub halving_again : (k : List ℕ) (from value weight i : ℕ) → Halving k from value weight i → 0 < i → from ≤ 8 → length k ≡ 16
    → Halving k from (value + get_or k (from + (i - 1)) 0 * weight) (weight / 256) (i - 1)
halving_again k from value weight zero p h f l = absurd (let q : ⊥ = omega arith in q)
halving_again k from value weight (suc i) p h f l =
    let e : suc i - 1 ≡ i = omega arith in
    record {
      within = omega (arith, p.within);
      weighed = rw (e, p.weighed) (weight_less i);
      sum = rw (e, p.weighed) (omega (arith, p.sum, next_byte k from i p.within f l));
    }

pub halving_end : (k : List ℕ) (from value weight i : ℕ) → Halving k from value weight i → i ≤ 0 → value ≡ little (take 8 (drop from k))
unfolding little
halving_end k from value weight zero p h = omega (arith, p.sum)
halving_end k from value weight (suc i) p h = absurd (let q : ⊥ = omega arith in q)

-- eight bytes spell a number of 64 bits
half_small : (k : List ℕ) (from : ℕ) → from ≤ 8 → length k ≡ 16 → ((i : ℕ) → Fits w8 (get_or k i 0)) → little (take 8 (drop from k)) < 2 ^ 64
half_small k from f l b =
    let e : length (take 8 (drop from k)) ≡ 8 = length-take-le 8 (drop from k) (simp length-drop (omega arith)) in
    rw e at (little_small (take 8 (drop from k)) (bytes_take 8 (drop from k) (bytes_drop from k (λ i. (b i).fits))))

part_fits : (k : List ℕ) (from value weight i : ℕ) → Halving k from value weight i → 0 < i → from ≤ 8 → length k ≡ 16 → ((i : ℕ) → Fits w8 (get_or k i 0))
    → value + get_or k (from + (i - 1)) 0 * weight < 2 ^ 64
part_fits k from value weight zero p h f l b = absurd (let q : ⊥ = omega arith in q)
part_fits k from value weight (suc i) p h f l b =
    let e : suc i - 1 ≡ i = omega arith in
    rw (e, p.weighed) (omega (arith, p.sum, next_byte k from i p.within f l, half_small k from f l b))

pub half_fits : (k : List ℕ) (from value weight i : ℕ) → Halving k from value weight i → 0 < i → from ≤ 8 → length k ≡ 16
    → ((i : ℕ) → Fits w8 (get_or k i 0)) → Fits w64 (value + get_or k (from + (i - 1)) 0 * weight)
half_fits k from value weight i p h f l b = omega (arith, part_fits k from value weight i p h f l b)

pub half_product_fits : (k : List ℕ) (from value weight i : ℕ) → Halving k from value weight i → 0 < i → from ≤ 8 → length k ≡ 16
    → ((i : ℕ) → Fits w8 (get_or k i 0)) → Fits w64 (get_or k (from + (i - 1)) 0 * weight)
half_product_fits k from value weight i p h f l b = omega (arith, part_fits k from value weight i p h f l b)

-- and come back from their number
pub last_spread : (k : List ℕ) → length k ≡ 16 → ((i : ℕ) → Fits w8 (get_or k i 0)) → spread 8 (little (drop 8 k)) ≡ drop 8 k
last_spread k l b =
    let d : length (drop 8 k) ≡ 8 = simp (length-drop, l) in
    rw d at (spread_little (drop 8 k) (bytes_drop 8 k (λ i. (b i).fits)))

-- the next byte of a number
spread_step : (rest i : ℕ) → i < 8 → spread (8 - i) rest ≡ rest % 256 ∷ spread (8 - (i + 1)) (rest / 256)
unfolding spread
spread_step rest i h = let e : 8 - i ≡ suc (8 - (i + 1)) = omega arith in rw e

-- ---- the bytes in the opposite order

pub rank_is : (k : List ℕ) (x r : ℕ) → x ≡ little (drop 8 k) → r ≡ swap_bytes w64 x → length k ≡ 16 → ((i : ℕ) → Fits w8 (get_or k i 0)) → r ≡ number 256 0 (drop 8 k)
rank_is k x r e f l b = rw (e, last_spread k l b) at (f ∙ swap_is x)

-- ---- the words of a number's eight bytes: those of `rest` are left

pub record Wording (number rest : ℕ) (inside : Bool) (i : ℕ) : Type 0 where
  pub within : i ≤ 8
  pub small : rest < 256 ^ (8 - i)
  pub left : words inside (spread (8 - i) rest) ≡ words false (spread 8 number)

inside_step : (rest i : ℕ) → i < 8 → words true (spread (8 - i) rest) ≡ words (leb 0x80 (rest % 256)) (spread (8 - (i + 1)) (rest / 256))
unfolding words
inside_step rest i h = rw (spread_step rest i h)

begin_step : (rest i : ℕ) → i < 8
    → words false (spread (8 - i) rest)
    ≡ pick (eqb (rest % 256) 0x00) (all_zero (spread (8 - (i + 1)) (rest / 256)))
    (pick (eqb (rest % 256) 0x80) false (words (leb 0x80 (rest % 256)) (spread (8 - (i + 1)) (rest / 256))))
unfolding words
begin_step rest i h = rw (spread_step rest i h)

small_step : (rest i : ℕ) → i < 8 → rest < 256 ^ (8 - i) → rest / 256 < 256 ^ (8 - (i + 1))
small_step rest i h s = let e : 8 - i ≡ suc (8 - (i + 1)) = omega arith in small_rest rest (8 - (i + 1)) (rw e at s)

was_inside : (inside : Bool) → not inside ≡ false → inside ≡ true
was_inside true e = refl
was_inside false e = sym e

was_outside : (inside : Bool) → not inside ≡ true → inside ≡ false
was_outside true e = sym e
was_outside false e = refl

pub wording_inside : (number rest : ℕ) (inside : Bool) (i : ℕ) → Wording number rest inside i → i < 8 → not inside ≡ false
    → Wording number (rest / 256) (leb 0x80 (rest % 256)) (i + 1)
wording_inside number rest inside i p h e =
    record { within = omega arith; small = small_step rest i h p.small; left = rw (was_inside inside e, inside_step rest i h) at p.left }

pub wording_begin : (number rest : ℕ) (inside : Bool) (i : ℕ) → Wording number rest inside i → i < 8 → not inside ≡ true
    → (rest % 256 ≡ 0x00 → ⊥) → (rest % 256 ≡ 0x80 → ⊥) → Wording number (rest / 256) (leb 0x80 (rest % 256)) (i + 1)
wording_begin number rest inside i p h e a b =
    record {
      within = omega arith;
      small = small_step rest i h p.small;
      left = rw (was_outside inside e, begin_step rest i h, ne_eqb (rest % 256) 0x00 a, ne_eqb (rest % 256) 0x80 b) at p.left;
    }

-- nothing is left: all bytes from here on are 00
pub wording_zero : (number rest : ℕ) (inside : Bool) (i : ℕ) → Wording number rest inside i → i < 8 → not inside ≡ true → rest ≡ 0
    → true ≡ words false (spread 8 number)
wording_zero number rest inside i p h e z =
    sym (spread_zero (8 - (i + 1))) ∙ rw (was_outside inside e, z, begin_step 0 i h) at p.left

-- a word 00 with something after it
pub wording_not_zero : (number rest : ℕ) (inside : Bool) (i : ℕ) → Wording number rest inside i → i < 8 → not inside ≡ true → (rest ≡ 0 → ⊥)
    → rest % 256 ≡ 0x00 → false ≡ words false (spread 8 number)
wording_not_zero number rest inside i p h e z a =
    sym (spread_other (8 - (i + 1)) (rest / 256) (omega arith) (small_step rest i h p.small))
    ∙ rw (was_outside inside e, begin_step rest i h, eq-eqb (rest % 256) 0x00 a) at p.left

pub wording_malformed : (number rest : ℕ) (inside : Bool) (i : ℕ) → Wording number rest inside i → i < 8 → not inside ≡ true
    → (rest % 256 ≡ 0x00 → ⊥) → rest % 256 ≡ 0x80 → false ≡ words false (spread 8 number)
wording_malformed number rest inside i p h e a b =
    rw (was_outside inside e, begin_step rest i h, ne_eqb (rest % 256) 0x00 a, eq-eqb (rest % 256) 0x80 b) at p.left

pub words_none : (inside : Bool) (n : ℕ) → not inside ≡ words inside (spread 0 n)
unfolding words spread
words_none true n = refl
words_none false n = refl

pub wording_end : (number rest : ℕ) (inside : Bool) (i : ℕ) → Wording number rest inside i → 8 ≤ i → not inside ≡ words false (spread 8 number)
wording_end number rest inside i p h =
    let e : 8 - i ≡ 0 = omega arith in
    words_none inside rest ∙ rw e at p.left

-- ---- two keys are equal if both numbers are

pub last_differs : (a b : List ℕ) (x y : ℕ) → x ≡ little (drop 8 a) → y ≡ little (drop 8 b) → (x ≡ y → ⊥) → false ≡ same a b
last_differs a b x y p q n =
    test_cases (same a b) (λ t. absurd (n (p ∙ ap (λ (k : List ℕ). little (drop 8 k)) (same_true a b t) ∙ sym q))) (λ t. sym t)

pub first_decides : (a b : List ℕ) (x y u v : ℕ) → x ≡ little (drop 8 a) → y ≡ little (drop 8 b) → x ≡ y → u ≡ little (take 8 a) → v ≡ little (take 8 b)
    → length a ≡ 16 → length b ≡ 16 → ((i : ℕ) → Fits w8 (get_or a i 0)) → ((i : ℕ) → Fits w8 (get_or b i 0)) → Fits w64 u → Fits w64 v → eqb (bit_xor u v) 0 ≡ same a b
first_decides a b x y u v p q e r s l m f g h i =
    test_cases (same a b)
    (λ t. eq-eqb (bit_xor u v) 0 (rw (r ∙ ap (λ (k : List ℕ). little (take 8 k)) (same_true a b t) ∙ sym s) (xor_self v)) ∙ sym t)
    (λ t.
    ne_eqb (bit_xor u v) 0 (λ w.
    let o : u ≡ v = no_difference 64 u v (omega arith) (omega arith) w in
    false≢true (sym t ∙ (same_iff a b).1 (halves_same a b l m (λ n. (f n).fits) (λ n. (g n).fits) (sym r ∙ o ∙ s) (sym p ∙ e ∙ q)))) ∙ sym t)
