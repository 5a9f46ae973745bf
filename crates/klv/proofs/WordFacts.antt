-- Module `word`: the loop that reads a word, and the writer's count; each fact in the shape of its need.
use mathlib.Core.Path.{◌≡◌}
use mathlib.Core.List.{List}
use Prim.Native.Nat.{ℕ, suc, ◌+◌, ◌-◌, ◌*◌, ◌^◌, ◌<◌, ◌≤◌}
use native.Mathlib.Omega.{arith}
use native.Mathlib.Nat.{add-zero, pow-suc, pow-le-pow_right, lt_of_lt_of_le, zero-lt-suc}
use native.Mathlib.Numerals.{add-one}
use mir.Val.{Fits}
use mir.Syntax.{w8, w64}
use lib.Arith.{digits_lt}
use lib.Dec.{ltb, eqb}
use lib.ListN.{length, get_or, drop, drop_of_length-le}
use borrow.Author.Tests.{lt-ltb, le-ltb, eq-eqb, ne_eqb}
use Rattle.klv.specs.Pick.{pick}
use Rattle.klv.specs.Bytes.{pasted}
use Rattle.klv.specs.Number.{digits, fewest, marked}
use Rattle.klv.specs.Word.{word_from, word_read, word_write}
use Rattle.klv.specs.Number.{Value}
use Rattle.klv.specs.declared.layout.NumberError.TheVariants.{Missing, Malformed}
use Rattle.std.specs.Prelude.{Err}
use Rattle.klv.proofs.Lists.{drop_step}
use Rattle.klv.proofs.DigitLaws.{length_digits, length_marked}

-- ---- reading: i bytes are read, spelling `value`

pub record Reading (s : List ℕ) (at value i : ℕ) : Type 0 where
  pub within : i ≤ 4
  pub small : value < 128 ^ i
  pub rest : word_from (4 - i) i value (drop (at + i) s) ≡ word_read (drop at s)

pub word_none : (s : List ℕ) (at n : ℕ) → n ≡ length s - at → n ≡ 0 → Err Missing ≡ word_read (drop at s)
unfolding word_read
word_none s at n e z = rw (drop_of_length-le s (let g : length s ≤ at = omega arith in g))

word_front : (s : List ℕ) (at : ℕ) → at < length s → word_read (drop at s) ≡ pick (eqb (get_or s at 0) 0x80) (Err Malformed) (word_from 4 0 0 (drop at s))
unfolding word_read
word_front s at h = rw (drop_step s at h)

pub word_padded : (s : List ℕ) (at n : ℕ) → n ≡ length s - at → (n ≡ 0 → ⊥) → get_or s at 0 ≡ 0x80 → Err Malformed ≡ word_read (drop at s)
word_padded s at n e z b = rw (word_front s at (omega arith), eq-eqb (get_or s at 0) 0x80 b)

pub reading_start : (s : List ℕ) (at n : ℕ) → n ≡ length s - at → (n ≡ 0 → ⊥) → (get_or s at 0 ≡ 0x80 → ⊥) → Reading s at 0 0
reading_start s at n e z b =
    record { within = omega arith; small = omega arith; rest = rw (word_front s at (omega arith), ne_eqb (get_or s at 0) 0x80 b, add-zero) }

word_step : (s : List ℕ) (at value i : ℕ) → i < 4 → at + i < length s
    → word_from (4 - i) i value (drop (at + i) s)
    ≡ pick (ltb (get_or s (at + i) 0) 0x80) (Value (value * 128 + get_or s (at + i) 0) (i + 1))
    (word_from (4 - (i + 1)) (i + 1) (value * 128 + (get_or s (at + i) 0 - 0x80)) (drop (at + (i + 1)) s))
unfolding word_from
word_step s at value i h l =
    let e : 4 - i ≡ suc (4 - (i + 1)) = omega arith in
    let f : at + (i + 1) ≡ at + i + 1 = omega arith in
    rw (e, f, drop_step s (at + i) l)

pub reading_cut : (s : List ℕ) (at n value i : ℕ) → Reading s at value i → n ≡ length s - at → i < 4 → n ≤ i → Err Missing ≡ word_read (drop at s)
unfolding word_from
reading_cut s at n value i p e h l =
    let f : 4 - i ≡ suc (4 - (i + 1)) = omega arith in
    rw (f, drop_of_length-le s (let g : length s ≤ at + i = omega arith in g)) at p.rest

pub reading_last : (s : List ℕ) (at n value i : ℕ) → Reading s at value i → n ≡ length s - at → i < 4 → i < n → get_or s (at + i) 0 < 0x80
    → Value (value * 128 + get_or s (at + i) 0) (i + 1) ≡ word_read (drop at s)
reading_last s at n value i p e h l b = rw (word_step s at value i h (omega arith), lt-ltb (get_or s (at + i) 0) 0x80 b) at p.rest

pub reading_again : (s : List ℕ) (at n value i : ℕ) → Reading s at value i → n ≡ length s - at → i < 4 → i < n → 0x80 ≤ get_or s (at + i) 0
    → Fits w8 (get_or s (at + i) 0) → Reading s at (value * 128 + (get_or s (at + i) 0 - 0x80)) (i + 1)
reading_again s at n value i p e h l b f =
    record {
      within = omega arith;
      small = rw (add-one, pow-suc) (digits_lt p.small (omega (arith, f.fits)));
      rest = rw (word_step s at value i h (omega arith), le-ltb (get_or s (at + i) 0) 0x80 b) at p.rest;
    }

pub reading_end : (s : List ℕ) (at value i : ℕ) → Reading s at value i → 4 ≤ i → Err Malformed ≡ word_read (drop at s)
unfolding word_from
reading_end s at value i p h =
    let e : 4 - i ≡ 0 = omega arith in
    rw e at p.rest

word_small : (s : List ℕ) (at value i : ℕ) → Reading s at value i → i < 4 → value < 2 ^ 21
word_small s at value i p h = lt_of_lt_of_le p.small (pow-le-pow_right {n = 128} (zero-lt-suc 127) {i = i} {j = 3} (omega arith))

pub word_shift_fits : (s : List ℕ) (at value i : ℕ) → Reading s at value i → i < 4 → Fits w64 (value * 128)
word_shift_fits s at value i p h = let m : value < 2 ^ 21 = word_small s at value i p h in omega arith

-- ---- writing

pub length_word : (n k : ℕ) → k ≡ fewest 128 4 n → k ≡ length (word_write n)
unfolding word_write
length_word n k e = rw (length_marked, length_digits) e

pub word_room : (n at l k : ℕ) → k ≡ fewest 128 4 n → at + length (word_write n) ≤ l → at + k ≤ l
word_room n at l k e h = omega (arith, length_word n k e)

pub word_put : (d x : List ℕ) (at n k : ℕ) → x ≡ pasted d at (marked 0x80 (digits 128 k n)) → k ≡ fewest 128 4 n → x ≡ pasted d at (word_write n)
unfolding word_write
word_put d x at n k e f = rw f at e
