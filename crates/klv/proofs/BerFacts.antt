-- Module `ber`: reading at a position as tests on numbers; the two cases of the writer; each fact in the shape of its need.
use mathlib.Core.Path.{◌≡◌, sym, ◌∙◌}
use mathlib.Core.Bool.{Bool}
use mathlib.Core.List.{List, [], ◌∷◌}
use Prim.Native.Nat.{ℕ, ◌+◌, ◌-◌, ◌<◌, ◌≤◌}
use native.Mathlib.Omega.{arith}
use native.Mathlib.Decide.{dec_le}
use native.Mathlib.Numerals.{add-one}
use mir.Val.{Fits}
use mir.Syntax.{w8, w64}
use lib.Dec.{ltb, eqb}
use lib.ListN.{length, get_or, take, drop, set, length-set, drop_of_length-le, length-drop}
use borrow.Author.Tests.{lt-ltb, le-ltb}
use Rattle.klv.specs.Pick.{pick}
use Rattle.klv.specs.Bytes.{pasted}
use Rattle.klv.specs.Number.{Read, Value, number, digits, fewest}
use Rattle.klv.specs.Ber.{ber_read, ber_write, longer, ber_length, with_longer}
use Rattle.klv.specs.declared.ber.BerLength.{BerLength}
use Rattle.klv.specs.declared.layout.Number.{Number}
use Rattle.klv.specs.declared.layout.NumberError.{NumberError}
use Rattle.klv.specs.declared.layout.NumberError.TheVariants.{Missing, Malformed}
use Rattle.std.specs.Prelude.{Result, Ok, Err}
use Rattle.klv.proofs.Cases.{absurd_number}
use Rattle.klv.proofs.Lists.{drop_step}
use Rattle.klv.proofs.Paste.{set_is_pasted, pasted_pasted}
use Rattle.klv.proofs.DigitLaws.{length_digits}
use Rattle.klv.proofs.Fewest.{fewest_most}

-- ---- reading

abbrev pub ber_at : List ℕ → ℕ → Read
ber_at s at =
    pick (ltb at (length s))
    (pick (ltb (get_or s at 0) 0x80) (Value (get_or s at 0) 1)
    (pick (eqb (get_or s at 0) 0x80) (Err Malformed)
    (pick (ltb 0x88 (get_or s at 0)) (Err Malformed)
    (pick (ltb (length s - (at + 1)) (get_or s at 0 - 0x80)) (Err Missing)
    (Value (number 256 0 (take (get_or s at 0 - 0x80) (drop (at + 1) s))) (get_or s at 0 - 0x80 + 1))))))
    (Err Missing)

pub ber_at_law : (s : List ℕ) (at : ℕ) → ber_at s at ≡ ber_read (drop at s)
unfolding ber_read
ber_at_law s at =
    elim (dec_le (length s) at) [
      | yes h ↦ rw (le-ltb at (length s) h, drop_of_length-le s h)
      | no h ↦ let k : at < length s = omega arith in rw (lt-ltb at (length s) k, drop_step s at k, length-drop)
    ]

-- ---- whether fewer bytes would do

pub longer_is : (n w k : ℕ) → k ≡ length (ber_write n) → ltb k w ≡ longer n w
unfolding longer
longer_is n w k e = rw e

module _ (l : List ℕ) (m : Read) (e : m ≡ ber_read l) where
  pub length_read : (n : Number) (b : Bool) → m ≡ Ok n → b ≡ longer n.value n.width → Ok (record { number = n; longer = b }) ≡ ber_length l
  unfolding ber_length
  length_read n b f g = rw (sym e ∙ f, g)

  pub length_error : (x : NumberError) → m ≡ Err x → Err x ≡ ber_length l
  unfolding ber_length
  length_error x f = rw (sym e ∙ f)

-- the number of a length as read
number_told : (m : Read) (r : BerLength) → with_longer m ≡ Ok r → Ok r.number ≡ m
number_told (Ok n) r e = cc
number_told (Err x) r e = absurd_number (cc)

error_told : (m : Read) (x : NumberError) → with_longer m ≡ Err x → Err x ≡ m
error_told (Ok n) x e = absurd_number (cc)
error_told (Err y) x e = cc

module _ (l : List ℕ) (t : Result BerLength NumberError) (e : t ≡ ber_length l) where
  pub number_read : (r : BerLength) → t ≡ Ok r → Ok r.number ≡ ber_read l
  unfolding ber_length
  number_read r f = number_told (ber_read l) r (sym e ∙ f)

  pub number_error : (x : NumberError) → t ≡ Err x → Err x ≡ ber_read l
  unfolding ber_length
  number_error x f = error_told (ber_read l) x (sym e ∙ f)

-- ---- writing

pub ber_short : (n : ℕ) → n < 0x80 → ber_write n ≡ n ∷ []
unfolding ber_write
ber_short n h = rw (lt-ltb n 0x80 h)

pub ber_long : (n : ℕ) → 0x80 ≤ n → ber_write n ≡ (0x80 + fewest 256 8 n) ∷ digits 256 (fewest 256 8 n) n
unfolding ber_write
ber_long n h = rw (le-ltb n 0x80 h)

pub length_short : (n : ℕ) → n < 0x80 → 1 ≡ length (ber_write n)
length_short n h = rw (ber_short n h)

pub length_long : (n k : ℕ) → k ≡ fewest 256 8 n → 0x80 ≤ n → k + 1 ≡ length (ber_write n)
length_long n k e h = rw (ber_long n h, length_digits, e, add-one)

pub count_fits : (n k : ℕ) → k ≡ fewest 256 8 n → Fits w64 (k + 1)
count_fits n k e = omega (arith, fewest_most 256 8 n)

pub ber_some : (n : ℕ) → 0 < length (ber_write n)
ber_some n =
    elim (dec_le 0x80 n) [
      | yes h ↦ rw (ber_long n h) (omega arith)
      | no h ↦ rw (ber_short n (omega arith)) (omega arith)
    ]

pub first_in : (n at l : ℕ) → at + length (ber_write n) ≤ l → at < l
first_in n at l h = omega (arith, ber_some n)

pub short_put : (d : List ℕ) (at n : ℕ) → n < 0x80 → at + length (ber_write n) ≤ length d → set d at n ≡ pasted d at (ber_write n)
short_put d at n h r = rw (ber_short n h) (set_is_pasted d at n (first_in n at (length d) r))

pub count_byte : (n k : ℕ) → k ≡ fewest 256 8 n → Fits w8 k
count_byte n k e = omega (arith, fewest_most 256 8 n)

pub first_fits : (n k : ℕ) → k ≡ fewest 256 8 n → Fits w8 (0x80 + k)
first_fits n k e = omega (arith, fewest_most 256 8 n)

pub rest_in : (d : List ℕ) (at n k v : ℕ) → k ≡ fewest 256 8 n → 0x80 ≤ n → at + length (ber_write n) ≤ length d → at + 1 + k ≤ length (set d at v)
rest_in d at n k v e h r = simp length-set (omega (arith, length_long n k e h))

pub kept_length : (d x : List ℕ) (at v : ℕ) → length x ≡ length (set d at v) → length x ≡ length d
kept_length d x at v e = e ∙ length-set d at v

pub long_put : (d x : List ℕ) (at n k : ℕ) → x ≡ pasted (set d at (0x80 + k)) (at + 1) (digits 256 k n) → k ≡ fewest 256 8 n → 0x80 ≤ n
    → at + length (ber_write n) ≤ length d → x ≡ pasted d at (ber_write n)
long_put d x at n k e f h r =
    let l : at < length d = first_in n at (length d) r in
    let a : set d at (0x80 + k) ≡ pasted d at ((0x80 + k) ∷ []) = set_is_pasted d at (0x80 + k) l in
    let b : x ≡ pasted (pasted d at ((0x80 + k) ∷ [])) (at + 1) (digits 256 k n) = rw a at e in
    b ∙ pasted_pasted d at ((0x80 + k) ∷ []) (digits 256 k n) (omega arith) ∙ rw (ber_long n h, f)
