-- Laws of numbers of k bytes, the count as parameter.
use mathlib.Core.Path.{◌≡◌, ◌∙◌, sym}
use mathlib.Core.List.{List, ◌++◌}
use Prim.Native.Nat.{ℕ, ◌^◌, ◌<◌, ◌≤◌}
use native.Mathlib.Omega.{arith}
use native.Mathlib.Nat.{zero-lt-suc, zero-add}
use lib.Dec.{ltb}
use lib.ListN.{length, take, length-append}
use lib.Seq.{take_at, length-take-le}
use borrow.Author.Tests.{le-ltb, ltb-false}
use Rattle.klv.specs.Bytes.{Bytes}
use Rattle.klv.specs.Number.{number, digits, fixed_read}
use Rattle.klv.specs.Number.{Value}
use Rattle.klv.specs.declared.layout.NumberError.TheVariants.{Missing}
use Rattle.std.specs.Prelude.{Err}
use Rattle.klv.proofs.Cases.{pick_cases, absurd_number, same_value, same_width}
use Rattle.klv.proofs.BytesLaws.{bytes_take}
use Rattle.klv.proofs.DigitLaws.{length_digits, number_of_digits, number_below}

-- k bytes, and anything after them
pub fixed_read_law : (k : ℕ) (l : List ℕ) → k ≤ length l → fixed_read k l ≡ Value (number 256 0 (take k l)) k
unfolding fixed_read
fixed_read_law k l h = rw (le-ltb (length l) k h)

-- what a number that was read tells
pub fixed_told : {P : Type 0} (k : ℕ) (l : List ℕ) (v w : ℕ) → fixed_read k l ≡ Value v w → (k ≤ length l → v ≡ number 256 0 (take k l) → w ≡ k → P) → P
unfolding fixed_read
fixed_told k l v w e f =
    pick_cases (ltb (length l) k) (Err Missing) (Value (number 256 0 (take k l)) k) (Value v w) e
    (λ t g. absurd_number (cc))
    (λ t g. f (ltb-false (length l) k t) (sym (same_value _ _ v w g)) (sym (same_width _ _ v w g)))

pub fixed_back : (k n : ℕ) (rest : List ℕ) → n < 256 ^ k → fixed_read k (digits 256 k n ++ rest) ≡ Value n k
fixed_back k n rest h =
    fixed_read_law k (digits 256 k n ++ rest) (omega (arith, length-append (digits 256 k n) rest, length_digits 256 k n))
    ∙ rw (take_at (digits 256 k n) rest k (length_digits 256 k n), number_of_digits 256 k n (zero-lt-suc 255) h)

pub part_below : (k : ℕ) (l : List ℕ) → Bytes l → k ≤ length l → number 256 0 (take k l) < 256 ^ k
part_below k l b h =
    let e : length (take k l) ≡ k = length-take-le k l h in
    rw (e, zero-add) at (number_below 256 0 0 (take k l) (λ i _. bytes_take k l b i) (omega arith))

pub fixed_below : (k : ℕ) (l : List ℕ) (v w : ℕ) → Bytes l → fixed_read k l ≡ Value v w → v < 256 ^ k
fixed_below k l v w b e = fixed_told k l v w e (λ h f g. rw f (part_below k l b h))
