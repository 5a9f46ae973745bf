-- Laws of a number's digits, the base and their count as parameters.
use mathlib.Core.Path.{◌≡◌, refl, ap, ◌∙◌}
use mathlib.Core.List.{List, [], ◌∷◌}
use Prim.Native.Nat.{ℕ, zero, suc, ◌+◌, ◌*◌, ◌/◌, ◌%◌, ◌^◌, ◌<◌}
use native.Mathlib.Omega.{arith}
use native.Mathlib.Nat.{pow-zero, pow-suc, mod-eq_of_lt, mod-lt, one-le-pow, mul_comm, add-zero, mul-one, mod-one, zero-add, add_assoc, mul_assoc, add-mul, zero-mul}
use lib.Arith.{mod-mul, digits_lt}
use borrow.Author.Tests.{ne_eqb}
use lib.Dec.{eqb}
use lib.ListN.{length, get_or}
use Rattle.klv.specs.Pick.{pick}
use Rattle.klv.specs.Number.{number, digits, marked}

pub length_digits : (base k n : ℕ) → length (digits base k n) ≡ k
length_digits base zero n = refl
length_digits base (suc k) n = ap suc (length_digits base k n)

pub length_marked : (mark : ℕ) (ds : List ℕ) → length (marked mark ds) ≡ length ds
length_marked mark [] = refl
length_marked mark (d ∷ []) = refl
length_marked mark (d ∷ e ∷ ds) = ap suc (length_marked mark (e ∷ ds))

-- no mark: the digits themselves
pub marked_none : (ds : List ℕ) → marked 0 ds ≡ ds
marked_none [] = refl
marked_none (d ∷ []) = refl
marked_none (d ∷ e ∷ ds) = rw zero-add (ap (λ (l : List ℕ). d ∷ l) (marked_none (e ∷ ds)))

-- one digit more in front of k digits: it is marked unless it is the last
pub marked_more : (mark base k n d : ℕ) → marked mark (d ∷ digits base k n) ≡ (pick (eqb k 0) 0 mark + d) ∷ marked mark (digits base k n)
marked_more mark base zero n d = rw zero-add
marked_more mark base (suc k) n d = rw (ne_eqb (suc k) 0 (omega arith))

-- k digits of n after acc
pub number_digits : (base k acc n : ℕ) → 0 < base → number base acc (digits base k n) ≡ acc * base ^ k + n % base ^ k
number_digits base zero acc n h = rw (pow-zero, mul-one, mod-one, add-zero)
number_digits base (suc k) acc n h =
    number_digits base k (acc * base + n / base ^ k % base) n h
    ∙ rw (pow-suc, mul_comm (base ^ k) base, mod-mul n {m = base} {c = base ^ k} h (one-le-pow k base h), add-mul, mul_assoc, add_assoc)

pub number_of_digits : (base k n : ℕ) → 0 < base → n < base ^ k → number base 0 (digits base k n) ≡ n
number_of_digits base k n h l = number_digits base k 0 n h ∙ rw (zero-mul, zero-add, mod-eq_of_lt l)

-- digits below the base spell a number below its power
pub number_below : (base acc p : ℕ) (ds : List ℕ) → ((i : ℕ) → i < length ds → get_or ds i 0 < base) → acc < base ^ p → number base acc ds < base ^ (p + length ds)
number_below base acc p [] h l = rw add-zero l
number_below base acc p (d ∷ ds) h l =
    let e : p + suc (length ds) ≡ suc p + length ds = omega arith in
    rw e (number_below base (acc * base + d) (suc p) ds (λ i k. h (suc i) (omega arith)) (rw pow-suc (digits_lt l (h 0 (omega arith)))))

-- every digit is below the base
pub digits_below : (base k n i : ℕ) → 0 < base → get_or (digits base k n) i 0 < base
digits_below base zero n i h = h
digits_below base (suc k) n zero h = mod-lt (n / base ^ k) h
digits_below base (suc k) n (suc i) h = digits_below base k n i h
