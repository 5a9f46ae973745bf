-- Numbers as digits, numbers of a fixed count of bytes, and numbers whose first byte is the least.
use Rattle.std.specs.Prelude.{ℕ, zero, suc, ◌+◌, ◌*◌, ◌/◌, ◌%◌, ◌^◌, List, [], ◌∷◌, ltb, Result, Ok, Err, length, take}
use Rattle.klv.specs.Pick.{pick}
use Rattle.klv.specs.declared.layout.Number.{Number}
use Rattle.klv.specs.declared.layout.NumberError.{NumberError}
use Rattle.klv.specs.declared.layout.NumberError.TheVariants.{Missing}

-- the number that digits of a base spell after acc
abbrev pub number : ℕ → ℕ → List ℕ → ℕ
number base acc [] = acc
number base acc (d ∷ ds) = number base (acc * base + d) ds

-- the last k digits of n
abbrev pub digits : ℕ → ℕ → ℕ → List ℕ
digits base zero n = []
digits base (suc k) n = n / base ^ k % base ∷ digits base k n

-- the fewest digits that hold n: one at least, `most` at most
unfoldable pub fewest : ℕ → ℕ → ℕ → ℕ
fewest base zero n = zero
fewest base (suc most) n = pick (ltb n base) 1 (suc (fewest base most (n / base)))

-- digits with a mark added to each but the last
abbrev pub marked : ℕ → List ℕ → List ℕ
marked mark [] = []
marked mark (d ∷ []) = d ∷ []
marked mark (d ∷ e ∷ ds) = (mark + d) ∷ marked mark (e ∷ ds)

-- what reading answers: a number and how many bytes it occupied, or why there is none
abbrev pub Read : Type 0
Read = Result Number NumberError

abbrev pub Value : ℕ → ℕ → Read
Value v w = Ok (record { value = v; width = w })

-- a number of k bytes; bytes that end early: missing
unfoldable pub fixed_read : ℕ → List ℕ → Read
fixed_read k l = pick (ltb (length l) k) (Err Missing) (Value (number 256 0 (take k l)) k)

-- the number that bytes spell, the first of them the least
unfoldable pub little : List ℕ → ℕ
little [] = zero
little (b ∷ bs) = b + 256 * little bs

-- the last k bytes of n, the least first
unfoldable pub spread : ℕ → ℕ → List ℕ
spread zero n = []
spread (suc k) n = n % 256 ∷ spread k (n / 256)
