-- Refusals by their numbers: which apply to inputs, and which are of reading.
use Rattle.std.specs.Prelude.{ℕ, ◌≡◌, Bool, true, false, List, [], ◌∷◌, eqb}
use Rattle.klv.specs.Pick.{pick}
use Rattle.groups.specs.declared.refusal.Refusal.{Refusal}
use Rattle.groups.specs.Refusal.{number_of}
use Rattle.claims.specs.Condition.{Inputs, Condition}

-- the row of this number has its condition, at some place
pub record Applies (i : Inputs) (n : ℕ) : Type 0 where
  pub row : Refusal
  pub place : ℕ
  pub numbered : number_of row ≡ n
  pub holds : Condition i row place

-- whether a number is one of these
abbrev pub one_of : List ℕ → ℕ → Bool
one_of [] n = false
one_of (m ∷ ms) n = pick (eqb n m) true (one_of ms n)

-- 1, 2, 4, 5 and 7 to 11 (01), 19 and 20 (02, point 2)
abbrev pub reading_numbers : List ℕ
reading_numbers = 1 ∷ 2 ∷ 4 ∷ 5 ∷ 7 ∷ 8 ∷ 9 ∷ 10 ∷ 11 ∷ 19 ∷ 20 ∷ []
