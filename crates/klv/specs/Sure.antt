-- A test that may say no where the answer is yes; of private functions only.
use Rattle.std.specs.Prelude.{ℕ, ◌≡◌, Bool, true, false}
use Rattle.klv.specs.Key.{words}
use Rattle.klv.specs.Number.{spread}

-- where it holds, the eight bytes of a number are words
pub record Sure (number : ℕ) (r : Bool) : Type 0 where
  pub holds : r ≡ true → words false (spread 8 number) ≡ true
