-- The deep write, answered as the host's entries answer: one number.
use Rattle.std.specs.Prelude.{ℕ, ◌+◌, ◌*◌, ◌≡◌, List, length}
use Rattle.deep.specs.Tree.{Answer, ok, refused}
use Rattle.deep.specs.Deep.{fault_number, deep_of, deep_left}

-- a refusal: 1,000,000 + 1,000 x number + place
abbrev pub coded : ℕ → ℕ → ℕ
coded number place = 1000000 + 1000 * number + place

-- the output's length; or the refusal
abbrev pub deep_host : Answer (List ℕ) → ℕ
deep_host (ok w) = length w
deep_host (refused f p) = coded (fault_number f) p

-- the contract of the deep write's entry: d is the output slice at entry, x at exit, r the answer
pub record ProbeDeep (tags group d x : List ℕ) (r : ℕ) : Type 0 where
  pub answer : r ≡ deep_host (deep_of tags group (length d))
  pub bytes : x ≡ deep_left d (deep_of tags group (length d))
