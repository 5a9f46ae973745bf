-- Bytes written over others at a position, if there is room for all of them.
use Rattle.std.specs.Prelude.{ℕ, ◌+◌, ◌≡◌, Bool, List, leb, length}
use Rattle.klv.specs.Pick.{pick}
use Rattle.klv.specs.Bytes.{pasted}

-- d has room for l from a position on
abbrev pub fits : List ℕ → ℕ → List ℕ → Bool
fits d at l = leb (at + length l) (length d)

-- l is placed over d at a position: x is left, and the next position is `next`. Without room, nothing is written, and the
-- position stays
pub record Placed (d : List ℕ) (at : ℕ) (l x : List ℕ) (next : ℕ) : Type 0 where
  pub end : next ≡ pick (fits d at l) (at + length l) at
  pub bytes : x ≡ pick (fits d at l) (pasted d at l) d
