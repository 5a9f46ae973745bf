-- Lists of bytes.
use Rattle.std.specs.Prelude.{ℕ, zero, suc, ◌+◌, ◌<◌, Bool, true, false, List, [], ◌∷◌, ◌++◌, eqb, length, get_or, take, drop}
use Rattle.klv.specs.Pick.{pick, both}

-- each element is a byte
abbrev pub Bytes : List ℕ → Type 0
Bytes l = (i : ℕ) → get_or l i 0 < 256

-- all bytes are 00
unfoldable pub all_zero : List ℕ → Bool
all_zero [] = true
all_zero (b ∷ bs) = both (eqb b 0x00) (all_zero bs)

-- two lists have the same bytes
unfoldable pub same : List ℕ → List ℕ → Bool
same [] [] = true
same [] (b ∷ bs) = false
same (a ∷ r) [] = false
same (a ∷ r) (b ∷ bs) = both (eqb a b) (same r bs)

-- how many bytes two lists have in common, from the first on
unfoldable pub common : List ℕ → List ℕ → ℕ
common [] l = zero
common (a ∷ r) [] = zero
common (a ∷ r) (b ∷ bs) = pick (eqb a b) (suc (common r bs)) zero

-- d with vs written over it from at on
unfoldable pub pasted : List ℕ → ℕ → List ℕ → List ℕ
pasted d at vs = take at d ++ (vs ++ drop (at + length vs) d)
