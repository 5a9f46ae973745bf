-- The total of the value lengths (01, "Reading and writing").
use Rattle.std.specs.Prelude.{ℕ, ◌+◌, List, [], ◌∷◌, length}
use Rattle.groups.specs.Read.{Item}

-- the sum of the values' lengths
unfoldable pub value_total : List Item → ℕ
value_total [] = 0
value_total (x ∷ xs) = length x.value + value_total xs
