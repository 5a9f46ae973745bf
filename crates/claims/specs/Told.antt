-- Answers as lists, for the tables of edges.
use Rattle.std.specs.Prelude.{ℕ, List, [], ◌∷◌}
use Rattle.groups.specs.Refusal.{Answer, ok, refused, number_of}

-- an answer, as a list: its bytes; or 256, which is no byte, with the refusal's number and place
abbrev pub answer_told : Answer (List ℕ) → List ℕ
answer_told (ok l) = l
answer_told (refused r place) = 256 ∷ number_of r ∷ place ∷ []
