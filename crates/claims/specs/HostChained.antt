-- Demand 3 for a C host: one claim about the whole list of its calls.
use Rattle.std.specs.Prelude.{ℕ, ◌≤◌, ◌≡◌, true, List, [], ◌∷◌, ◌↔◌, length, take}
use Rattle.std.proofs.Math.Option.{none, some}
use Rattle.groups.specs.Kind.{family}
use Rattle.groups.specs.Read.{Item, reads_as}
use Rattle.claims.specs.Chained.{ReadAlike}
use Rattle.claims.specs.HostMade.{HostMade, host_kept, host_last_target, HostRan}

-- every number is a refusal's, and every slice is left as it was
unfoldable pub AllHostUnaltered : List HostMade → Type 0
AllHostUnaltered [] = Unit
AllHostUnaltered (c ∷ cs) = (1000000 ≤ c.number) × (c.left ≡ c.slice) × AllHostUnaltered cs

-- the chain that started with the bytes `first` and made these calls: as `Chained`, with numbers for answers
pub record HostChained (tags packs first : List ℕ) (calls : List HostMade) : Type 0 where
  pub reads : (xs : List Item) → reads_as tags packs first ≡ some xs → reads_as tags packs (host_kept first calls) ≡ some xs
  pub unread : reads_as tags packs first ≡ none → AllHostUnaltered calls
  pub direct : (d : HostMade) → HostRan tags packs first (d ∷ []) → host_last_target none calls ≡ some d.target
      → family (take 16 first) d.target ≡ true → length (host_kept first calls) ≤ length d.slice
      → (d.number ≡ length (host_kept first calls)) × (host_kept first (d ∷ []) ≡ host_kept first calls)
  pub equal : (other : List ℕ) (others : List HostMade) (target : List ℕ) → HostRan tags packs other others
      → host_last_target none calls ≡ some target → host_last_target none others ≡ some target
      → (host_kept first calls ≡ host_kept other others) ↔ ReadAlike tags packs first other
