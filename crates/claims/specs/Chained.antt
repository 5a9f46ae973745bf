-- Demand 3, over what the calls leave behind: one claim about the whole list of calls.
use Rattle.std.specs.Prelude.{ℕ, ◌≤◌, ◌≡◌, true, List, [], ◌∷◌, ◌↔◌, Result, Ok, Err, length, take}
use Rattle.std.proofs.Math.Option.{none, some}
use Rattle.groups.specs.declared.refusal.Refusal.{Refusal}
use Rattle.groups.specs.declared.refusal.Refused.{Refused}
use Rattle.groups.specs.Kind.{family}
use Rattle.groups.specs.Read.{Item, reads_as}
use Rattle.claims.specs.Made.{Made, kept, last_target, Ran}

-- an answer that is a refusal
abbrev pub IsRefusal : Result ℕ (Refused Refusal) → Type 0
IsRefusal (Ok n) = ⊥
IsRefusal (Err e) = Unit

-- every answer is a refusal, and every slice is left as it was
unfoldable pub AllUnaltered : List Made → Type 0
AllUnaltered [] = Unit
AllUnaltered (c ∷ cs) = IsRefusal c.answer × (c.left ≡ c.slice) × AllUnaltered cs

-- two inputs read, and as the same item list
abbrev pub ReadAlike : List ℕ → List ℕ → List ℕ → List ℕ → Type 0
ReadAlike tags packs a b = (xs : List Item) × (reads_as tags packs a ≡ some xs) × (reads_as tags packs b ≡ some xs)

-- the chain that started with the bytes `first` and made these calls
pub record Chained (tags packs first : List ℕ) (calls : List Made) : Type 0 where
  -- if the first input reads, the bytes kept at the end read, and as the same item list
  pub reads : (xs : List Item) → reads_as tags packs first ≡ some xs → reads_as tags packs (kept first calls) ≡ some xs
  -- if it does not read, every call was refused and left its slice as it was
  pub unread : reads_as tags packs first ≡ none → AllUnaltered calls
  -- if any call was accepted, the bytes kept at the end are those that one direct call from the first input to the last
  -- accepted target leaves, where the two keys are of one family and the slice has room
  pub direct : (d : Made) → Ran tags packs first (d ∷ []) → last_target none calls ≡ some d.target
      → family (take 16 first) d.target ≡ true → length (kept first calls) ≤ length d.slice
      → (d.answer ≡ Ok (length (kept first calls))) × (kept first (d ∷ []) ≡ kept first calls)
  -- two chains whose last accepted targets are the same keep the same bytes exactly if their first inputs read as the
  -- same item list
  pub equal : (other : List ℕ) (others : List Made) (target : List ℕ) → Ran tags packs other others
      → last_target none calls ≡ some target → last_target none others ≡ some target
      → (kept first calls ≡ kept other others) ↔ ReadAlike tags packs first other
