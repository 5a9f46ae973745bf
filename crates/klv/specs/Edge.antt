-- A worked example: what a definition gives, and what 01 says it is. A table of them is tried by one computation.
use Rattle.std.specs.Prelude.{ℕ, Bool, true, List, [], ◌∷◌, Result, Ok, Err}
use Rattle.klv.specs.Pick.{pick, both}
use Rattle.klv.specs.Bytes.{same}
use Rattle.klv.specs.Number.{Read}
use Rattle.klv.specs.declared.ber.BerLength.{BerLength}
use Rattle.klv.specs.declared.layout.NumberError.{NumberError}
use Rattle.klv.specs.declared.layout.NumberError.TheVariants.{Missing, Malformed}

pub record Edge : Type 0 where
  pub given : List ℕ
  pub expected : List ℕ

-- every edge of the table is as 01 says
unfoldable pub agree : List Edge → Bool
agree [] = true
agree (e ∷ es) = both (same e.given e.expected) (agree es)

-- a number as read, as a list: value and width; or 0 for missing, 1 for malformed
abbrev pub told : Read → List ℕ
told (Ok n) = n.value ∷ n.width ∷ []
told (Err Missing) = 0 ∷ []
told (Err Malformed) = 1 ∷ []

-- a BER length as read: 1 if fewer bytes would do, else 0; and the number
abbrev pub told_length : Result BerLength NumberError → List ℕ
told_length (Ok r) = pick r.longer 1 0 ∷ told (Ok r.number)
told_length (Err e) = 0 ∷ told (Err e)
