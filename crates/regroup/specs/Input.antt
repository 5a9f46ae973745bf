-- What was read from standard input.
use Rattle.std.specs.Prelude.{ℕ, List, Result, Ok, Err}
use Rattle.std.specs.declared.io.Error.{Error}
use Rattle.io.specs.Counts.{IsPrefixLen}

-- the length counts bytes at the start of the slice x
abbrev pub Received : Result ℕ Error → List ℕ → Type 0
Received (Ok n) x = IsPrefixLen n x
Received (Err e) x = Unit
