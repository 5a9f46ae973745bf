use Rattle.std.proofs.Common.{rules}
use Rattle.klv.proofs.HalfLoops.{last_differs, first_decides}
use Rattle.klv.proofs.key.same_key.Goals as goal

ruleset answers = (rules, last_differs, first_decides)

pub returns-then-last_half : goal.returns-then-last_half
returns-then-last_half c = search answers

pub returns : goal.returns
returns c = search answers
