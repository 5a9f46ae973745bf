use Rattle.std.proofs.Common.{rules}
use Rattle.klv.proofs.LayoutFacts.{fixed_missing, fixed_value}
use Rattle.klv.proofs.fixed.read.Goals as goal

ruleset answers = (rules, fixed_missing, fixed_value)

pub returns-then-n-k : goal.returns-then-n-k
returns-then-n-k c = search answers

pub returns : goal.returns
returns c = search answers
