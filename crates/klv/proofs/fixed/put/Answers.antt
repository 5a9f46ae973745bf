use Rattle.std.proofs.Common.{rules}
use Rattle.klv.proofs.LayoutFacts.{fixed_put}
use Rattle.klv.proofs.fixed.put.Goals as goal

ruleset answers = (rules, fixed_put)

pub returns : goal.returns
returns c = search answers
