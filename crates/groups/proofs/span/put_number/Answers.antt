use Rattle.std.proofs.Common.{rules}
use Rattle.groups.proofs.span.PartFacts.{number_put}
use Rattle.groups.proofs.span.put_number.Goals as goal

ruleset answers = (rules, number_put)

pub returns : goal.returns
returns c = search answers
