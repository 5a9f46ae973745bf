use Rattle.std.proofs.Common.{rules}
use Rattle.groups.proofs.read.BodyFacts.{front_is}
use Rattle.groups.proofs.read.front_group.Goals as goal

ruleset answers = (rules, front_is)

pub returns : goal.returns
returns c = search answers
