use Rattle.std.proofs.Common.{rules}
use Rattle.groups.proofs.kind.KindFacts.{kind_is, kind_other, kind_none}
use Rattle.groups.proofs.kind.kind_of.Goals as goal

ruleset answers = (rules, kind_is, kind_other, kind_none)

pub returns-then-k-eq2 : goal.returns-then-k-eq2
returns-then-k-eq2 c = search answers

pub returns-then-key : goal.returns-then-key
returns-then-key c = search answers

pub returns : goal.returns
returns c = search answers
