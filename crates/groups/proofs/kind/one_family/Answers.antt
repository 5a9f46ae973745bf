use Rattle.std.proofs.Common.{rules}
use Rattle.groups.proofs.kind.KindFacts.{family_first, family_second, family_bytes}
use Rattle.groups.proofs.kind.one_family.Goals as goal

ruleset answers = (rules, family_first, family_second, family_bytes)

pub returns-then-a_global : goal.returns-then-a_global
returns-then-a_global c = search answers

pub returns-then-b_global : goal.returns-then-b_global
returns-then-b_global c = search answers

pub returns : goal.returns
returns c = search answers
