use Rattle.std.proofs.Common.{rules}
use Rattle.groups.proofs.kind.KindFacts.{bounds_leading, bounds_designator, bounds_fit, bounds_few, bounds_end}
use Rattle.groups.proofs.kind.global_ok.Goals as goal

ruleset answers = (rules, bounds_leading, bounds_designator, bounds_fit, bounds_few, bounds_end)

pub returns-then-k-gt9 : goal.returns-then-k-gt9
returns-then-k-gt9 c = search answers

pub returns-then-g-lt2 : goal.returns-then-g-lt2
returns-then-g-lt2 c = search answers

pub overflow_add-sum : goal.overflow_add-sum
overflow_add-sum c = search answers

pub returns-then-sum-lt4 : goal.returns-then-sum-lt4
returns-then-sum-lt4 c = search answers

pub returns : goal.returns
returns c = search answers
