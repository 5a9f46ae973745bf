use Rattle.std.proofs.Common.{rules}
use Rattle.groups.proofs.kind.KindFacts.{label_more, designator_is}
use Rattle.groups.proofs.kind.designator_length.Goals as goal

ruleset answers = (rules, label_more, designator_is)

pub overflow_sub-result : goal.overflow_sub-result
overflow_sub-result c = search answers
