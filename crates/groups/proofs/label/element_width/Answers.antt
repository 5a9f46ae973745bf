use Rattle.std.proofs.Common.{rules}
use Rattle.groups.proofs.label.LabelPuts.{element_wide, element_other, element_past}
use Rattle.groups.proofs.label.element_width.Goals as goal

ruleset answers = (rules, element_wide, element_other, element_past)

pub returns-then-same : goal.returns-then-same
returns-then-same c = search answers

pub returns : goal.returns
returns c = search answers
