use Rattle.std.proofs.Common.{rules}
use Rattle.klv.proofs.KeyLoops.{label_is, label_fits, label_told_law, label_told_fits}
use Rattle.klv.proofs.key.label_length.Goals as goal

ruleset answers = (rules, label_is, label_fits, label_told_law, label_told_fits)

pub overflow_add-result : goal.overflow_add-result
overflow_add-result c = search answers

pub returns-then-last-eq0 : goal.returns-then-last-eq0
returns-then-last-eq0 c = search answers

pub overflow_add-result-2 : goal.overflow_add-result-2
overflow_add-result-2 c = search answers

pub returns : goal.returns
returns c = search answers
