use Rattle.std.proofs.Common.{rules}
use Rattle.klv.proofs.SureLaws.{sure_fits, sure_filled, sure_above}
use Rattle.klv.proofs.key.words_sure.Goals as goal

ruleset answers = (rules, sure_fits, sure_filled, sure_above)

pub overflow_add-filled : goal.overflow_add-filled
overflow_add-filled c = search answers

pub returns-then-empty-eq0 : goal.returns-then-empty-eq0
returns-then-empty-eq0 c = search answers

pub returns : goal.returns
returns c = search answers
