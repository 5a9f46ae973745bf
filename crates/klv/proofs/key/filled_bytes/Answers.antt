use Rattle.std.proofs.Common.{rules}
use Rattle.klv.proofs.SureLaws.{sure_fits, before_told}
use Rattle.klv.proofs.key.filled_bytes.Goals as goal

ruleset answers = (rules, sure_fits, before_told)

pub overflow_add-filled : goal.overflow_add-filled
overflow_add-filled c = search answers

pub returns : goal.returns
returns c = search answers
