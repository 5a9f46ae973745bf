use Rattle.std.proofs.Common.{rules}
use Rattle.deep.proofs.SetFacts.{framed_is, front_fits, framed_fits}
use Rattle.deep.proofs.set.framed.Goals as goal

ruleset answers = (rules, framed_is, front_fits, framed_fits)

pub overflow_add-result : goal.overflow_add-result
overflow_add-result c = search answers

pub overflow_add-result-2 : goal.overflow_add-result-2
overflow_add-result-2 c = search answers

pub returns : goal.returns
returns c = search answers
