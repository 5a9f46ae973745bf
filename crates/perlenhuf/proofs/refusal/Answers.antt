use Rattle.std.proofs.Common.{rules}
use Rattle.perlenhuf.proofs.HostFacts.{million_fits}
use Rattle.perlenhuf.proofs.refusal.Goals as goal

ruleset answers = (rules, million_fits)

pub overflow_mul-result : goal.overflow_mul-result
overflow_mul-result c = search answers

pub overflow_add-result : goal.overflow_add-result
overflow_add-result c = search answers

pub overflow_add-result-2 : goal.overflow_add-result-2
overflow_add-result-2 c = search answers
