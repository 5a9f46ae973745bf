use Rattle.std.proofs.Common.{rules}
use Rattle.job.proofs.LineFacts.{numbers_length_is, one_number_fits, two_numbers_fit}
use Rattle.job.proofs.lines.numbers_length.Goals as goal

ruleset answers = (rules, numbers_length_is, one_number_fits, two_numbers_fit)

pub overflow_add-result : goal.overflow_add-result
overflow_add-result c = search answers

pub overflow_add-result-2 : goal.overflow_add-result-2
overflow_add-result-2 c = search answers

pub returns : goal.returns
returns c = search answers
