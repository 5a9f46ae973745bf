use Rattle.std.proofs.Common.{rules}
use Rattle.job.proofs.ItemFacts.{number_wide, line_length_is, line_length_fits}
use Rattle.job.proofs.lines.line_length.Goals as goal

ruleset answers = (rules, number_wide, line_length_is, line_length_fits)

pub overflow_add-result : goal.overflow_add-result
overflow_add-result c = search answers

pub returns : goal.returns
returns c = search answers
