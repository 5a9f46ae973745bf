use Rattle.std.proofs.Common.{rules}
use Rattle.job.proofs.ItemFacts.{measured_again, measured_fits, measured_end, record_index}
use Rattle.job.proofs.lines.lines_length.Goals as goal

ruleset answers = (rules, measured_again, measured_fits, measured_end, record_index)

pub overflow_add-total : goal.overflow_add-total
overflow_add-total c = search answers

pub loop-i-preserved : goal.loop-i-preserved
loop-i-preserved c = search answers

pub returns : goal.returns
returns c = search answers
