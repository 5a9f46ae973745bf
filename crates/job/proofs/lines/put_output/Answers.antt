use Rattle.std.proofs.Common.{rules}
use Rattle.job.proofs.LineFacts.{digits_in, end_in, end_fits, output_wrote}
use Rattle.job.proofs.lines.put_output.Goals as goal

ruleset answers = (rules, digits_in, end_in, end_fits, output_wrote)

pub put_hex-end-requires : goal.put_hex-end-requires
put_hex-end-requires c = search answers

pub bounds-text-end : goal.bounds-text-end
bounds-text-end c = search answers

pub overflow_add-result : goal.overflow_add-result
overflow_add-result c = search answers

pub returns : goal.returns
returns c = search answers
