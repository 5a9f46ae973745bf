use Rattle.std.proofs.Common.{rules}
use Rattle.job.proofs.LineFacts.{first_in, second_in, newline_in, newline_fits, numbers_wrote, numbers_kept}
use Rattle.job.proofs.lines.put_numbers.Goals as goal

ruleset answers = (rules, first_in, second_in, newline_in, newline_fits, numbers_wrote, numbers_kept)

pub put_field-after_first-requires : goal.put_field-after_first-requires
put_field-after_first-requires c = search answers

pub put_field-after_second-requires : goal.put_field-after_second-requires
put_field-after_second-requires c = search answers

pub bounds-text-after_second : goal.bounds-text-after_second
bounds-text-after_second c = search answers

pub overflow_add-result : goal.overflow_add-result
overflow_add-result c = search answers

pub returns : goal.returns
returns c = search answers
