use Rattle.std.proofs.Common.{rules}
use Rattle.job.proofs.ItemFacts.{number_wide, key_in, numbers_in_law, numbers_turned_in, line_wrote}
use Rattle.job.proofs.lines.put_line.Goals as goal

ruleset answers = (rules, number_wide, key_in, numbers_in_law, numbers_turned_in, line_wrote)

pub put_hex-after_key-requires : goal.put_hex-after_key-requires
put_hex-after_key-requires c = search answers

pub put_numbers-requires : goal.put_numbers-requires
put_numbers-requires c = search answers

pub returns : goal.returns
returns c = search answers
