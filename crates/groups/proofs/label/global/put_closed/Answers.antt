use Rattle.std.proofs.Common.{rules}
use Rattle.groups.proofs.label.LabelPuts.{part_fits, zero_in, next_fits, put_short, put_long, same_length_zero}
use Rattle.groups.proofs.label.global.put_closed.Goals as goal

ruleset answers = (rules, part_fits, zero_in, next_fits, put_short, put_long, same_length_zero)

pub returns-then-n-lt12 : goal.returns-then-n-lt12
returns-then-n-lt12 c = search answers
