use Rattle.std.proofs.Common.{rules}
use Rattle.klv.proofs.BerFacts.{length_short, length_long, count_fits}
use Rattle.klv.proofs.ber.width.Goals as goal

ruleset answers = (rules, length_short, length_long, count_fits)

pub returns-then-n-lt128 : goal.returns-then-n-lt128
returns-then-n-lt128 c = search answers

pub overflow_add-result : goal.overflow_add-result
overflow_add-result c = search answers

pub returns : goal.returns
returns c = search answers
