use Rattle.std.proofs.Common.{rules}
use Rattle.klv.proofs.DigitLoops.{counted_again, counted_stop, counted_end}
use Rattle.klv.proofs.digits.count.Goals as goal

ruleset answers = (rules, counted_again, counted_stop, counted_end)

pub returns-then-rest-base : goal.returns-then-rest-base
returns-then-rest-base c = search answers

pub loop-k-preserved : goal.loop-k-preserved
loop-k-preserved c = search answers

pub returns : goal.returns
returns c = search answers
