use Rattle.std.proofs.Common.{rules}
use Rattle.klv.proofs.DigitLoops.{putting_start, putting_again}
use Rattle.klv.proofs.digits.put.Goals as goal

ruleset answers = (rules, putting_start, putting_again)

pub loop-j-init : goal.loop-j-init
loop-j-init c = search answers

pub loop-j-preserved : goal.loop-j-preserved
loop-j-preserved c = search answers
