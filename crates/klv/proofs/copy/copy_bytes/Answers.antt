use Rattle.std.proofs.Common.{rules}
use Rattle.klv.proofs.CopyLoop.{copied_start, copied_again}
use Rattle.klv.proofs.copy.copy_bytes.Goals as goal

ruleset answers = (rules, copied_start, copied_again)

pub loop-i-init : goal.loop-i-init
loop-i-init c = search answers

pub loop-i-preserved : goal.loop-i-preserved
loop-i-preserved c = search answers
