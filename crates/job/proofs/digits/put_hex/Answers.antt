use Rattle.std.proofs.Common.{rules}
use Rattle.job.proofs.DigitFacts.{hexed_start, hexed_in, hexed_second, hexed_again, hexed_end}
use Rattle.job.proofs.digits.put_hex.Goals as goal

ruleset answers = (rules, hexed_start, hexed_in, hexed_second, hexed_again, hexed_end)

pub loop-b-init : goal.loop-b-init
loop-b-init c = search answers

pub bounds-text-next : goal.bounds-text-next
bounds-text-next c = search answers

pub bounds-text-next-in-loop-b : goal.bounds-text-next-in-loop-b
bounds-text-next-in-loop-b c = search answers

pub loop-b-preserved : goal.loop-b-preserved
loop-b-preserved c = search answers

pub returns : goal.returns
returns c = search answers
