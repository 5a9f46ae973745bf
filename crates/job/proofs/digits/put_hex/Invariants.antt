use Rattle.job.proofs.DigitFacts.{Hexed}
use Rattle.job.proofs.digits.put_hex.Given as goal

abbrev pub invariant-loop-b : goal.invariant-loop-b
invariant-loop-b l = Hexed l.initial.text l.at l.s l.text l.next l.b-index
