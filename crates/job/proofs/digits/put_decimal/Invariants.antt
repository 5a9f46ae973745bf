use Rattle.job.proofs.DigitFacts.{Spelled}
use Rattle.job.proofs.digits.put_decimal.Given as goal

abbrev pub invariant-loop-j : goal.invariant-loop-j
invariant-loop-j l = Spelled l.initial.text l.at l.n l.k l.text l.rest l.j
