use Rattle.klv.proofs.DigitLoops.{Putting}
use Rattle.klv.proofs.digits.put.Given as goal

abbrev pub invariant-loop-j : goal.invariant-loop-j
invariant-loop-j l = Putting l.initial.out l.at l.n l.base l.mark l.k l.out l.rest l.high l.j
