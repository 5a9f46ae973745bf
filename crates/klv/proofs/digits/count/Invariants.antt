use Rattle.klv.proofs.DigitLoops.{Counted}
use Rattle.klv.proofs.digits.count.Given as goal

abbrev pub invariant-loop-k : goal.invariant-loop-k
invariant-loop-k l = Counted l.base l.most l.n l.rest l.k
