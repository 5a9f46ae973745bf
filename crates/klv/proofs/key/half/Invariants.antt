use Rattle.klv.proofs.HalfLoops.{Halving}
use Rattle.klv.proofs.key.half.Given as goal

abbrev pub invariant-loop-i : goal.invariant-loop-i
invariant-loop-i l = Halving l.k l.from l.value l.weight l.i
