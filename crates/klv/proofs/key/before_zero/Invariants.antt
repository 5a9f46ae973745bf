use Rattle.klv.proofs.KeyLoops.{Labelling}
use Rattle.klv.proofs.key.before_zero.Given as goal

abbrev pub invariant-loop-i : goal.invariant-loop-i
invariant-loop-i l = Labelling l.s l.at l.most l.inside l.i
