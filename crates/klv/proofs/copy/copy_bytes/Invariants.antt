use Rattle.klv.proofs.CopyLoop.{Copied}
use Rattle.klv.proofs.copy.copy_bytes.Given as goal

abbrev pub invariant-loop-i : goal.invariant-loop-i
invariant-loop-i l = Copied l.initial.out l.at l.s l.from l.n l.out l.i
