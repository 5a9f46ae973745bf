use Rattle.groups.specs.Arrays.{keyed_size, none_after}
use Rattle.groups.proofs.write.Totals.{Summing}
use Rattle.groups.proofs.write.universal.measure.Given as goal

abbrev pub invariant-loop-i : goal.invariant-loop-i
invariant-loop-i l = Summing (keyed_size l.slots) none_after l.n l.total l.i
