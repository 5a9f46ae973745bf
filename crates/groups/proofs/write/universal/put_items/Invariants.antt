use Rattle.groups.specs.Arrays.{keyed_item}
use Rattle.groups.proofs.write.Totals.{Joining}
use Rattle.groups.proofs.write.universal.put_items.Given as goal

abbrev pub invariant-loop-i : goal.invariant-loop-i
invariant-loop-i l = Joining (keyed_item l.keys l.slots l.s) l.n l.from l.initial.out l.out l.at l.i
