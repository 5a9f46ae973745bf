use Rattle.groups.specs.Arrays.{item_bytes}
use Rattle.groups.proofs.write.Totals.{Joining}
use Rattle.groups.proofs.write.other.put_items.Given as goal

abbrev pub invariant-loop-i : goal.invariant-loop-i
invariant-loop-i l = Joining (item_bytes l.group l.keys l.slots l.s) l.n l.from l.initial.out l.out l.at l.i
