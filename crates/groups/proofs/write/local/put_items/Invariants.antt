use Rattle.groups.specs.Arrays.{tagged_item}
use Rattle.groups.proofs.write.Totals.{Joining}
use Rattle.groups.proofs.write.local.put_items.Given as goal

abbrev pub invariant-loop-i : goal.invariant-loop-i
invariant-loop-i l = Joining (tagged_item l.tagged.layout.form l.lengths.layout.form l.slots l.s) l.n l.from l.initial.out l.out l.at l.i
