use Rattle.groups.specs.Tables.{table_of}
use Rattle.groups.specs.Arrays.{other_size, records_after}
use Rattle.groups.proofs.write.Totals.{Summing}
use Rattle.groups.proofs.write.other.measure.Given as goal

abbrev pub invariant-loop-i : goal.invariant-loop-i
invariant-loop-i l = Summing (other_size l.group (table_of l.packs) l.keys l.slots l.s) (records_after l.group.kind (table_of l.packs)) l.n l.total l.i
