use Rattle.groups.specs.Tables.{table_of}
use Rattle.groups.specs.Arrays.{none_after, tagged_size}
use Rattle.groups.proofs.write.Totals.{Summing}
use Rattle.groups.proofs.write.LocalFacts.{Noting}
use Rattle.groups.proofs.write.local.measure.Given as goal

abbrev pub invariant-loop-i : goal.invariant-loop-i
invariant-loop-i l = Summing (tagged_size (table_of l.tables.tags.now) l.tagged.layout.form l.lengths.layout.form l.keys l.initial.slots) none_after l.n l.total l.i × Noting (table_of l.tables.tags.now) l.tagged.layout.form l.keys l.initial.slots l.slots l.i
