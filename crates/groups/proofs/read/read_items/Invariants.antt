use mathlib.Core.Path.{◌≡◌}
use Rattle.groups.proofs.read.ReadLoop.{Progress}
use Rattle.groups.proofs.read.read_items.Given as goal

abbrev pub invariant-loop : goal.invariant-loop
invariant-loop l = Progress l.coding.group l.tables.tags.now l.tables.packs.now l.s l.from l.initial.keys l.initial.slots l.n l.at l.i l.keys l.slots × (l.i ≡ l.counter)
