use Rattle.groups.proofs.tables.index.IndexLoops.{Going}
use Rattle.groups.proofs.tables.index.last_with.Given as goal

abbrev pub invariant-loop-next : goal.invariant-loop-next
invariant-loop-next l = Going l.t l.k l.at l.next

abbrev pub decreases-loop-next : goal.decreases-loop-next
decreases-loop-next l = l.next
