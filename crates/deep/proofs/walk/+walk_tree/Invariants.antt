use Rattle.std.proofs.Common.{length, ◌*◌, ◌+◌, ◌-◌}
use Rattle.deep.proofs.WalkLoop.{Walking}
use Rattle.deep.proofs.walk.+walk_tree.Given as goal

abbrev pub decreases-walk_item : goal.decreases-walk_item
decreases-walk_item l = 2 * l.deeper

abbrev pub decreases-walk_set : goal.decreases-walk_set
decreases-walk_set l = 2 * l.deeper + 1

abbrev pub invariant-walk_set-loop-at : goal.invariant-walk_set-loop-at
invariant-walk_set-loop-at l = Walking l.deeper l.tags l.kind l.s l.first l.initial.sizes l.sizes l.at l.place l.total.size l.total.count l.total.sets

abbrev pub decreases-walk_set-loop-at : goal.decreases-walk_set-loop-at
decreases-walk_set-loop-at l = length l.s - l.at
