use Rattle.std.proofs.Common.{length, ◌*◌, ◌+◌, ◌-◌}
use Rattle.deep.proofs.PutLoop.{Putting}
use Rattle.deep.proofs.write.+put_tree.Given as goal

abbrev pub decreases-put_item : goal.decreases-put_item
decreases-put_item l = 2 * l.deeper

abbrev pub decreases-put_set : goal.decreases-put_set
decreases-put_set l = 2 * l.deeper + 1

abbrev pub invariant-put_set-loop-at : goal.invariant-put_set-loop-at
invariant-put_set-loop-at l = Putting l.tags l.kind l.s l.deeper l.sizes l.first l.initial.out l.to l.out l.next l.at

abbrev pub decreases-put_set-loop-at : goal.decreases-put_set-loop-at
decreases-put_set-loop-at l = length l.s - l.at
