use Rattle.std.proofs.Common.{length, ◌*◌, ◌+◌, ◌-◌}
use Rattle.deep.proofs.ListLoop.{Listing}
use Rattle.deep.proofs.listing.+list_tree.Given as goal

abbrev pub decreases-list_item : goal.decreases-list_item
decreases-list_item l = 2 * l.deeper

abbrev pub decreases-list_set : goal.decreases-list_set
decreases-list_set l = 2 * l.deeper + 1

abbrev pub invariant-list_set-loop-at : goal.invariant-list_set-loop-at
invariant-list_set-loop-at l = Listing l.tags l.kind l.s l.base l.deeper l.initial.keys l.initial.numbers l.initial.next l.keys l.numbers l.next l.at

abbrev pub decreases-list_set-loop-at : goal.decreases-list_set-loop-at
decreases-list_set-loop-at l = length l.s - l.at
