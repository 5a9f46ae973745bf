use Prim.Native.Nat.{◌-◌}
use lib.ListN.{length}
use Rattle.feed.specs.Walk.{given}
use Rattle.feed.proofs.PutLoop.{Putting}
use Rattle.feed.proofs.setting.Setting.put_feed.Given as goal

abbrev pub invariant-loop-left : goal.invariant-loop-left
invariant-loop-left l = Putting (given l.self) l.feed l.initial.out l.out l.at l.from l.next l.left

abbrev pub decreases-loop-left : goal.decreases-loop-left
decreases-loop-left l = length l.feed - l.next
