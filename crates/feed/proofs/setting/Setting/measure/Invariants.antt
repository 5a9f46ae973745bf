use Prim.Native.Nat.{◌-◌}
use lib.ListN.{length}
use Rattle.feed.specs.Walk.{given}
use Rattle.feed.proofs.MeasureFacts.{Measuring}
use Rattle.feed.proofs.setting.Setting.measure.Given as goal

abbrev pub invariant-loop-at : goal.invariant-loop-at
invariant-loop-at l = Measuring (given l.self) l.feed l.tally l.at l.index

abbrev pub decreases-loop-at : goal.decreases-loop-at
decreases-loop-at l = length l.feed - l.at
