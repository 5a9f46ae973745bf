use Prim.Native.Nat.{◌-◌}
use Rattle.groups.proofs.tables.HalvingLaws.{Searching}
use Rattle.groups.proofs.tables.tags_below.Given as goal

abbrev pub invariant-loop-low : goal.invariant-loop-low
invariant-loop-low l = Searching l.t l.tag l.low l.high

abbrev pub decreases-loop-low : goal.decreases-loop-low
decreases-loop-low l = l.high - l.low
