use Prim.Native.Nat.{◌/◌, ◌≤◌}
use lib.ListN.{length}
use Rattle.groups.specs.Index.{Entered}
use Rattle.groups.specs.Tables.{table_of}
use Rattle.groups.proofs.tables.index.index_keys.Given as goal

abbrev pub invariant-loop-i : goal.invariant-loop-i
invariant-loop-i l = (l.i ≤ length l.t / 20) × Entered (table_of l.t) l.i l.index
