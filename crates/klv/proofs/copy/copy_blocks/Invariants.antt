use Rattle.std.proofs.Common.{◌≡◌, ◌*◌, take}
use Rattle.klv.specs.Bytes.{pasted}
use Rattle.klv.proofs.copy.copy_blocks.Given as goal

abbrev pub invariant-loop-i : goal.invariant-loop-i
invariant-loop-i l = l.out ≡ pasted l.initial.out 0 (take (l.i * 1024) l.s)
