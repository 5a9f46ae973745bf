use Rattle.klv.proofs.DigitLoops.{Spelling}
use Rattle.klv.proofs.fixed.spell.Given as goal

abbrev pub invariant-loop-b : goal.invariant-loop-b
invariant-loop-b l = Spelling l.b-items l.value l.b-index
