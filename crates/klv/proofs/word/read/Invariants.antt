use Rattle.klv.proofs.WordFacts.{Reading}
use Rattle.klv.proofs.word.read.Given as goal

abbrev pub invariant-loop-i : goal.invariant-loop-i
invariant-loop-i l = Reading l.s l.at l.value l.i
