use Rattle.klv.proofs.HalfLoops.{Wording}
use Rattle.klv.proofs.key.words_each.Given as goal

abbrev pub invariant-loop-i : goal.invariant-loop-i
invariant-loop-i l = Wording l.number l.rest l.inside l._i
