use Rattle.job.proofs.ItemFacts.{Measured}
use Rattle.job.proofs.lines.lines_length.Given as goal

abbrev pub invariant-loop-i : goal.invariant-loop-i
invariant-loop-i l = Measured l.items.records.now l.items.count l.total l.i
