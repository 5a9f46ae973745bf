use Rattle.job.proofs.ItemFacts.{Lined}
use Rattle.job.proofs.lines.put_lines.Given as goal

abbrev pub invariant-loop-i : goal.invariant-loop-i
invariant-loop-i l = Lined l.initial.text l.from l.items.keys.now l.items.records.now l.items.count l.text l.at l.i
