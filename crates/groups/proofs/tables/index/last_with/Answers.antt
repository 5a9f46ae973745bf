use Rattle.std.proofs.Common.{rules}
use Rattle.groups.proofs.tables.index.IndexLoops.{going_in}
use Rattle.groups.proofs.tables.index.IndexLoops.{going_start, going_row, going_place, going_fits, going_hit, going_end, going_less, going_again, number_wide}
use Rattle.groups.proofs.tables.index.last_with.Goals as goal

ruleset answers = (rules, going_in, going_start, going_row, going_place, going_fits, going_hit, going_end, going_less, going_again, number_wide)

pub returns-then-same : goal.returns-then-same
returns-then-same c = search answers

pub loop-next-smaller : goal.loop-next-smaller
loop-next-smaller c = search answers

pub loop-next-preserved : goal.loop-next-preserved
loop-next-preserved c = search answers

pub returns : goal.returns
returns c = search answers
