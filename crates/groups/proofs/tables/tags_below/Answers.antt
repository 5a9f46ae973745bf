use Rattle.std.proofs.Common.{rules}
use Rattle.groups.proofs.tables.HalvingLaws.{middle_fits, middle_in, middle_next, searching_start, searching_up, searching_down, searching_end}
use Rattle.groups.proofs.tables.tags_below.Goals as goal

ruleset answers = (rules, middle_fits, middle_in, middle_next, searching_start, searching_up, searching_down, searching_end)

pub loop-low-init : goal.loop-low-init
loop-low-init c = search answers

pub loop-low-preserved-then-here-tag : goal.loop-low-preserved-then-here-tag
loop-low-preserved-then-here-tag c = search answers

pub loop-low-preserved : goal.loop-low-preserved
loop-low-preserved c = search answers

pub returns : goal.returns
returns c = search answers
