use Rattle.std.proofs.Common.{rules}
use Rattle.groups.proofs.tables.TableLoops.{index_small}
use Rattle.groups.proofs.tables.index.IndexLoops.{entering_scaled, entering_start, link_place, head_place, head_place_set, entering_fits, entering_number, entering_again, entering_end, entering_length}
use Rattle.groups.proofs.tables.index.index_keys.Goals as goal

ruleset answers = (rules, entering_scaled, index_small, entering_start, link_place, head_place, head_place_set, entering_fits, entering_number, entering_again, entering_end, entering_length)

pub loop-i-init : goal.loop-i-init
loop-i-init c = search answers

pub offset_bounds-index-b : goal.offset_bounds-index-b
offset_bounds-index-b c = search answers

pub bounds-index-b : goal.bounds-index-b
bounds-index-b c = search answers

pub offset_bounds-index-b-in-loop-i : goal.offset_bounds-index-b-in-loop-i
offset_bounds-index-b-in-loop-i c = search answers

pub bounds-index-b-in-loop-i : goal.bounds-index-b-in-loop-i
bounds-index-b-in-loop-i c = search answers

pub loop-i-preserved : goal.loop-i-preserved
loop-i-preserved c = search answers
