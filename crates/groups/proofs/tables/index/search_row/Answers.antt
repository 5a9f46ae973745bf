use Rattle.std.proofs.Common.{rules}
use Rattle.groups.proofs.tables.index.IndexLoops.{number_wide, entering_scaled}
use Rattle.groups.proofs.tables.index.GuessLoops.{head_in}
use Rattle.groups.proofs.tables.index.search_row.Goals as goal

ruleset answers = (rules, number_wide, entering_scaled, head_in)

pub offset_bounds-tables-bucket : goal.offset_bounds-tables-bucket
offset_bounds-tables-bucket c = search answers

pub bounds-tables-bucket : goal.bounds-tables-bucket
bounds-tables-bucket c = search answers
