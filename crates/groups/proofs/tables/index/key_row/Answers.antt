use Rattle.std.proofs.Common.{rules}
use Rattle.groups.proofs.tables.index.GuessLoops.{hit_row}
use Rattle.groups.proofs.tables.index.key_row.Goals as goal

ruleset answers = (rules, hit_row)

pub returns-then-hit : goal.returns-then-hit
returns-then-hit c = search answers
