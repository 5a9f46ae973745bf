use Rattle.std.proofs.Common.{rules}
use Rattle.groups.proofs.tables.FindLoops.{key_guessed}
use Rattle.groups.proofs.tables.index.find_key.Goals as goal

ruleset answers = (rules, key_guessed)

pub returns-then-hit : goal.returns-then-hit
returns-then-hit c = search answers
