use Rattle.std.proofs.Common.{rules}
use Rattle.klv.proofs.CompactFacts.{four_missing, four_found}
use Rattle.klv.proofs.compact.four_bytes.Goals as goal

ruleset answers = (rules, four_missing, four_found)

pub returns-then-s-lt4 : goal.returns-then-s-lt4
returns-then-s-lt4 c = search answers

pub returns : goal.returns
returns c = search answers
