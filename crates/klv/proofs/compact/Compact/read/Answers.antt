use Rattle.std.proofs.Common.{rules}
use Rattle.klv.proofs.CompactFacts.{read_compact, read_other}
use Rattle.klv.proofs.compact.Compact.read.Goals as goal

ruleset answers = (rules, read_compact, read_other)

pub returns-in-Some : goal.returns-in-Some
returns-in-Some c = search answers

pub returns-in-None : goal.returns-in-None
returns-in-None c = search answers
