use Rattle.std.proofs.Common.{rules}
use Rattle.klv.proofs.CompactFacts.{width_compact, width_large}
use Rattle.klv.proofs.compact.Compact.width.Goals as goal

ruleset answers = (rules, width_compact, width_large)

pub returns-then-n-self : goal.returns-then-n-self
returns-then-n-self c = search answers

pub returns : goal.returns
returns c = search answers
