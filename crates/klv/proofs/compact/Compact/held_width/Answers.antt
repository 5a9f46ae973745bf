use Rattle.std.proofs.Common.{rules}
use Rattle.klv.proofs.CompactFacts.{some_compact, held_width_large}
use Rattle.klv.proofs.compact.Compact.held_width.Goals as goal

ruleset answers = (rules, some_compact, held_width_large)

pub returns-then-n-self : goal.returns-then-n-self
returns-then-n-self c = search answers

pub returns : goal.returns
returns c = search answers
