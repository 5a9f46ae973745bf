use Rattle.std.proofs.Common.{rules}
use Rattle.klv.proofs.CompactFacts.{least_four, least_short, least_value, least_large}
use Rattle.klv.proofs.compact.Compact.read_least.Goals as goal

ruleset answers = (rules, least_four, least_short, least_value, least_large)

pub returns-then-rest-width : goal.returns-then-rest-width
returns-then-rest-width c = search answers

pub first_bytes-value-requires : goal.first_bytes-value-requires
first_bytes-value-requires c = search answers

pub returns-then-value-self : goal.returns-then-value-self
returns-then-value-self c = search answers

pub returns : goal.returns
returns c = search answers
