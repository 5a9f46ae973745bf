use Rattle.std.proofs.Common.{rules}
use Rattle.groups.specs.Span.{ber_lengths}
use Rattle.groups.proofs.span.PartFacts.{ber_kind}
use Rattle.groups.proofs.span.ber_lengths.Goals as goal

ruleset answers = (rules, ber_kind)

pub returns-in-Universal : goal.returns-in-Universal
unfolding ber_lengths
returns-in-Universal c = search answers

pub returns-in-Global : goal.returns-in-Global
unfolding ber_lengths
returns-in-Global c = search answers

pub returns-in-Defined : goal.returns-in-Defined
unfolding ber_lengths
returns-in-Defined c = search answers

pub returns-in-NoGroup : goal.returns-in-NoGroup
unfolding ber_lengths
returns-in-NoGroup c = search answers
