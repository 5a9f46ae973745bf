use Rattle.std.proofs.Common.{rules}
use Rattle.groups.specs.Coded.{compact_lengths}
use Rattle.groups.proofs.span.PartFacts.{lengths_kind}
use Rattle.groups.proofs.span.compact_lengths.Goals as goal

ruleset answers = (rules, lengths_kind)

pub returns-in-Universal : goal.returns-in-Universal
unfolding compact_lengths
returns-in-Universal c = search answers

pub returns-in-Global : goal.returns-in-Global
unfolding compact_lengths
returns-in-Global c = search answers

pub returns-in-Local : goal.returns-in-Local
unfolding compact_lengths
returns-in-Local c = search answers

pub returns-in-Variable : goal.returns-in-Variable
unfolding compact_lengths
returns-in-Variable c = search answers
