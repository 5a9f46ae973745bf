use Rattle.std.proofs.Common.{rules}
use Rattle.groups.proofs.tables.RecordFacts.{listed_bound}
use Rattle.groups.proofs.label.LabelFacts.{span_column, span_within}
use Rattle.groups.proofs.span.read_span.Goals as goal

ruleset answers = (rules, listed_bound, span_column, span_within)

pub returns-then-bound : goal.returns-then-bound
returns-then-bound c = search answers

pub returns : goal.returns
returns c = search answers
