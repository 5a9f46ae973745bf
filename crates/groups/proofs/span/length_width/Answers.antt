use Rattle.std.proofs.Common.{rules}
use Rattle.groups.proofs.tables.RecordFacts.{listed_bound}
use Rattle.groups.proofs.span.PartFacts.{field_wide, lengths_known, element_field, element_no_field}
use Rattle.groups.proofs.span.length_width.Goals as goal

ruleset answers = (rules, listed_bound, field_wide, lengths_known, element_field, element_no_field)

pub returns-then-element_ok : goal.returns-then-element_ok
returns-then-element_ok c = search answers

pub returns-then-bound : goal.returns-then-bound
returns-then-bound c = search answers

pub number_width-requires : goal.number_width-requires
number_width-requires c = search answers

pub returns : goal.returns
returns c = search answers
