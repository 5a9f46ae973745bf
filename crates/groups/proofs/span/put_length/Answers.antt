use Rattle.std.proofs.Common.{rules}
use Rattle.groups.proofs.span.PartFacts.{lengths_known, length_room, length_put, nothing_put}
use Rattle.groups.proofs.span.put_length.Goals as goal

ruleset answers = (rules, lengths_known, length_room, length_put, nothing_put)

pub returns-then-bound : goal.returns-then-bound
returns-then-bound c = search answers

pub put_number-requires : goal.put_number-requires
put_number-requires c = search answers

pub returns : goal.returns
returns c = search answers
