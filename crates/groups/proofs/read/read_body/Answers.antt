use Rattle.std.proofs.Common.{rules}
use Rattle.groups.proofs.read.BodyFacts.{from_in, from_fit, body_read, body_length, body_no_number}
use Rattle.groups.proofs.read.read_body.Goals as goal

ruleset answers = (rules, from_in, from_fit, body_read, body_length, body_no_number)

pub overflow_add-from : goal.overflow_add-from
overflow_add-from c = search answers

pub overflow_sub-rest : goal.overflow_sub-rest
overflow_sub-rest c = search answers

pub read_coded-requires : goal.read_coded-requires
read_coded-requires c = search answers

pub returns-then-value-rest : goal.returns-then-value-rest
returns-then-value-rest c = search answers

pub returns-else-value-rest : goal.returns-else-value-rest
returns-else-value-rest c = search answers

pub returns-in-Err : goal.returns-in-Err
returns-in-Err c = search answers
