use Rattle.std.proofs.Common.{rules}
use Rattle.klv.proofs.BerFacts.{first_in, short_put, count_byte, first_fits, rest_in, kept_length, long_put}
use Rattle.klv.proofs.ber.put.Goals as goal

ruleset answers = (rules, first_in, short_put, count_byte, first_fits, rest_in, kept_length, long_put)

pub bounds-out-at : goal.bounds-out-at
bounds-out-at c = search answers

pub returns-then-n-lt128 : goal.returns-then-n-lt128
returns-then-n-lt128 c = search answers

pub overflow_cast-out-2 : goal.overflow_cast-out-2
overflow_cast-out-2 c = search answers

pub overflow_add-out : goal.overflow_add-out
overflow_add-out c = search answers

pub bounds-out-at-2 : goal.bounds-out-at-2
bounds-out-at-2 c = search answers

pub put-requires : goal.put-requires
put-requires c = search answers

pub returns : goal.returns
returns c = search answers
