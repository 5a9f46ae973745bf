use Rattle.std.proofs.Common.{rules}
use Rattle.feed.proofs.TripletFacts.{key_cut, length_none, width_left, value_long, size_is}
use Rattle.feed.proofs.triplet.triplet_size.Goals as goal

ruleset answers = (rules, key_cut, length_none, width_left, value_long, size_is)

pub returns-then-rest-lt16 : goal.returns-then-rest-lt16
returns-then-rest-lt16 c = search answers

pub returns-in_err-length : goal.returns-in_err-length
returns-in_err-length c = search answers

pub overflow_add-room : goal.overflow_add-room
overflow_add-room c = search answers

pub overflow_sub-room : goal.overflow_sub-room
overflow_sub-room c = search answers

pub returns-then-room-length : goal.returns-then-room-length
returns-then-room-length c = search answers

pub overflow_add-result : goal.overflow_add-result
overflow_add-result c = search answers

pub overflow_add-result-2 : goal.overflow_add-result-2
overflow_add-result-2 c = search answers

pub returns : goal.returns
returns c = search answers
