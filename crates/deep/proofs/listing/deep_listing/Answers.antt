use Rattle.std.proofs.Common.{rules}
use Rattle.std.proofs.lemmas.Result.{err_from_is_err_and}
use Rattle.deep.proofs.ListGroup.{keys_fit, numbers_fit, walked_room, walked_listed, short_keys, short_numbers, walked_unread}
use Rattle.deep.proofs.ToldGroup.{walked_reads}
use Rattle.deep.proofs.listing.deep_listing.Goals as goal

ruleset answers = (rules, keys_fit, numbers_fit, walked_reads, walked_room, walked_listed, short_keys, short_numbers, walked_unread)

pub overflow_mul-count : goal.overflow_mul-count
overflow_mul-count c = search (answers, c.in_ok-walked.was)

pub returns-then-keys-count : goal.returns-then-keys-count
returns-then-keys-count c = search (answers, c.in_ok-walked.was)

pub returns-then-numbers-count : goal.returns-then-numbers-count
returns-then-numbers-count c = search (answers, c.in_ok-walked.was)

pub list_group-longer-requires : goal.list_group-longer-requires
list_group-longer-requires c = search (answers, c.in_ok-walked.was)

pub returns : goal.returns
returns c = search (answers, c.in_ok-walked.was)

pub returns-in_err-walked : goal.returns-in_err-walked
returns-in_err-walked c = let p = err_from_is_err_and c.from_residual.result c.from_residual.ensures.1 in rw (p.1, p.2) (search (answers, c.in_err-walked.was))
