use Rattle.std.proofs.Common.{rules}
use Rattle.std.proofs.lemmas.Result.{err_from_is_err_and}
use Rattle.deep.proofs.GroupFacts.{walked_size, walked_noted, walked_most, deep_long, deep_short, deep_room, deep_done, deep_refused}
use Rattle.deep.proofs.ToldGroup.{walked_reads}
use Rattle.deep.proofs.write.deep_write.Goals as goal

ruleset answers = (rules, walked_reads, walked_size, walked_noted, walked_most, deep_long, deep_short, deep_room, deep_done, deep_refused)

pub framed-total-requires : goal.framed-total-requires
framed-total-requires c = search (answers, c.in_ok-walked.was)

pub returns-then-total-gt-MOST_BYTES : goal.returns-then-total-gt-MOST_BYTES
returns-then-total-gt-MOST_BYTES c = search (answers, c.in_ok-walked.was)

pub returns-then-output-total : goal.returns-then-output-total
returns-then-output-total c = search (answers, c.in_ok-walked.was)

pub put_group-requires : goal.put_group-requires
put_group-requires c = search (answers, c.in_ok-walked.was)

pub returns : goal.returns
returns c = search (answers, c.in_ok-walked.was)

pub returns-in_err-walked : goal.returns-in_err-walked
returns-in_err-walked c = let p = err_from_is_err_and c.from_residual.result c.from_residual.ensures.1 in rw (p.1, p.2) (search (answers, c.in_err-walked.was))
