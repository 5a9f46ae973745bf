use Rattle.std.proofs.Common.{rules}
use Rattle.std.proofs.lemmas.Result.{err_from_is_err_and}
use Rattle.deep.proofs.SetFacts.{member_label_fits, member_from_fits, member_end_fits, item_kept, member_read, member_none}
use Rattle.deep.proofs.set.member_at.Goals as goal

ruleset answers = (rules, member_label_fits, member_from_fits, member_end_fits, member_read, member_none)

pub overflow_add-from : goal.overflow_add-from
overflow_add-from c = search (answers, item_kept c.set_item.result c.map_err.result c.in_ok-item.field-0 (search rules) c.in_ok-item.was)

pub overflow_add-from-2 : goal.overflow_add-from-2
overflow_add-from-2 c = search (answers, item_kept c.set_item.result c.map_err.result c.in_ok-item.field-0 (search rules) c.in_ok-item.was)

pub overflow_add-result : goal.overflow_add-result
overflow_add-result c = search (answers, item_kept c.set_item.result c.map_err.result c.in_ok-item.field-0 (search rules) c.in_ok-item.was)

pub returns : goal.returns
returns c = search (answers, item_kept c.set_item.result c.map_err.result c.in_ok-item.field-0 (search rules) c.in_ok-item.was)

pub returns-in_err-item : goal.returns-in_err-item
returns-in_err-item c = let p = err_from_is_err_and c.from_residual.result c.from_residual.ensures.1 in rw (p.1, p.2) (search (answers, c.in_err-item.was))
