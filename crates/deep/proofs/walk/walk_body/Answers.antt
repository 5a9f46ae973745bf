use Rattle.std.proofs.Common.{rules}
use Rattle.deep.proofs.BodyFacts.{body_in, body_fits, body_walks, body_unequal, body_cut}
use Rattle.deep.proofs.walk.walk_body.Goals as goal

ruleset answers = (rules, body_in, body_fits, body_walks, body_unequal, body_cut)

pub overflow_add-from : goal.overflow_add-from
overflow_add-from c = search answers

pub overflow_sub-rest : goal.overflow_sub-rest
overflow_sub-rest c = search answers

pub slice_bounds-walk_set-count : goal.slice_bounds-walk_set-count
slice_bounds-walk_set-count c = search answers

pub slice_bounds-walk_set-start : goal.slice_bounds-walk_set-start
slice_bounds-walk_set-start c = search answers

pub returns-then-value-rest : goal.returns-then-value-rest
returns-then-value-rest c = search answers

pub returns-else-value-rest : goal.returns-else-value-rest
returns-else-value-rest c = search answers

pub returns-in_default : goal.returns-in_default
returns-in_default c = search answers
