use Rattle.std.proofs.Common.{rules}
use Rattle.std.proofs.lemmas.Result.{err_from_is_err_and}
use Rattle.deep.proofs.StepLaws.{set_opens}
use Rattle.deep.proofs.WalkLoop.{walking_start, walking_within, walking_long, walking_end, walking_full, walking_refused, item_ordered, item_inside, item_less, item_room, item_set_fits, walking_fails, totals_small, walking_again}
use Rattle.deep.proofs.WalkInside.{item_closed, item_deep, item_nested, item_fails, nested_size, nested_sets, nested_room, nested_fits}
use Rattle.deep.proofs.walk.+walk_tree.Goals as goal

ruleset answers = (rules, walking_start, walking_within, walking_long, walking_end, walking_full, walking_refused, item_ordered, item_inside, item_less, item_room, item_set_fits, walking_fails, totals_small, walking_again, set_opens, item_closed, item_deep, item_nested, item_fails, nested_size, nested_sets, nested_room, nested_fits)

pub walk_item-returns-then-deeper-eq0 : goal.walk_item-returns-then-deeper-eq0
walk_item-returns-then-deeper-eq0 t c = search answers

pub walk_item-note-requires : goal.walk_item-note-requires
walk_item-note-requires t c = search answers

pub walk_item-overflow_add-result : goal.walk_item-overflow_add-result
walk_item-overflow_add-result t c = search answers

pub walk_item-returns-in-Ok : goal.walk_item-returns-in-Ok
walk_item-returns-in-Ok t c = search answers

pub walk_item-returns-in-Err : goal.walk_item-returns-in-Err
walk_item-returns-in-Err t c = search answers

pub walk_item-returns : goal.walk_item-returns
walk_item-returns t c = search answers

pub walk_set-returns-then-place-eq-MOST_ITEMS : goal.walk_set-returns-then-place-eq-MOST_ITEMS
walk_set-returns-then-place-eq-MOST_ITEMS t c = search answers

pub walk_set-slice_bounds-value-count : goal.walk_set-slice_bounds-value-count
walk_set-slice_bounds-value-count t c = search answers

pub walk_set-slice_bounds-value-start : goal.walk_set-slice_bounds-value-start
walk_set-slice_bounds-value-start t c = search answers

pub walk_set-slice_bounds-value-end : goal.walk_set-slice_bounds-value-end
walk_set-slice_bounds-value-end t c = search answers

pub walk_set-walk_item-requires : goal.walk_set-walk_item-requires
walk_set-walk_item-requires t c = search answers

pub walk_set-plus-total-requires : goal.walk_set-plus-total-requires
walk_set-plus-total-requires t c = search (answers, c.in_ok-inside-in-Ok.was)

pub walk_set-loop-at-smaller : goal.walk_set-loop-at-smaller
walk_set-loop-at-smaller t c = search answers

pub walk_set-loop-at-preserved : goal.walk_set-loop-at-preserved
walk_set-loop-at-preserved t c = search (answers, c.in_ok-inside-in-Ok.was)

pub walk_set-returns-in_err-inside-in-Ok : goal.walk_set-returns-in_err-inside-in-Ok
walk_set-returns-in_err-inside-in-Ok t c = let p = err_from_is_err_and c.from_residual.result c.from_residual.ensures.1 in rw (p.1, p.2) (search (answers, c.in_err-inside-in-Ok.was))

pub walk_set-returns-in-Err : goal.walk_set-returns-in-Err
walk_set-returns-in-Err t c = search answers

pub walk_set-returns : goal.walk_set-returns
walk_set-returns t c = search answers
