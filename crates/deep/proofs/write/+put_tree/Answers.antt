use Rattle.std.proofs.Common.{rules}
use Rattle.deep.proofs.PutFacts.{plain_front_room, plain_value_room, plain_put, deep_never, inner_reads, inner_held, inner_noted, set_front_room, set_items_room, set_put}
use Rattle.deep.proofs.StepLaws.{set_opens}
use Rattle.deep.proofs.PutLoop.{putting_start, putting_refused, putting_ordered, putting_inside, putting_less, putting_sum, putting_reads, putting_noted, putting_room, putting_again, putting_size, putting_end}
use Rattle.deep.proofs.write.+put_tree.Goals as goal

ruleset item-answers = (rules, plain_front_room, plain_value_room, plain_put, deep_never, set_opens, inner_reads, inner_held, inner_noted, set_front_room)

ruleset set-answers = (rules, putting_start, putting_refused, putting_ordered, putting_inside, putting_less, putting_room, putting_again, putting_size, putting_end)

pub put_item-returns-then-deeper-eq0 : goal.put_item-returns-then-deeper-eq0
put_item-returns-then-deeper-eq0 t c = search item-answers

pub put_item-set_size-size-requires : goal.put_item-set_size-size-requires
put_item-set_size-size-requires t c = search item-answers

pub put_item-put_front-from-requires : goal.put_item-put_front-from-requires
put_item-put_front-from-requires t c = search item-answers

pub put_item-put_set-requires : goal.put_item-put_set-requires
put_item-put_set-requires t c = (
  search rules,
  (
    search rules,
    search (rules, set_opens),
    search rules,
    search (rules, inner_reads),
    search (rules, inner_noted),
    search (rules, set_items_room),
  ),
)

pub put_item-returns-then-is_set : goal.put_item-returns-then-is_set
put_item-returns-then-is_set t c = search (set_put)

pub put_item-put_front-from-requires-2 : goal.put_item-put_front-from-requires-2
put_item-put_front-from-requires-2 t c = search item-answers

pub put_item-put_bytes-end-requires : goal.put_item-put_bytes-end-requires
put_item-put_bytes-end-requires t c = search item-answers

pub put_item-returns : goal.put_item-returns
put_item-returns t c = search item-answers

pub put_set-slice_bounds-value-count : goal.put_set-slice_bounds-value-count
put_set-slice_bounds-value-count t c = search set-answers

pub put_set-slice_bounds-value-start : goal.put_set-slice_bounds-value-start
put_set-slice_bounds-value-start t c = search set-answers

pub put_set-slice_bounds-value-end : goal.put_set-slice_bounds-value-end
put_set-slice_bounds-value-end t c = search set-answers

pub put_set-put_item-next-requires : goal.put_set-put_item-next-requires
put_set-put_item-next-requires t c = (search rules, (search rules, search (rules, putting_sum), search (rules, putting_reads), search (rules, putting_noted), search (rules, putting_room)))

pub put_set-loop-at-smaller : goal.put_set-loop-at-smaller
put_set-loop-at-smaller t c = search set-answers

pub put_set-loop-at-preserved : goal.put_set-loop-at-preserved
put_set-loop-at-preserved t c = search set-answers

pub put_set-returns-in-Err : goal.put_set-returns-in-Err
put_set-returns-in-Err t c = search set-answers

pub put_set-returns : goal.put_set-returns
put_set-returns t c = search set-answers
