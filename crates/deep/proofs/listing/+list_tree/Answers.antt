use Rattle.std.proofs.Common.{rules}
use Rattle.deep.proofs.StepLaws.{set_opens}
use Rattle.deep.proofs.ListLaws.{item_room, opened_reads, opened_room}
use Rattle.deep.proofs.TallyLaws.{item_few, deep_tallied, closed_tallied, opened_tallied}
use Rattle.deep.proofs.ListLoop.{listing_start, listing_starts, listing_inside, listing_value, listing_offset, listing_less, listing_item, listing_room, listing_few, listing_again, listing_stops, listing_end, listing_longer, listing_keys_size, listing_numbers_size}
use Rattle.deep.proofs.listing.+list_tree.Goals as goal

ruleset answers = (rules, item_room, item_few, set_opens, opened_reads, opened_room, deep_tallied, closed_tallied, opened_tallied, listing_start, listing_starts, listing_inside, listing_value, listing_offset, listing_less, listing_item, listing_room, listing_few, listing_again, listing_stops, listing_end, listing_longer, listing_keys_size, listing_numbers_size)

pub list_item-returns-then-deeper-eq0 : goal.list_item-returns-then-deeper-eq0
list_item-returns-then-deeper-eq0 t c = search answers

pub list_item-list_set-requires : goal.list_item-list_set-requires
list_item-list_set-requires t c = (search answers, (search answers, search answers, search answers, search answers, search answers, search answers, search answers))

pub list_item-returns-then-is_set : goal.list_item-returns-then-is_set
list_item-returns-then-is_set t c = search answers

pub list_item-returns : goal.list_item-returns
list_item-returns t c = search answers

pub list_set-slice_bounds-list_item-count : goal.list_set-slice_bounds-list_item-count
list_set-slice_bounds-list_item-count t c = search answers

pub list_set-slice_bounds-list_item-start : goal.list_set-slice_bounds-list_item-start
list_set-slice_bounds-list_item-start t c = search answers

pub list_set-slice_bounds-list_item-end : goal.list_set-slice_bounds-list_item-end
list_set-slice_bounds-list_item-end t c = search answers

pub list_set-overflow_add-base : goal.list_set-overflow_add-base
list_set-overflow_add-base t c = search answers

pub list_set-list_item-done-requires : goal.list_set-list_item-done-requires
list_set-list_item-done-requires t c = search answers

pub list_set-overflow_sub-item : goal.list_set-overflow_sub-item
list_set-overflow_sub-item t c = search answers

pub list_set-tally_one-next-requires : goal.list_set-tally_one-next-requires
list_set-tally_one-next-requires t c = search answers

pub list_set-loop-at-smaller : goal.list_set-loop-at-smaller
list_set-loop-at-smaller t c = search answers

pub list_set-loop-at-preserved : goal.list_set-loop-at-preserved
list_set-loop-at-preserved t c = search answers

pub list_set-returns-in-Err : goal.list_set-returns-in-Err
list_set-returns-in-Err t c = search answers

pub list_set-returns : goal.list_set-returns
list_set-returns t c = search answers
