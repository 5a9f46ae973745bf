use Rattle.std.proofs.Common.{rules}
use Rattle.deep.proofs.ListGroup.{group_body, group_room, group_keys, group_numbers, group_longer}
use Rattle.deep.proofs.ToldGroup.{group_start, group_tags, group_opens, group_reads}
use Rattle.deep.proofs.listing.list_group.Goals as goal

ruleset answers = (rules, group_tags, group_start, group_body, group_opens, group_reads, group_room, group_keys, group_numbers, group_longer)

pub slice_bounds-list_set-count : goal.slice_bounds-list_set-count
slice_bounds-list_set-count c = search answers

pub slice_bounds-list_set-start : goal.slice_bounds-list_set-start
slice_bounds-list_set-start c = search answers

pub list_set-all-requires : goal.list_set-all-requires
list_set-all-requires c = search answers

pub returns : goal.returns
returns c = search answers
