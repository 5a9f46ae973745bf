use Rattle.std.proofs.Common.{rules}
use Rattle.deep.proofs.GroupFacts.{group_front_room, group_small, group_noted, group_items_room, group_put}
use Rattle.deep.proofs.ToldGroup.{group_start, group_tags, group_opens, group_reads}
use Rattle.deep.proofs.write.put_group.Goals as goal

ruleset answers = (rules, group_front_room, group_start, group_tags, group_small, group_opens, group_reads, group_noted, group_items_room, group_put)

pub put_front-at-requires : goal.put_front-at-requires
put_front-at-requires c = search answers

pub slice_bounds-put_set-count : goal.slice_bounds-put_set-count
slice_bounds-put_set-count c = search answers

pub slice_bounds-put_set-start : goal.slice_bounds-put_set-start
slice_bounds-put_set-start c = search answers

pub put_set-requires : goal.put_set-requires
put_set-requires c = search answers

pub returns : goal.returns
returns c = search answers
