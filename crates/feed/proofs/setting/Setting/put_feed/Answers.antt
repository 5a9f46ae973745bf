use Rattle.std.proofs.Common.{rules}
use Rattle.feed.proofs.PutLoop.{putting_end, size_there, stop_within, stop_fits, stop_less, key_there, image_room, putting_kept, putting_again}
use Rattle.feed.proofs.setting.Setting.put_feed.Goals as goal

ruleset answers = (rules, putting_end, size_there, stop_within, stop_fits, stop_less, key_there, image_room, putting_kept, putting_again)

pub unwrap-requires : goal.unwrap-requires
unwrap-requires c = search answers

pub overflow_add-end : goal.overflow_add-end
overflow_add-end c = search answers

pub slice_bounds-put_regrouped-end : goal.slice_bounds-put_regrouped-end
slice_bounds-put_regrouped-end c = search answers

pub put_regrouped-after-requires : goal.put_regrouped-after-requires
put_regrouped-after-requires c = search answers

pub loop-left-smaller-then-place-after : goal.loop-left-smaller-then-place-after
loop-left-smaller-then-place-after c = search answers

pub loop-left-preserved-then-place-after : goal.loop-left-preserved-then-place-after
loop-left-preserved-then-place-after c = search answers

pub loop-left-smaller : goal.loop-left-smaller
loop-left-smaller c = search answers

pub loop-left-preserved : goal.loop-left-preserved
loop-left-preserved c = search answers

pub returns : goal.returns
returns c = search answers
