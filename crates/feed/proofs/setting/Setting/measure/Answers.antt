use Rattle.std.proofs.Common.{rules}
use Rattle.feed.proofs.MeasureFacts.{measuring_within, measuring_end, measuring_none, end_within, end_fits, index_fits, triplet_small, measuring_again}
use Rattle.feed.proofs.setting.Setting.measure.Goals as goal

ruleset answers = (rules, measuring_within, measuring_end, measuring_none, end_within, end_fits, index_fits, triplet_small, measuring_again)

pub returns-in_default : goal.returns-in_default
returns-in_default c = search answers

pub overflow_add-end : goal.overflow_add-end
overflow_add-end c = search answers

pub slice_bounds-with_triplet-end : goal.slice_bounds-with_triplet-end
slice_bounds-with_triplet-end c = search answers

pub with_triplet-tally-requires : goal.with_triplet-tally-requires
with_triplet-tally-requires c = search answers

pub loop-at-preserved : goal.loop-at-preserved
loop-at-preserved c = search answers

pub returns : goal.returns
returns c = search answers

pub loop-at-smaller : goal.loop-at-smaller
loop-at-smaller c = search answers
