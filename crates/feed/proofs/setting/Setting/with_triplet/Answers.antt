use Rattle.std.proofs.Common.{rules}
use Rattle.feed.proofs.MeasureFacts.{other_tallied, length_fits, regrouped_tallied, refused_tallied, small_long}
use Rattle.feed.proofs.setting.Setting.with_triplet.Goals as goal

ruleset answers = (rules, other_tallied, length_fits, regrouped_tallied, refused_tallied, small_long)

pub overflow_add-result : goal.overflow_add-result
overflow_add-result c = search answers

pub returns-in-Ok : goal.returns-in-Ok
returns-in-Ok c = search answers

pub returns-in-Err : goal.returns-in-Err
returns-in-Err c = search answers

pub returns : goal.returns
returns c = search answers
