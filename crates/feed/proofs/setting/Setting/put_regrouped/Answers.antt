use Rattle.std.proofs.Common.{rules}
use Rattle.feed.proofs.PutFacts.{other_put, next_fits, regrouped_put, refused_put}
use Rattle.feed.proofs.setting.Setting.put_regrouped.Goals as goal

ruleset answers = (rules, other_put, next_fits, regrouped_put, refused_put)

pub overflow_add-result : goal.overflow_add-result
overflow_add-result c = search answers

pub returns-in-Ok : goal.returns-in-Ok
returns-in-Ok c = search answers

pub returns-in-Err : goal.returns-in-Err
returns-in-Err c = search answers

pub returns : goal.returns
returns c = search answers
