use Rattle.std.proofs.Common.{rules, arith}
use Rattle.groups.proofs.regroup.RegroupReads.{few_final, many_regrouped, refusal_kept, limit_most}
use Rattle.groups.proofs.regroup.regroup_items.Goals as goal

pub returns-in-Ok : goal.returns-in-Ok
returns-in-Ok c = few_final _ _ _ c.args.from (search rules) _ _ _ _ (λ w e f. grind arith) c.in-Ok.ensures

pub returns-in-Err-2 : goal.returns-in-Err-2
returns-in-Err-2 c = few_final _ _ _ c.args.from (search rules) _ _ _ _ (λ w e f. grind arith) c.in-Err.ensures

pub regroup_by-requires-2 : goal.regroup_by-requires-2
regroup_by-requires-2 c = search (rules, limit_most)

-- what the small arrays had no room for left the slice as it was
pub returns : goal.returns
returns c = many_regrouped _ _ _ c.args.from (search rules) _ _ _ _ _ (grind (arith, refusal_kept)) c.regroup_by-2.ensures
