use Rattle.std.proofs.Common.{rules}
use Rattle.deep.proofs.WalkInside.{total_inner, total_size_law, total_more, total_count, total_sets, total_is}
use Rattle.deep.proofs.walk.plus.Goals as goal

ruleset answers = (rules, total_inner, total_size_law, total_more, total_count, total_sets, total_is)

pub overflow_add-result : goal.overflow_add-result
overflow_add-result c = search answers
