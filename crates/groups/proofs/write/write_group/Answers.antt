use Rattle.std.proofs.Common.{rules}
use Rattle.std.proofs.lemmas.Result.{err_from_is_err_and}
use Rattle.groups.proofs.write.WriteFacts.{measured_holding, items_refused, measured_size, measured_small, held_written}
use Rattle.groups.proofs.write.write_group.Goals as goal

ruleset answers = (rules, measured_holding, items_refused, measured_size, measured_small, held_written)

pub write_measured-requires : goal.write_measured-requires
write_measured-requires c = (search rules, search (rules, measured_holding), search (rules, measured_size), search (rules, measured_small))

pub returns : goal.returns
returns c = held_written _ _ _ _ _ _ _ _ _ c.measure.ensures (search rules) _ c.in_ok-size.was _ _ _ _ c.write_measured.ensures

pub returns-in_err-size : goal.returns-in_err-size
returns-in_err-size c =
    let p = err_from_is_err_and c.from_residual.result c.from_residual.ensures.1 in
    rw (p.1, p.2) (items_refused _ _ _ _ _ _ _ _ _ c.measure.ensures (search rules) _ _ _ c.in_err-size.was)
