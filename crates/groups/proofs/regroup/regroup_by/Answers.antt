use Rattle.std.proofs.Common.{rules}
use Rattle.groups.proofs.tables.RecordFacts.{recorded_limit}
use Rattle.groups.proofs.regroup.RegroupReads.{arrays_hold, items_written, rooms_for, limit_most}
use Rattle.groups.proofs.regroup.regroup_by.Goals as goal

ruleset answers = (rules, recorded_limit, rooms_for, limit_most)

pub read_body-requires : goal.read_body-requires
read_body-requires g c = search answers

pub write_group-requires : goal.write_group-requires
write_group-requires g c = (search rules, search (rules, arrays_hold _ _ _ c.in_ok-count.ensures))

pub returns : goal.returns
returns g c = search (rules, items_written _ _ _ c.in_ok-count.ensures)
