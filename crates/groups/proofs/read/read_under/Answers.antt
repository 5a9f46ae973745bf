use Rattle.std.proofs.Common.{rules}
use Rattle.groups.proofs.tables.RecordFacts.{recorded_limit}
use Rattle.groups.proofs.read.BodyFacts.{group_oversize, group_unknown, group_read, told_true, room_for}
use Rattle.groups.proofs.read.read_under.Goals as goal

ruleset answers = (rules, recorded_limit, group_oversize, group_unknown, group_read, told_true, room_for)

pub returns-then-s-gt-MOST_BYTES : goal.returns-then-s-gt-MOST_BYTES
returns-then-s-gt-MOST_BYTES c = search answers

pub read_body-requires : goal.read_body-requires
read_body-requires c = (search answers, search answers, search answers, recorded_limit _ _ _ 256 (search answers), search answers)

pub returns-then-known : goal.returns-then-known
returns-then-known c = search answers

pub returns : goal.returns
returns c = search answers
