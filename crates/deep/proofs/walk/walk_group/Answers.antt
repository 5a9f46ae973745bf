use Rattle.std.proofs.Common.{rules}
use Rattle.deep.proofs.BodyFacts.{group_tags, group_oversize, group_kind, group_tags_ok, group_opened, group_closed, group_body}
use Rattle.deep.proofs.walk.walk_group.Goals as goal

ruleset answers = (rules, group_tags, group_oversize, group_kind, group_tags_ok, group_opened, group_closed, group_body)

pub returns-then-group-gt-MOST_BYTES : goal.returns-then-group-gt-MOST_BYTES
returns-then-group-gt-MOST_BYTES c = search answers

pub walk_body-requires : goal.walk_body-requires
walk_body-requires c = search answers

pub returns-then-not-opens : goal.returns-then-not-opens
returns-then-not-opens c = search answers

pub returns-then-not-table_ok : goal.returns-then-not-table_ok
returns-then-not-table_ok c = search answers

pub returns : goal.returns
returns c = search answers
