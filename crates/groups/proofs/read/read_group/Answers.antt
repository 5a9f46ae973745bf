use Rattle.std.proofs.Common.{rules}
use Rattle.groups.proofs.read.BodyFacts.{group_tags, group_packs}
use Rattle.groups.proofs.read.read_group.Goals as goal

ruleset answers = (rules, group_tags, group_packs)

pub returns-then-not-index_tags : goal.returns-then-not-index_tags
returns-then-not-index_tags c = search answers

pub returns-then-not-pack_table_ok : goal.returns-then-not-pack_table_ok
returns-then-not-pack_table_ok c = search answers
