use Rattle.std.proofs.Common.{rules}
use Rattle.groups.proofs.regroup.RegroupReads.{tags_refused, packs_refused, regroups}
use Rattle.groups.proofs.regroup.regroup.Goals as goal

ruleset answers = (rules, tags_refused, packs_refused, regroups)

pub returns-then-not-index_tags : goal.returns-then-not-index_tags
returns-then-not-index_tags c = search answers

pub returns-then-not-pack_table_ok : goal.returns-then-not-pack_table_ok
returns-then-not-pack_table_ok c = search answers

pub returns : goal.returns
returns c = search answers
