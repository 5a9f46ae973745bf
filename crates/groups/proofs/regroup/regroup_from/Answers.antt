use Rattle.std.proofs.Common.{rules}
use Rattle.groups.proofs.read.BodyFacts.{told_true, front_is}
use Rattle.groups.proofs.regroup.RegroupReads.{oversize_refused, key_refused, family_refused, source_regroups}
use Rattle.groups.proofs.regroup.regroup_from.Goals as goal

ruleset answers = (rules, told_true, front_is, oversize_refused, key_refused, family_refused, source_regroups)

pub regroup_items-requires : goal.regroup_items-requires
regroup_items-requires c = search answers

pub returns-then-akin : goal.returns-then-akin
returns-then-akin c = search answers

pub returns-then-known : goal.returns-then-known
returns-then-known c = search answers

pub returns : goal.returns
returns c = search answers
