use Rattle.std.proofs.Common.{rules}
use Rattle.groups.proofs.read.BodyFacts.{told_true}
use Rattle.groups.proofs.regroup.RegroupReads.{target_refused, target_regroups}
use Rattle.groups.proofs.regroup.regroup_under.Goals as goal

ruleset answers = (rules, told_true, target_refused, target_regroups)

pub returns-then-known : goal.returns-then-known
returns-then-known c = search answers

pub returns : goal.returns
returns c = search answers
