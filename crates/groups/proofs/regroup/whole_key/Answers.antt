use Rattle.std.proofs.Common.{rules}
use Rattle.groups.proofs.regroup.RegroupReads.{whole_is, whole_not}
use Rattle.groups.proofs.regroup.whole_key.Goals as goal

ruleset answers = (rules, whole_is, whole_not)

pub returns-then-s-eq16 : goal.returns-then-s-eq16
returns-then-s-eq16 c = search answers
