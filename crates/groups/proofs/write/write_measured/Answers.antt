use Rattle.std.proofs.Common.{rules}
use Rattle.groups.proofs.write.OutputFacts.{group_put}
use Rattle.groups.proofs.write.write_measured.Goals as goal

pub returns : goal.returns
returns c = group_put _ _ _ _ _ (search rules) c.in_ok-total.ensures (search rules) _ _ c.put_front-at.ensures _ _ c.put_items.ensures
