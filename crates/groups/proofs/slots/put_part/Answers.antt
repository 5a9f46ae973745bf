use Rattle.std.proofs.Common.{rules}
use Rattle.groups.proofs.slots.SlotFacts.{part_put}
use Rattle.groups.proofs.slots.put_part.Goals as goal

ruleset answers = (rules, part_put)

pub returns : goal.returns
returns c = search answers
