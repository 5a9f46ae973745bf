use Rattle.std.proofs.Common.{rules}
use Rattle.groups.proofs.slots.SlotFacts.{key_pasted}
use Rattle.groups.proofs.slots.put_key.Goals as goal

ruleset answers = (rules, key_pasted)

pub returns : goal.returns
returns c = search answers
