use Rattle.std.proofs.Common.{rules}
use Rattle.groups.proofs.slots.SlotFacts.{key_held}
use Rattle.groups.proofs.slots.held_key.Goals as goal

ruleset answers = (rules, key_held)

pub returns : goal.returns
returns c = search answers
