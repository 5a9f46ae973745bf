use Rattle.std.proofs.Common.{rules}
use Rattle.groups.proofs.slots.SlotFacts.{numbers_stored, slot_at_fits, number_second, number_third, number_last, numbers_length}
use Rattle.groups.proofs.slots.put_numbers.Goals as goal

ruleset answers = (rules, numbers_stored, slot_at_fits, number_second, number_third, number_last, numbers_length)

pub returns : goal.returns
returns c = search answers
