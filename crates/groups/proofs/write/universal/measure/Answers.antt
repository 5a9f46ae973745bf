use Rattle.std.proofs.Common.{rules}
use Rattle.groups.proofs.slots.SlotFacts.{item_place, item_slot, slot_at_fits, slot_number_fits, size_in, held_small}
use Rattle.groups.proofs.write.Totals.{summing_start}
use Rattle.groups.proofs.write.UniversalFacts.{keyed_again, keyed_fits, keyed_all, width_fits, item_fits}
use Rattle.groups.proofs.write.universal.measure.Goals as goal

ruleset answers = (rules, item_place, item_slot, slot_at_fits, slot_number_fits, size_in, held_small, summing_start, keyed_again, keyed_fits, keyed_all, width_fits, item_fits)

pub overflow_add-total : goal.overflow_add-total
overflow_add-total c = search answers

pub overflow_add-total-in-loop-i : goal.overflow_add-total-in-loop-i
overflow_add-total-in-loop-i c = search answers

pub overflow_add-total-in-loop-i-2 : goal.overflow_add-total-in-loop-i-2
overflow_add-total-in-loop-i-2 c = search answers

pub loop-i-preserved : goal.loop-i-preserved
loop-i-preserved c = search answers

pub returns : goal.returns
returns c = search answers
