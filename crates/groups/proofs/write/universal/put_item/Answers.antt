use Rattle.std.proofs.Common.{rules}
use Rattle.groups.proofs.slots.SlotFacts.{slot_at_fits, slot_number_fits, key_at_fits, spanned_place, spanned_numbers, offset_in, size_in, value_inside}
use Rattle.groups.proofs.write.UniversalFacts.{ber_known, key_in, size_room, keyed_value, keyed_put}
use Rattle.groups.proofs.write.universal.put_item.Goals as goal

ruleset answers = (rules, slot_at_fits, slot_number_fits, key_at_fits, spanned_place, spanned_numbers, offset_in, size_in, value_inside, ber_known, key_in, size_room, keyed_value, keyed_put)

pub put_part-after_key-requires : goal.put_part-after_key-requires
put_part-after_key-requires c = search answers

pub put_number-after_length-requires : goal.put_number-after_length-requires
put_number-after_length-requires c = search answers

pub put_part-requires : goal.put_part-requires
put_part-requires c = search answers

pub returns : goal.returns
returns c = search answers
