use Rattle.std.proofs.Common.{rules}
use Rattle.groups.proofs.slots.SlotFacts.{slot_at_fits, slot_number_fits, spanned_place, spanned_numbers, offset_in, size_in, value_inside}
use Rattle.groups.proofs.write.OtherFacts.{label_room, length_in, other_value, other_put}
use Rattle.groups.proofs.write.other.put_item.Goals as goal

ruleset answers = (rules, slot_at_fits, slot_number_fits, spanned_place, spanned_numbers, offset_in, size_in, value_inside, label_room, length_in, other_value, other_put)

pub put_label-after_label-requires : goal.put_label-after_label-requires
put_label-after_label-requires c = search answers

pub put_length-after_length-requires : goal.put_length-after_length-requires
put_length-after_length-requires c = search answers

pub put_part-requires : goal.put_part-requires
put_part-requires c = search answers

pub returns : goal.returns
returns c = search answers
