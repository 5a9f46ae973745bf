use Rattle.std.proofs.Common.{rules}
use Rattle.groups.proofs.slots.SlotFacts.{slot_at_fits, slot_number_fits, spanned_place, spanned_numbers, offset_in, size_in, tag_in, value_inside}
use Rattle.groups.proofs.write.LocalFacts.{tag_room, size_room, tagged_value, tagged_put}
use Rattle.groups.proofs.write.local.put_item.Goals as goal

ruleset answers = (rules, slot_at_fits, slot_number_fits, spanned_place, spanned_numbers, offset_in, size_in, tag_in, value_inside, tag_room, size_room, tagged_value, tagged_put)

pub put_number-after_tag-requires : goal.put_number-after_tag-requires
put_number-after_tag-requires c = search answers

pub put_number-after_length-requires : goal.put_number-after_length-requires
put_number-after_length-requires c = search answers

pub put_part-requires : goal.put_part-requires
put_part-requires c = search answers

pub returns : goal.returns
returns c = search answers
