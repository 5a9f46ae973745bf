use Rattle.std.proofs.Common.{rules}
use Rattle.groups.proofs.slots.SlotFacts.{item_slot, slot_at_fits, offset_in, size_in}
use Rattle.groups.proofs.listing.ListingFacts.{listing_start, listing_again, listing_end, first_in, second_in, third_in, front_in, listing_length}
use Rattle.groups.proofs.listing.put_records.Goals as goal

ruleset answers = (rules, item_slot, slot_at_fits, offset_in, size_in, listing_start, listing_again, listing_end, first_in, second_in, third_in, front_in, listing_length)

pub loop-i-init : goal.loop-i-init
loop-i-init c = search answers

pub loop-i-preserved : goal.loop-i-preserved
loop-i-preserved c = search answers
