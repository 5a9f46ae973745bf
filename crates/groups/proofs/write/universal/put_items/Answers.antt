use Rattle.std.proofs.Common.{rules}
use Rattle.groups.proofs.slots.SlotFacts.{item_key_law, item_spanned}
use Rattle.groups.proofs.write.Totals.{joining_start, joining_again, joining_end}
use Rattle.groups.proofs.write.UniversalFacts.{keyed_room}
use Rattle.groups.proofs.write.universal.put_items.Goals as goal

ruleset answers = (rules, item_key_law, item_spanned, joining_start, joining_again, joining_end, keyed_room)

pub loop-i-init : goal.loop-i-init
loop-i-init c = search answers

pub put_item-at-requires : goal.put_item-at-requires
put_item-at-requires c = search answers

pub loop-i-preserved : goal.loop-i-preserved
loop-i-preserved c = search answers

pub returns : goal.returns
returns c = search answers
