use Rattle.std.proofs.Common.{rules}
use Rattle.groups.proofs.item.SetFacts.{keyed_room, keyed_read, keyed_malformed, keyed_cut_off}
use Rattle.groups.proofs.item.keyed_item.Goals as goal

ruleset answers = (rules, keyed_room, keyed_read, keyed_malformed, keyed_cut_off)

pub spanned_item-requires : goal.spanned_item-requires
spanned_item-requires c = search answers

pub returns-in-Some : goal.returns-in-Some
returns-in-Some c = search answers

pub returns-in-Some-2 : goal.returns-in-Some-2
returns-in-Some-2 c = search answers

pub returns-in-None : goal.returns-in-None
returns-in-None c = search answers
