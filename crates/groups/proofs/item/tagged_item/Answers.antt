use Rattle.std.proofs.Common.{rules}
use Rattle.groups.proofs.tables.HalvingLaws.{found_in}
use Rattle.groups.proofs.item.SetFacts.{tagged_room, tagged_read, tagged_unlisted, tagged_cut_off, tagged_malformed, row_fits}
use Rattle.groups.proofs.item.tagged_item.Goals as goal

ruleset answers = (rules, found_in, row_fits, tagged_room, tagged_read, tagged_unlisted, tagged_cut_off, tagged_malformed)

pub listed_key-requires : goal.listed_key-requires
listed_key-requires c = search answers

pub overflow_add-i : goal.overflow_add-i
overflow_add-i c = search answers

pub spanned_item-requires : goal.spanned_item-requires
spanned_item-requires c = search answers

pub returns-in-Some : goal.returns-in-Some
returns-in-Some c = search answers

pub returns-in-None : goal.returns-in-None
returns-in-None c = search answers

pub returns-in-Err-Missing : goal.returns-in-Err-Missing
returns-in-Err-Missing c = search answers

pub returns-in-Err-Malformed : goal.returns-in-Err-Malformed
returns-in-Err-Malformed c = search answers
