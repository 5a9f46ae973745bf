use Rattle.std.proofs.Common.{rules}
use Rattle.job.proofs.PrintFacts.{head_fits, lines_fit, digits_fit, text_fits, double_fits, listing_short, listing_room, listing_printed}
use Rattle.job.proofs.print.print_listing.Goals as goal

ruleset answers = (rules, head_fits, lines_fit, digits_fit, text_fits, double_fits, listing_short, listing_room, listing_printed)

pub overflow_add-head : goal.overflow_add-head
overflow_add-head c = search answers

pub overflow_add-total : goal.overflow_add-total
overflow_add-total c = search answers

pub overflow_add-total-2 : goal.overflow_add-total-2
overflow_add-total-2 c = search answers

pub overflow_add-total-3 : goal.overflow_add-total-3
overflow_add-total-3 c = search answers

pub returns-then-text-total : goal.returns-then-text-total
returns-then-text-total c = search answers

pub put_listing-requires : goal.put_listing-requires
put_listing-requires c = search answers

pub returns : goal.returns
returns c = search answers
