use Rattle.std.proofs.Common.{rules}
use Rattle.job.proofs.PrintFacts.{refusal_fits, refusal_room, refusal_short, refusal_printed}
use Rattle.job.proofs.print.print_refusal.Goals as goal

ruleset answers = (rules, refusal_fits, refusal_room, refusal_short, refusal_printed)

pub overflow_add-whole : goal.overflow_add-whole
overflow_add-whole c = search answers

pub returns-then-text-whole : goal.returns-then-text-whole
returns-then-text-whole c = search answers

pub put_head-requires : goal.put_head-requires
put_head-requires c = search answers

pub returns : goal.returns
returns c = search answers
