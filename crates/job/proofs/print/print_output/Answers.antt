use Rattle.std.proofs.Common.{rules}
use Rattle.job.proofs.JobFacts.{count_few, keys_hold, records_hold, output_small, output_printed, output_refused}
use Rattle.job.proofs.print.print_output.Goals as goal

ruleset answers = (rules, count_few, keys_hold, records_hold, output_small, output_printed, output_refused)

pub invariant_of-items : goal.invariant_of-items
invariant_of-items c = record { few = search answers; keyed = search answers; recorded = search answers }

pub print_listing-requires : goal.print_listing-requires
print_listing-requires c = search answers

pub returns-in-Ok : goal.returns-in-Ok
returns-in-Ok c = search answers

pub returns-in-Err : goal.returns-in-Err
returns-in-Err c = search answers
