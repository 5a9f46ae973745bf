use Rattle.std.proofs.Common.{rules}
use Rattle.job.proofs.JobFacts.{output_fits, output_part, job_printed, job_refused}
use Rattle.job.proofs.print.print_regrouped.Goals as goal

ruleset answers = (rules, output_fits, output_part, job_printed, job_refused)

pub slice_bounds-print_output-end : goal.slice_bounds-print_output-end
slice_bounds-print_output-end c = search answers

pub slice_bounds-print_output-end-in-Ok : goal.slice_bounds-print_output-end-in-Ok
slice_bounds-print_output-end-in-Ok c = search answers

pub returns-in-Ok : goal.returns-in-Ok
returns-in-Ok c = search answers

pub returns-in-Err : goal.returns-in-Err
returns-in-Err c = search answers
