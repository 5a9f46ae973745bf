use Rattle.std.proofs.Common.{rules}
use Rattle.job.proofs.FileFacts.{tags_in, packs_in, target_in, group_in, tags_end, packs_end, parts_print}
use Rattle.job.proofs.file.print_parts.Goals as goal

ruleset answers = (rules, tags_in, packs_in, target_in, group_in, tags_end, packs_end, parts_print)

pub slice_bounds-print_job-count : goal.slice_bounds-print_job-count
slice_bounds-print_job-count c = search answers

pub slice_bounds-print_job-start : goal.slice_bounds-print_job-start
slice_bounds-print_job-start c = search answers

pub slice_bounds-print_job-end : goal.slice_bounds-print_job-end
slice_bounds-print_job-end c = search answers

pub slice_bounds-print_job-count-2 : goal.slice_bounds-print_job-count-2
slice_bounds-print_job-count-2 c = search answers

pub slice_bounds-print_job-start-2 : goal.slice_bounds-print_job-start-2
slice_bounds-print_job-start-2 c = search answers

pub slice_bounds-print_job-end-2 : goal.slice_bounds-print_job-end-2
slice_bounds-print_job-end-2 c = search answers

pub slice_bounds-print_job-count-3 : goal.slice_bounds-print_job-count-3
slice_bounds-print_job-count-3 c = search answers

pub slice_bounds-print_job-start-3 : goal.slice_bounds-print_job-start-3
slice_bounds-print_job-start-3 c = search answers

pub slice_bounds-print_job-end-3 : goal.slice_bounds-print_job-end-3
slice_bounds-print_job-end-3 c = search answers

pub slice_bounds-print_job-count-4 : goal.slice_bounds-print_job-count-4
slice_bounds-print_job-count-4 c = search answers

pub slice_bounds-print_job-start-4 : goal.slice_bounds-print_job-start-4
slice_bounds-print_job-start-4 c = search answers

pub returns : goal.returns
returns c = search answers
