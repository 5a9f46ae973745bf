use Rattle.std.proofs.Common.{rules}
use Rattle.claims.proofs.Calls.{length_within_law, length_kept, ran_accepted, ran_refused}
use Rattle.claims.proofs.two_calls.Goals as goal

ruleset answers = (rules, length_within_law, length_kept, ran_accepted, ran_refused)

pub slice_bounds-kept-end : goal.slice_bounds-kept-end
slice_bounds-kept-end c = search answers

pub slice_bounds-kept-end-in-Ok : goal.slice_bounds-kept-end-in-Ok
slice_bounds-kept-end-in-Ok c = search answers

pub returns-in-Ok : goal.returns-in-Ok
returns-in-Ok c = search answers

pub returns-in-Err : goal.returns-in-Err
returns-in-Err c = search answers
