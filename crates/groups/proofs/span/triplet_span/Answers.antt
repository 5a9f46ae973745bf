use Rattle.std.proofs.Common.{rules}
use Rattle.groups.proofs.span.ElementFacts.{triplet_no_key, triplet_of, triplet_fault, triplet_width_fits, triplet_size_fits}
use Rattle.groups.proofs.span.triplet_span.Goals as goal

ruleset answers = (rules, triplet_no_key, triplet_of, triplet_fault, triplet_width_fits, triplet_size_fits)

pub returns-then-not-is_key_at : goal.returns-then-not-is_key_at
returns-then-not-is_key_at c = search answers

pub overflow_add-result : goal.overflow_add-result
overflow_add-result c = search answers

pub overflow_add-result-2 : goal.overflow_add-result-2
overflow_add-result-2 c = search answers

pub returns-in_err-span : goal.returns-in_err-span
returns-in_err-span c = search answers

pub returns : goal.returns
returns c = search answers
