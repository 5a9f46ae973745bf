use Rattle.std.proofs.Common.{rules}
use Rattle.std.proofs.lemmas.Result.{err_from_is_err_and}
use Rattle.groups.proofs.write.SizeFacts.{ok_or_none}
use Rattle.groups.proofs.write.LocalFacts.{local_sized, local_no_span, local_no_label, local_widths_fit, local_size_fits}
use Rattle.groups.proofs.write.local.item_size.Goals as goal

ruleset answers = (rules, local_sized, local_no_span, local_no_label, local_widths_fit, local_size_fits)

pub overflow_add-result : goal.overflow_add-result
overflow_add-result c = search answers

pub overflow_add-result-2 : goal.overflow_add-result-2
overflow_add-result-2 c = search answers

pub returns : goal.returns
returns c = search answers

pub returns-in_err-a : goal.returns-in_err-a
returns-in_err-a c =
    let p = err_from_is_err_and c.from_residual.result c.from_residual.ensures.1 in
    let n = ok_or_none c.number_width.result _ _ c.ok_or.result c.ok_or.ensures.value c.in_err-a.was in
    rw (p.1, p.2, n.1) (search answers)

pub returns-in_err-b : goal.returns-in_err-b
returns-in_err-b c =
    let p = err_from_is_err_and c.from_residual-in_err-b.result c.from_residual-in_err-b.ensures.1 in
    let n = ok_or_none c.number_width-2.result _ _ c.ok_or-2.result c.ok_or-2.ensures.value c.in_err-b.was in
    rw (p.1, p.2, n.1) (search answers)
