use Rattle.std.proofs.Common.{rules}
use Rattle.std.proofs.lemmas.Result.{err_from_is_err_and}
use Rattle.groups.proofs.tables.RecordFacts.{recorded_label}
use Rattle.groups.proofs.write.SizeFacts.{ok_or_none, ok_or_some, parts_sized, parts_no_span, parts_no_label}
use Rattle.groups.proofs.write.OtherFacts.{other_widths_fit, other_size_fits}
use Rattle.groups.proofs.write.other.item_size.Goals as goal

ruleset answers = (rules, recorded_label, parts_sized, parts_no_span, parts_no_label, other_widths_fit, other_size_fits)

pub length_width-requires : goal.length_width-requires
length_width-requires c = let a = ok_or_some c.label_width.result _ c.ok_or.result c.in_ok-a.a c.ok_or.ensures.value c.in_ok-a.was in search answers

pub overflow_add-result : goal.overflow_add-result
overflow_add-result c =
    let a = ok_or_some c.label_width.result _ c.ok_or.result c.in_ok-a.a c.ok_or.ensures.value c.in_ok-a.was in
    let b = ok_or_some c.length_width.result _ c.ok_or-2.result c.in_ok-b.b c.ok_or-2.ensures.value c.in_ok-b.was in
    search answers

pub overflow_add-result-2 : goal.overflow_add-result-2
overflow_add-result-2 c =
    let a = ok_or_some c.label_width.result _ c.ok_or.result c.in_ok-a.a c.ok_or.ensures.value c.in_ok-a.was in
    let b = ok_or_some c.length_width.result _ c.ok_or-2.result c.in_ok-b.b c.ok_or-2.ensures.value c.in_ok-b.was in
    search answers

pub returns : goal.returns
returns c =
    let a = ok_or_some c.label_width.result _ c.ok_or.result c.in_ok-a.a c.ok_or.ensures.value c.in_ok-a.was in
    let b = ok_or_some c.length_width.result _ c.ok_or-2.result c.in_ok-b.b c.ok_or-2.ensures.value c.in_ok-b.was in
    search answers

pub returns-in_err-a : goal.returns-in_err-a
returns-in_err-a c =
    let p = err_from_is_err_and c.from_residual.result c.from_residual.ensures.1 in
    let n = ok_or_none c.label_width.result _ _ c.ok_or.result c.ok_or.ensures.value c.in_err-a.was in
    rw (p.1, p.2, n.1) (search answers)

pub returns-in_err-b : goal.returns-in_err-b
returns-in_err-b c =
    let p = err_from_is_err_and c.from_residual-in_err-b.result c.from_residual-in_err-b.ensures.1 in
    let a = ok_or_some c.label_width.result _ c.ok_or.result c.in_ok-a.a c.ok_or.ensures.value c.in_ok-a.was in
    let n = ok_or_none c.length_width.result _ _ c.ok_or-2.result c.ok_or-2.ensures.value c.in_err-b.was in
    rw (p.1, p.2, n.1) (search answers)
