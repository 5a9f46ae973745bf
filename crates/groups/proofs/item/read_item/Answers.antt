use Rattle.std.proofs.Common.{rules}
use Rattle.std.proofs.lemmas.Result.{err_from_is_err_and}
use Rattle.groups.proofs.item.ItemFacts.{from_in, from_fits, item_read, item_span, item_unlabelled}
use Rattle.groups.proofs.item.read_item.Goals as goal

ruleset answers = (rules, from_in, from_fits, item_read, item_span, item_unlabelled)

pub overflow_add-from : goal.overflow_add-from
overflow_add-from c = search answers

pub slice_bounds-read_span-count : goal.slice_bounds-read_span-count
slice_bounds-read_span-count c = search answers

pub slice_bounds-read_span-start : goal.slice_bounds-read_span-start
slice_bounds-read_span-start c = search answers

pub returns-in_err-span : goal.returns-in_err-span
returns-in_err-span c = search answers

pub returns : goal.returns
returns c = search answers

pub returns-in_err-label : goal.returns-in_err-label
returns-in_err-label c =
    let p = err_from_is_err_and c.from_residual.result c.from_residual.ensures.1 in
    item_unlabelled c.args.coding.group c.args.tables.now.tags.now c.args.tables.now.packs.now c.args.s.now c.args.place c.args.at c.read_label.result (search rules)
    c.from_residual.result c.in_err-label.field-0.0 p.0 (search rules) p.2 p.1
