use Rattle.std.proofs.Common.{rules, ◌≡◌}
use Rattle.std.specs.Prelude.{Ok, Err}
use Rattle.std.proofs.lemmas.Result.{err_from_is_err_and}
use Rattle.groups.proofs.slots.SlotFacts.{item_place, item_key_law, item_slot, slot_at_fits, slot_number_fits, size_in, tag_in, held_small}
use Rattle.groups.proofs.write.Totals.{summing_start}
use Rattle.groups.proofs.tables.TableLoops.{tags_few}
use Rattle.groups.proofs.tables.index.GuessLoops.{row_in}
use Rattle.groups.proofs.write.LocalFacts.{noting_start, noting_again, noting_length, noting_slots, next_fits, tagging_unlisted, tagging_again, tagging_fits, tagging_refused, tagging_all}
use Rattle.groups.proofs.write.local.measure.Goals as goal

ruleset answers = (rules, tags_few, row_in, item_place, item_key_law, item_slot, slot_at_fits, slot_number_fits, size_in, tag_in, held_small, summing_start, noting_start, noting_again, noting_length, noting_slots, next_fits, tagging_unlisted, tagging_again, tagging_fits, tagging_refused, tagging_all)

pub item_tag-requires : goal.item_tag-requires
item_tag-requires c = search answers

pub returns-in_err-tag : goal.returns-in_err-tag
returns-in_err-tag c =
    let p = err_from_is_err_and c.from_residual.result c.from_residual.ensures.1 in
    let v : c.item_tag.result ≡ Err c.in_err-tag.field-0.0 = c.in_err-tag.was in
    rw (p.1, p.2) (search answers)

pub overflow_add-total : goal.overflow_add-total
overflow_add-total c = let v : c.item_tag.result ≡ Ok c.in_ok-tag.tag = c.in_ok-tag.was in search answers

pub map_or-next-requires : goal.map_or-next-requires
map_or-next-requires c = search answers

pub loop-i-preserved : goal.loop-i-preserved
loop-i-preserved c =
    let v : c.item_tag.result ≡ Ok c.in_ok-tag.tag = c.in_ok-tag.was in
    let w : c.item_size.result ≡ Ok c.in_ok-total.field-0 = c.in_ok-total.was in
    (search answers, search answers)

pub returns : goal.returns
returns c = search answers

pub returns-in_err-total : goal.returns-in_err-total
returns-in_err-total c =
    let p = err_from_is_err_and c.from_residual-in_err-total.result c.from_residual-in_err-total.ensures.1 in
    let v : c.item_tag.result ≡ Ok c.in_ok-tag.tag = c.in_ok-tag.was in
    let w : c.item_size.result ≡ Err c.in_err-total.field-0.0 = c.in_err-total.was in
    rw (p.1, p.2) (search answers)
