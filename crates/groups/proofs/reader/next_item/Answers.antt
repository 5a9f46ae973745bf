use Rattle.std.proofs.Common.{rules, ◌≡◌, ◌≤◌, length, arith, ◌<◌, ◌^◌}
use mathlib.Core.Path.{sym, ◌∙◌}
use Rattle.std.specs.Prelude.{Ok}
use Rattle.groups.specs.Read.{under_of}
use Rattle.groups.proofs.reader.ReaderFacts.{past_small}
use Rattle.groups.proofs.reader.next_item.Goals as goal

pub past-q-requires : goal.past-q-requires
past-q-requires c =
    let within : c.new-r.result.at ≤ length c.new-r.result.src.now = rw (c.new-r.ensures.0, c.new-r.ensures.1) c.requires.1 in
    let few : length c.new-r.result.src.now < 2 ^ 64 = rw c.new-r.ensures.0 (omega arith) in
    let read : c.item.result ≡ Ok c.in_ok-item.item = search rules in
    past_small (under_of c.args.coding.group c.args.tables.now.tags.now c.args.tables.now.packs.now) c.args.place c.new-r.result.at c.new-r.result.src.now c.in_ok-item.item (sym c.item.ensures ∙ read) within few
