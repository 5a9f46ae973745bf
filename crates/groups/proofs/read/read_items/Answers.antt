use Rattle.std.proofs.Common.{rules}
use Rattle.groups.proofs.tables.RecordFacts.{recorded_less}
use Rattle.groups.proofs.read.ReadLoop.{progress_start, progress_again, progress_stop, progress_refused, progress_end, held_again, held_less, held_full, item_small, place_small, place_less, key_room_law, slot_room}
use Rattle.groups.proofs.read.read_items.Goals as goal

ruleset answers = (rules, recorded_less, progress_start, progress_again, progress_stop, progress_refused, progress_end, held_again, held_less, held_full, item_small, place_small, place_less, key_room_law, slot_room)

pub loop-init : goal.loop-init
loop-init c = search answers

pub returns-then-stop : goal.returns-then-stop
returns-then-stop c = search answers

pub put_slot-i-requires : goal.put_slot-i-requires
put_slot-i-requires c = search answers

pub loop-preserved : goal.loop-preserved
loop-preserved c = search answers

pub returns-in-Err : goal.returns-in-Err
returns-in-Err c = search answers

pub returns : goal.returns
returns c = search answers
