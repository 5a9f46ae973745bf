use Rattle.std.proofs.Common.{rules}
use Rattle.klv.proofs.LayoutFacts.{too_large, no_room, room_left, next_fits, wrote}
use Rattle.klv.proofs.layout.Layout.write.Goals as goal

ruleset answers = (rules, too_large, no_room, room_left, next_fits, wrote)

pub returns-then-room-width : goal.returns-then-room-width
returns-then-room-width c = search answers

pub put_held-requires : goal.put_held-requires
put_held-requires c = search answers

pub returns-then-not-fits : goal.returns-then-not-fits
returns-then-not-fits c = search answers

pub returns : goal.returns
returns c = search answers
