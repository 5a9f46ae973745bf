use Rattle.std.proofs.Common.{rules}
use Rattle.klv.specs.Layout.{written}
use Rattle.klv.proofs.LayoutFacts.{put_form, ber_room, word_room, one_room, two_room, four_room}
use Rattle.klv.proofs.layout.Layout.put_held.Goals as goal

ruleset answers = (rules, put_form, ber_room, word_room, one_room, two_room, four_room)

pub put-requires : goal.put-requires
put-requires c = search answers

pub put-requires-in-Word : goal.put-requires-in-Word
put-requires-in-Word c = search answers

pub put-requires-in-One : goal.put-requires-in-One
put-requires-in-One c = search answers

pub put-requires-in-Two : goal.put-requires-in-Two
put-requires-in-Two c = search answers

pub put-requires-in-Four : goal.put-requires-in-Four
put-requires-in-Four c = search answers

pub returns-in-Ber : goal.returns-in-Ber
unfolding written
returns-in-Ber c = search answers

pub returns-in-Word : goal.returns-in-Word
unfolding written
returns-in-Word c = search answers

pub returns-in-One : goal.returns-in-One
unfolding written
returns-in-One c = search answers

pub returns-in-Two : goal.returns-in-Two
unfolding written
returns-in-Two c = search answers

pub returns-in-Four : goal.returns-in-Four
unfolding written
returns-in-Four c = search answers
