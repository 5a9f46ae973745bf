use Rattle.std.proofs.Common.{rules}
use Rattle.klv.specs.Layout.{written}
use Rattle.klv.proofs.LayoutFacts.{width_form}
use Rattle.klv.proofs.layout.Layout.width.Goals as goal

ruleset answers = (rules, width_form)

pub returns-in-Ber : goal.returns-in-Ber
unfolding written
returns-in-Ber c = search answers

pub returns-in-Word : goal.returns-in-Word
unfolding written
returns-in-Word c = search answers

pub returns-in-One : goal.returns-in-One
unfolding written
returns-in-One c = search answers

pub returns-in-Two : goal.returns-in-Two
unfolding written
returns-in-Two c = search answers

pub returns-in-Four : goal.returns-in-Four
unfolding written
returns-in-Four c = search answers
