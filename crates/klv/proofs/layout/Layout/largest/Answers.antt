use Rattle.std.proofs.Common.{rules}
use Rattle.klv.specs.Layout.{largest_of}
use Rattle.klv.proofs.layout.Layout.largest.Goals as goal

pub returns-in-Ber : goal.returns-in-Ber
unfolding largest_of
returns-in-Ber c = search rules

pub returns-in-Word : goal.returns-in-Word
unfolding largest_of
returns-in-Word c = search rules

pub returns-in-One : goal.returns-in-One
unfolding largest_of
returns-in-One c = search rules

pub returns-in-Two : goal.returns-in-Two
unfolding largest_of
returns-in-Two c = search rules

pub returns-in-Four : goal.returns-in-Four
unfolding largest_of
returns-in-Four c = search rules
