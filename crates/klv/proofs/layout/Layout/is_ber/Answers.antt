use Rattle.std.proofs.Common.{rules}
use Rattle.klv.specs.Layout.{is_ber}
use Rattle.klv.proofs.layout.Layout.is_ber.Goals as goal

pub returns-in-Ber : goal.returns-in-Ber
unfolding is_ber
returns-in-Ber c = search rules

pub returns-in-Word : goal.returns-in-Word
unfolding is_ber
returns-in-Word c = search rules

pub returns-in-Four : goal.returns-in-Four
unfolding is_ber
returns-in-Four c = search rules
