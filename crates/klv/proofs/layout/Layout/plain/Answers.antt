use Rattle.std.proofs.Common.{rules}
use Rattle.klv.specs.Layout.{plain}
use Rattle.klv.proofs.layout.Layout.plain.Goals as goal

pub returns-in-Ber : goal.returns-in-Ber
unfolding plain
returns-in-Ber c = search rules

pub returns-in-Two : goal.returns-in-Two
unfolding plain
returns-in-Two c = search rules

pub returns-in-Four : goal.returns-in-Four
unfolding plain
returns-in-Four c = search rules
