use Rattle.std.proofs.Common.{rules}
use Rattle.klv.specs.Compact.{compact_of}
use Rattle.klv.proofs.layout.Layout.compact.Goals as goal

pub returns-in-Ber : goal.returns-in-Ber
unfolding compact_of
returns-in-Ber c = search rules

pub returns-in-One : goal.returns-in-One
unfolding compact_of
returns-in-One c = search rules
