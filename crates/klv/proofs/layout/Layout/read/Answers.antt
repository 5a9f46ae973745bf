use Rattle.std.proofs.Common.{rules}
use Rattle.klv.proofs.LayoutFacts.{byte_read}
use Rattle.klv.proofs.layout.Layout.read.Goals as goal

ruleset answers = (rules, byte_read)

pub returns-then-plain : goal.returns-then-plain
returns-then-plain c = search answers
