use Rattle.std.proofs.Common.{rules}
use Rattle.klv.proofs.CompactFacts.{put_told}
use Rattle.klv.proofs.layout.Layout.put.Goals as goal

ruleset answers = (rules, put_told)

pub returns : goal.returns
returns c = search answers
