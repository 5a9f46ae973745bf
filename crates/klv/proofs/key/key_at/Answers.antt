use Rattle.std.proofs.Common.{rules}
use Rattle.klv.proofs.KeyLoops.{key_whole, key_cut}
use Rattle.klv.proofs.key.key_at.Goals as goal

ruleset answers = (rules, key_whole, key_cut)

pub returns-then-n-lt16 : goal.returns-then-n-lt16
returns-then-n-lt16 c = search answers

pub returns : goal.returns
returns c = search answers
