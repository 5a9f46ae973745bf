use Rattle.std.proofs.Common.{rules}
use Rattle.klv.proofs.KeyTest.{begins_told}
use Rattle.klv.proofs.key.begins_ok.Goals as goal

ruleset answers = (rules, begins_told)

pub returns : goal.returns
returns c = search answers
