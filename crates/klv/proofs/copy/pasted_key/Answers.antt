use Rattle.std.proofs.Common.{rules}
use Rattle.klv.proofs.CopyFacts.{key_put}
use Rattle.klv.proofs.copy.pasted_key.Goals as goal

ruleset answers = (rules, key_put)

pub returns : goal.returns
returns c = search answers
