use Rattle.std.proofs.Common.{rules}
use Rattle.deep.proofs.PutFacts.{front_over}
use Rattle.deep.proofs.write.put_front.Goals as goal

ruleset answers = (rules, front_over)

pub returns : goal.returns
returns c = search answers
