use Rattle.std.proofs.Common.{rules}
use Rattle.claims.proofs.Calls.{ran_one}
use Rattle.claims.proofs.call.Goals as goal

ruleset answers = (rules, ran_one)

pub returns : goal.returns
returns c = search answers
