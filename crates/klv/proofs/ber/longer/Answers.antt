use Rattle.std.proofs.Common.{rules}
use Rattle.klv.proofs.BerFacts.{longer_is}
use Rattle.klv.proofs.ber.longer.Goals as goal

ruleset answers = (rules, longer_is)

pub returns : goal.returns
returns c = search answers
