use Rattle.std.proofs.Common.{rules}
use Rattle.klv.proofs.HalfLoops.{rank_is}
use Rattle.klv.proofs.key.rank.Goals as goal

ruleset answers = (rules, rank_is)

pub returns : goal.returns
returns c = search answers
