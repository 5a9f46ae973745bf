use Rattle.std.proofs.Common.{rules}
use Rattle.feed.proofs.TripletFacts.{source_is}
use Rattle.feed.proofs.triplet.has_source.Goals as goal

ruleset answers = (rules, source_is)

pub returns : goal.returns
returns c = search answers
