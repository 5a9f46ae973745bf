use Rattle.std.proofs.Common.{rules}
use Rattle.deep.specs.Walk.{tallied_one}
use Rattle.deep.proofs.listing.tally_one.Goals as goal

pub returns : goal.returns
unfolding tallied_one
returns c = search rules
