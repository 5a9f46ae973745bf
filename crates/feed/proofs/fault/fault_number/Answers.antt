use Rattle.std.proofs.Common.{rules}
use Rattle.feed.specs.Feed.{fault_number}
use Rattle.feed.proofs.fault.fault_number.Goals as goal

pub returns-in-Plain : goal.returns-in-Plain
unfolding fault_number
returns-in-Plain c = search rules

pub returns-in-Triplet : goal.returns-in-Triplet
unfolding fault_number
returns-in-Triplet c = search rules
