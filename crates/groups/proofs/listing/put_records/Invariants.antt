use Rattle.groups.proofs.listing.ListingFacts.{Recording}
use Rattle.groups.proofs.listing.put_records.Given as goal

abbrev pub invariant-loop-i : goal.invariant-loop-i
invariant-loop-i l = Recording l.initial.out l.slots l.out l.n l.i
