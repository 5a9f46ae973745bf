use Rattle.std.proofs.Common.{rules}
use Rattle.perlenhuf.proofs.HostFacts.{host_count, list_place}
use Rattle.perlenhuf.proofs.perlenhuf_listing.Goals as goal

ruleset answers = (rules, host_count, list_place)

pub refusal-requires : goal.refusal-requires
refusal-requires c = search answers
