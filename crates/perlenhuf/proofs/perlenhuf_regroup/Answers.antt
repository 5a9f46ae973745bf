use Rattle.std.proofs.Common.{rules}
use Rattle.perlenhuf.proofs.HostFacts.{host_length, host_place}
use Rattle.perlenhuf.proofs.perlenhuf_regroup.Goals as goal

ruleset answers = (rules, host_length, host_place)

pub refusal-requires : goal.refusal-requires
refusal-requires c = search answers
