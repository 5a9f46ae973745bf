use Rattle.std.proofs.Common.{rules}
use Rattle.probe.proofs.SetFacts.{fault_small}
use Rattle.probe.proofs.ListFacts.{deep_counted, deep_list_place, deep_unlisted}
use Rattle.probe.proofs.lists.probe_deep_listing.Goals as goal

ruleset answers = (rules, fault_small, deep_counted, deep_list_place, deep_unlisted)

pub refusal-requires : goal.refusal-requires
refusal-requires c = search answers
