use Rattle.std.proofs.Common.{rules}
use Rattle.probe.proofs.SetFacts.{fault_small}
use Rattle.probe.proofs.ListFacts.{deep_longer, deep_list_place, deep_not_longer}
use Rattle.probe.proofs.lists.probe_deep_listing_longer.Goals as goal

ruleset answers = (rules, fault_small, deep_longer, deep_list_place, deep_not_longer)

pub refusal-requires : goal.refusal-requires
refusal-requires c = search answers
