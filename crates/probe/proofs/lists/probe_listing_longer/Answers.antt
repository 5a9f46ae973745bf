use Rattle.std.proofs.Common.{rules}
use Rattle.probe.proofs.ListFacts.{number_small, list_counted, list_place, list_refused}
use Rattle.probe.proofs.lists.probe_listing_longer.Goals as goal

ruleset answers = (rules, number_small, list_counted, list_place, list_refused)

pub refusal-requires : goal.refusal-requires
refusal-requires c = search answers
