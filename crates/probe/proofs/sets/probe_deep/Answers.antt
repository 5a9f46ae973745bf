use Rattle.std.proofs.Common.{rules}
use Rattle.probe.proofs.SetFacts.{fault_small, deep_length, deep_place, deep_refused}
use Rattle.probe.proofs.sets.probe_deep.Goals as goal

ruleset answers = (rules, fault_small, deep_length, deep_place, deep_refused)

pub refusal-requires : goal.refusal-requires
refusal-requires c = search answers
