use Rattle.std.proofs.Common.{rules}
use Rattle.groups.proofs.root.RootFacts.{root_is, root_sized, root_filled, sum_fits}
use Rattle.groups.proofs.root.by_key.root_of.Goals as goal

ruleset answers = (rules, root_is, root_sized, root_filled, sum_fits)

pub returns : goal.returns
returns c = search answers

pub invariant_of-result : goal.invariant_of-result
invariant_of-result c = search answers
