use Rattle.std.proofs.Common.{rules}
use Rattle.groups.proofs.root.RootFacts.{root_asked, group_global, group_other}
use Rattle.groups.proofs.root.by_key.group_of.Goals as goal

ruleset answers = (rules, root_asked, group_global, group_other)

pub root_of-root-requires : goal.root_of-root-requires
root_of-root-requires c = search answers

pub returns-then-global : goal.returns-then-global
returns-then-global c = search answers

pub returns : goal.returns
returns c = search answers
