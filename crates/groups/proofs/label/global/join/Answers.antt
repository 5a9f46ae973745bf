use Rattle.std.proofs.Common.{rules}
use Rattle.groups.proofs.root.RootFacts.{join_long, join_key, join_no_key}
use Rattle.groups.proofs.label.global.join.Goals as goal

ruleset answers = (rules, join_long, join_key, join_no_key)

pub returns-then-m-n : goal.returns-then-m-n
returns-then-m-n c = search answers

pub returns-then-key : goal.returns-then-key
returns-then-key c = search answers

pub returns : goal.returns
returns c = search answers
