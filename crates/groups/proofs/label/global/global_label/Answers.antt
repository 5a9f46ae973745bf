use Rattle.std.proofs.Common.{rules}
use Rattle.groups.proofs.root.RootFacts.{tag_empty, tag_ended, tag_cut, tag_full, full_in}
use Rattle.groups.proofs.label.global.global_label.Goals as goal

ruleset answers = (rules, tag_empty, tag_ended, tag_cut, tag_full, full_in)

pub returns-then-n-eq0 : goal.returns-then-n-eq0
returns-then-n-eq0 c = search answers

pub returns-then-n-s : goal.returns-then-n-s
returns-then-n-s c = search answers

pub returns-then-n-lt12 : goal.returns-then-n-lt12
returns-then-n-lt12 c = search answers

pub join-requires-2 : goal.join-requires-2
join-requires-2 c = search answers

pub returns : goal.returns
returns c = search answers
