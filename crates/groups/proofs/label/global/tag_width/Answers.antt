use Rattle.std.proofs.Common.{rules}
use Rattle.groups.proofs.label.LabelPuts.{tag_wide, tag_narrow, tag_other, tag_small}
use Rattle.groups.proofs.label.global.tag_width.Goals as goal

ruleset answers = (rules, tag_wide, tag_narrow, tag_other, tag_small)

pub closed_width-requires : goal.closed_width-requires
closed_width-requires c = search answers

pub returns-then-m-n : goal.returns-then-m-n
returns-then-m-n c = search answers

pub returns-then-begins : goal.returns-then-begins
returns-then-begins c = search answers

pub returns : goal.returns
returns c = search answers
