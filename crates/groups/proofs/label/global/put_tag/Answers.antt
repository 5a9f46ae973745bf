use Rattle.std.proofs.Common.{rules}
use Rattle.groups.proofs.label.LabelPuts.{tag_start, tag_from, tag_fits, tag_put, tag_put_over, tag_put_none}
use Rattle.groups.proofs.label.global.put_tag.Goals as goal

ruleset answers = (rules, tag_start, tag_from, tag_fits, tag_put, tag_put_over, tag_put_none)

pub put_closed-requires : goal.put_closed-requires
put_closed-requires c = search answers

pub returns-then-m-n : goal.returns-then-m-n
returns-then-m-n c = search answers

pub returns-then-begins : goal.returns-then-begins
returns-then-begins c = search answers

pub returns : goal.returns
returns c = search answers
