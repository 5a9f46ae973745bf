use Rattle.std.proofs.Common.{rules}
use Rattle.groups.proofs.label.LabelPuts.{global_room, global_put, element_put}
use Rattle.groups.proofs.label.put_label.Goals as goal

ruleset answers = (rules, global_room, global_put, element_put)

pub put_tag-requires : goal.put_tag-requires
put_tag-requires c = search answers

pub returns-then-global : goal.returns-then-global
returns-then-global c = search answers

pub returns : goal.returns
returns c = search answers
