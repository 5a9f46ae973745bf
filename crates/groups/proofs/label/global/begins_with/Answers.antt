use Rattle.std.proofs.Common.{rules}
use Rattle.groups.proofs.label.LabelPuts.{root_begins}
use Rattle.groups.proofs.label.global.begins_with.Goals as goal

ruleset answers = (rules, root_begins)

pub returns : goal.returns
returns c = search answers
