use Rattle.std.proofs.Common.{rules}
use Rattle.groups.proofs.tables.RecordFacts.{listed_variable, listed_defined}
use Rattle.groups.specs.Label.{read_label}
use Rattle.groups.proofs.label.LabelFacts.{label_kind, label_local}
use Rattle.groups.proofs.span.PartFacts.{tags_known}
use Rattle.groups.proofs.label.read_label.Goals as goal

ruleset answers = (rules, listed_variable, listed_defined, label_kind, label_local, tags_known)

pub returns-in-Universal : goal.returns-in-Universal
unfolding read_label
returns-in-Universal c = search answers

pub returns-in-Global : goal.returns-in-Global
unfolding read_label
returns-in-Global c = search answers

pub returns-in-Local : goal.returns-in-Local
unfolding read_label
returns-in-Local c = search answers

pub returns-in-Variable : goal.returns-in-Variable
unfolding read_label
returns-in-Variable c = search answers

pub returns-in-NoGroup : goal.returns-in-NoGroup
unfolding read_label
returns-in-NoGroup c = search answers
