use Rattle.std.proofs.Common.{rules}
use Rattle.groups.specs.Coded.{compact_tags}
use Rattle.groups.proofs.span.PartFacts.{tags_kind}
use Rattle.groups.proofs.label.compact_tags.Goals as goal

ruleset answers = (rules, tags_kind)

pub returns-in-Local : goal.returns-in-Local
unfolding compact_tags
returns-in-Local c = search answers

pub returns-in-Universal : goal.returns-in-Universal
unfolding compact_tags
returns-in-Universal c = search answers
