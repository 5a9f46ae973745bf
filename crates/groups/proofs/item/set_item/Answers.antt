use Rattle.std.proofs.Common.{rules}
use Rattle.groups.specs.Label.{set_label}
use Rattle.groups.specs.Read.{set_item, set_row}
use Rattle.groups.proofs.item.SetFacts.{set_kind, set_universal}
use Rattle.groups.proofs.item.set_item.Goals as goal

ruleset answers = (rules, set_kind, set_universal)

pub returns-in-Universal : goal.returns-in-Universal
unfolding set_item set_row set_label
returns-in-Universal c = search answers

pub returns-in-Global : goal.returns-in-Global
unfolding set_item set_row set_label
returns-in-Global c = search answers
