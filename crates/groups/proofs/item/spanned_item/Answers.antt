use Rattle.std.proofs.Common.{rules}
use Rattle.groups.proofs.item.SetFacts.{spanned_read, spanned_fault}
use Rattle.groups.proofs.item.spanned_item.Goals as goal

ruleset answers = (rules, spanned_read, spanned_fault)

pub returns-in_err-span : goal.returns-in_err-span
returns-in_err-span c = search answers

pub returns : goal.returns
returns c = search answers
