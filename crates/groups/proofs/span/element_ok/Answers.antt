use Rattle.std.proofs.Common.{rules}
use Rattle.groups.proofs.span.ElementFacts.{element_ok_triplet, element_ok_bytes}
use Rattle.groups.proofs.span.element_ok.Goals as goal

ruleset answers = (rules, element_ok_triplet, element_ok_bytes)

pub returns-then-number-eq-MEASURED : goal.returns-then-number-eq-MEASURED
returns-then-number-eq-MEASURED c = search answers

pub returns : goal.returns
returns c = search answers
