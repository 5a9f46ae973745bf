use Rattle.std.proofs.Common.{rules}
use Rattle.groups.proofs.span.ElementFacts.{element_triplet, element_gone}
use Rattle.groups.proofs.span.measured_span.Goals as goal

ruleset answers = (rules, element_triplet, element_gone)

pub returns-then-number-eq-MEASURED : goal.returns-then-number-eq-MEASURED
returns-then-number-eq-MEASURED c = search answers

pub returns : goal.returns
returns c = search answers
