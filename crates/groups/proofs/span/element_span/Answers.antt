use Rattle.std.proofs.Common.{rules}
use Rattle.groups.proofs.span.ElementFacts.{element_here, element_shorter}
use Rattle.groups.proofs.span.element_span.Goals as goal

ruleset answers = (rules, element_here, element_shorter)

pub returns-in-Some : goal.returns-in-Some
returns-in-Some c = search answers
