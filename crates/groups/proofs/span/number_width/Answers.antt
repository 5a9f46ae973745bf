use Rattle.std.proofs.Common.{rules}
use Rattle.groups.proofs.span.PartFacts.{fits_width}
use Rattle.groups.proofs.span.number_width.Goals as goal

ruleset answers = (rules, fits_width)

pub returns : goal.returns
returns c = search answers
