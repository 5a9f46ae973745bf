use Rattle.std.proofs.Common.{rules}
use Rattle.groups.proofs.listing.LongerFacts.{kind_longer, kind_fixed}
use Rattle.groups.proofs.listing.longer_items.Goals as goal

ruleset answers = (rules, kind_longer, kind_fixed)

pub returns-then-ber : goal.returns-then-ber
returns-then-ber c = search answers

pub returns : goal.returns
returns c = search answers
