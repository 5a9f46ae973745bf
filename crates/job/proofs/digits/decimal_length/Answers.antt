use Rattle.std.proofs.Common.{rules}
use Rattle.job.proofs.DigitFacts.{counted_power, counted_none}
use Rattle.job.proofs.digits.decimal_length.Goals as goal

ruleset answers = (rules, counted_power, counted_none)

pub returns : goal.returns
returns c = search answers
