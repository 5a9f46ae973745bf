use Rattle.std.proofs.Common.{rules}
use Rattle.job.proofs.DigitFacts.{spelled_start, spelled_again, spelled_end, spelled_in, rest_small}
use Rattle.job.proofs.digits.put_decimal.Goals as goal

ruleset answers = (rules, spelled_start, spelled_again, spelled_end, spelled_in, rest_small)

pub loop-j-init : goal.loop-j-init
loop-j-init c = search answers

pub loop-j-preserved : goal.loop-j-preserved
loop-j-preserved c = search answers

pub returns : goal.returns
returns c = search answers
