use Rattle.std.proofs.Common.{rules}
use Rattle.klv.proofs.BerFacts.{length_read, length_error}
use Rattle.klv.proofs.ber.read.Goals as goal

ruleset answers = (rules, length_read, length_error)

pub returns-in_err-number : goal.returns-in_err-number
returns-in_err-number c = search answers

pub returns : goal.returns
returns c = search answers
