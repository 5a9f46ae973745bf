use Rattle.std.proofs.Common.{rules}
use Rattle.klv.specs.Layout.{read_as}
use Rattle.klv.proofs.BerFacts.{number_read, number_error}
use Rattle.klv.proofs.LayoutFacts.{read_form}
use Rattle.klv.proofs.layout.Layout.read_whole.Goals as goal

ruleset answers = (rules, read_form, number_read, number_error)

pub returns-in_ok-read-in-Ber : goal.returns-in_ok-read-in-Ber
unfolding read_as
returns-in_ok-read-in-Ber c = search answers

pub returns-in_err-read-in-Ber : goal.returns-in_err-read-in-Ber
unfolding read_as
returns-in_err-read-in-Ber c = search answers

pub returns-in-Word : goal.returns-in-Word
unfolding read_as
returns-in-Word c = search answers

pub returns-in-One : goal.returns-in-One
unfolding read_as
returns-in-One c = search answers

pub returns-in-Two : goal.returns-in-Two
unfolding read_as
returns-in-Two c = search answers

pub returns-in-Four : goal.returns-in-Four
unfolding read_as
returns-in-Four c = search answers
