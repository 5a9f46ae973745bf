use Rattle.std.proofs.Common.{rules}
use Rattle.probe.proofs.NumberFacts.{word_form, one_form, two_form}
use Rattle.probe.specs.Answers.{form_of}
use Rattle.probe.proofs.numbers.layout_of.Goals as goal

ruleset answers = (rules, word_form, one_form, two_form)

pub returns-in-0 : goal.returns-in-0
unfolding form_of
returns-in-0 c = search answers

pub returns-in-1 : goal.returns-in-1
unfolding form_of
returns-in-1 c = search answers

pub returns-in-2 : goal.returns-in-2
unfolding form_of
returns-in-2 c = search answers

pub returns-in-3 : goal.returns-in-3
unfolding form_of
returns-in-3 c = search answers

pub returns-in_default : goal.returns-in_default
unfolding form_of
returns-in_default c = search answers
