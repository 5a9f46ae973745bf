use Rattle.std.proofs.Common.{rules}
use Rattle.klv.proofs.KeyLoops.{labelling_inside, labelling_begin, labelling_stop, labelling_end}
use Rattle.klv.proofs.key.before_zero.Goals as goal

ruleset answers = (rules, labelling_inside, labelling_begin, labelling_stop, labelling_end)

pub loop-i-preserved-then-inside : goal.loop-i-preserved-then-inside
loop-i-preserved-then-inside c = search answers

pub returns-then-b-eq0 : goal.returns-then-b-eq0
returns-then-b-eq0 c = search answers

pub loop-i-preserved : goal.loop-i-preserved
loop-i-preserved c = search answers

pub returns : goal.returns
returns c = search answers
