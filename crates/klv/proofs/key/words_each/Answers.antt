use Rattle.std.proofs.Common.{rules}
use Rattle.klv.proofs.HalfLoops.{wording_inside, wording_begin, wording_zero, wording_not_zero, wording_malformed, wording_end}
use Rattle.klv.proofs.key.words_each.Goals as goal
use Rattle.klv.proofs.key.words_each.Goals.{then-not-inside+else-rest-eq0+else-b-eq0+else-b-eq128, else-not-inside}

ruleset answers = (rules, wording_inside, wording_begin, wording_zero, wording_not_zero, wording_malformed, wording_end)

pub returns-then-rest-eq0 : goal.returns-then-rest-eq0
returns-then-rest-eq0 c = search answers

pub returns-then-b-eq0 : goal.returns-then-b-eq0
returns-then-b-eq0 c = search answers

pub returns-then-b-eq128 : goal.returns-then-b-eq128
returns-then-b-eq128 c = search answers

pub loop-i-preserved : goal.loop-i-preserved
loop-i-preserved c = elim c.if-not-inside.branch [
  | then-not-inside+else-rest-eq0+else-b-eq0+else-b-eq128 w ↦ search answers
  | else-not-inside w ↦ search answers
]

pub returns : goal.returns
returns c = search answers
