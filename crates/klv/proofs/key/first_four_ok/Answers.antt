use Rattle.std.proofs.Common.{rules}
use Rattle.klv.proofs.KeyTest.{not_oid, not_size, not_code, designator_told}
use Rattle.klv.proofs.key.first_four_ok.Goals as goal

ruleset answers = (rules, not_oid, not_size, not_code, designator_told)

pub returns-then-first-ne6 : goal.returns-then-first-ne6
returns-then-first-ne6 c = search answers

pub returns-then-first-ne14 : goal.returns-then-first-ne14
returns-then-first-ne14 c = search answers

pub returns-then-first-ne43 : goal.returns-then-first-ne43
returns-then-first-ne43 c = search answers

pub returns : goal.returns
returns c = search answers
