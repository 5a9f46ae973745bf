use Rattle.std.proofs.Common.{rules}
use Rattle.klv.proofs.KeyTest.{not_always, category_high, category_zero, registry_high, registry_zero, registry_reserved, structure_high, structure_zero, version_high, version_told}
use Rattle.klv.proofs.key.first_eight_ok.Goals as goal

ruleset answers = (rules, not_always, category_high, category_zero, registry_high, registry_zero, registry_reserved, structure_high, structure_zero, version_high, version_told)

pub returns-then-not-first_four_ok : goal.returns-then-not-first_four_ok
returns-then-not-first_four_ok c = search answers

pub returns-then-second-ge128 : goal.returns-then-second-ge128
returns-then-second-ge128 c = search answers

pub returns-then-second-eq0 : goal.returns-then-second-eq0
returns-then-second-eq0 c = search answers

pub returns-then-second-ge128-2 : goal.returns-then-second-ge128-2
returns-then-second-ge128-2 c = search answers

pub returns-then-second-eq0-2 : goal.returns-then-second-eq0-2
returns-then-second-eq0-2 c = search answers

pub returns-then-second-eq1538 : goal.returns-then-second-eq1538
returns-then-second-eq1538 c = search answers

pub returns-then-second-ge128-3 : goal.returns-then-second-ge128-3
returns-then-second-ge128-3 c = search answers

pub returns-then-second-eq0-3 : goal.returns-then-second-eq0-3
returns-then-second-eq0-3 c = search answers

pub returns-then-second-ge128-4 : goal.returns-then-second-ge128-4
returns-then-second-ge128-4 c = search answers

pub returns : goal.returns
returns c = search answers
