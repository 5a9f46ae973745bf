use Rattle.std.proofs.Common.{rules}
use Rattle.klv.proofs.CompactFacts.{one_put, two_put, four_put}
use Rattle.klv.proofs.compact.put_bytes.Goals as goal

ruleset answers = (rules, one_put, two_put, four_put)

pub returns-then-width-eq1 : goal.returns-then-width-eq1
returns-then-width-eq1 c = search answers

pub returns-then-width-eq2 : goal.returns-then-width-eq2
returns-then-width-eq2 c = search answers

pub returns : goal.returns
returns c = search answers
