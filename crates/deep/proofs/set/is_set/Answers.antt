use Rattle.std.proofs.Common.{rules}
use Rattle.deep.proofs.SetFacts.{other_byte, kind_opens}
use Rattle.deep.proofs.set.is_set.Goals as goal

ruleset answers = (rules, other_byte, kind_opens)

pub returns-else-key-eq2 : goal.returns-else-key-eq2
returns-else-key-eq2 c = search answers
