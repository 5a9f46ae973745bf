use Rattle.std.proofs.Common.{rules}
use Rattle.klv.proofs.ZeroBytes.{more_zeros_fit, common_last, common_first}
use Rattle.klv.proofs.key.common.Goals as goal

ruleset answers = (rules, more_zeros_fit, common_last, common_first)

pub returns-then-first-eq0 : goal.returns-then-first-eq0
returns-then-first-eq0 c = search answers

pub returns : goal.returns
returns c = search answers
