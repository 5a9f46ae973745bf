use Rattle.std.proofs.Common.{rules}
use Rattle.deep.proofs.FaultLaws.{fault_plain, fault_case}
use Rattle.deep.specs.Deep.{fault_number}
use Rattle.deep.proofs.fault.fault_number.Goals as goal

ruleset answers = (rules, fault_plain, fault_case)

pub returns-in-Plain : goal.returns-in-Plain
unfolding fault_number
returns-in-Plain c = search answers

pub returns-in-TooDeep : goal.returns-in-TooDeep
unfolding fault_number
returns-in-TooDeep c = search answers

pub returns-in-Unread : goal.returns-in-Unread
unfolding fault_number
returns-in-Unread c = search answers
