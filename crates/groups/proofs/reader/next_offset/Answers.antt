use Rattle.std.proofs.Common.{rules}
use Rattle.groups.proofs.reader.ReaderFacts.{next_is, label_in, width_in_law, value_in}
use Rattle.groups.proofs.reader.next_offset.Goals as goal

ruleset answers = (rules, next_is, label_in, width_in_law, value_in)

pub overflow_add-result : goal.overflow_add-result
overflow_add-result c = search answers

pub returns : goal.returns
returns c = search answers

pub overflow_add-result-2 : goal.overflow_add-result-2
overflow_add-result-2 c = search answers

pub overflow_add-result-3 : goal.overflow_add-result-3
overflow_add-result-3 c = search answers
