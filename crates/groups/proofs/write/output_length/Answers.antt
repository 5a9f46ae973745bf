use Rattle.std.proofs.Common.{rules}
use Rattle.groups.proofs.write.OutputFacts.{total_fits, length_long, length_short, length_fine}
use Rattle.groups.proofs.write.UniversalFacts.{width_fits}
use Rattle.groups.proofs.write.output_length.Goals as goal

ruleset answers = (rules, width_fits, total_fits, length_long, length_short, length_fine)

pub overflow_add-total : goal.overflow_add-total
overflow_add-total c = search answers

pub overflow_add-total-2 : goal.overflow_add-total-2
overflow_add-total-2 c = search answers
