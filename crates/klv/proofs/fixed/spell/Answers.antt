use Rattle.std.proofs.Common.{rules}
use Rattle.klv.proofs.DigitLoops.{shift_fits}
use Rattle.klv.proofs.fixed.spell.Goals as goal

ruleset answers = (rules, shift_fits)

pub overflow_mul-value : goal.overflow_mul-value
overflow_mul-value c = search answers

pub overflow_add-value : goal.overflow_add-value
overflow_add-value c = search answers
