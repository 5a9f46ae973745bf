use Rattle.std.proofs.Common.{rules}
use Rattle.klv.proofs.HalfLoops.{halving_start, halving_again, halving_end, half_product_fits, half_fits}
use Rattle.klv.proofs.key.half.Goals as goal

ruleset answers = (rules, halving_start, halving_again, halving_end, half_product_fits, half_fits)

pub loop-i-init : goal.loop-i-init
loop-i-init c = search answers

pub overflow_mul-value : goal.overflow_mul-value
overflow_mul-value c = search answers

pub overflow_add-value-in-loop-i : goal.overflow_add-value-in-loop-i
overflow_add-value-in-loop-i c = search answers

pub loop-i-preserved : goal.loop-i-preserved
loop-i-preserved c = search answers

pub returns : goal.returns
returns c = search answers
