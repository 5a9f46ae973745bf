use Rattle.std.proofs.Common.{rules}
use Rattle.klv.proofs.WordFacts.{word_none, word_padded, reading_start, reading_cut, reading_last, reading_again, reading_end, word_shift_fits}
use Rattle.klv.proofs.word.read.Goals as goal

ruleset answers = (rules, word_none, word_padded, reading_start, reading_cut, reading_last, reading_again, reading_end, word_shift_fits)

pub returns-then-n-eq0 : goal.returns-then-n-eq0
returns-then-n-eq0 c = search answers

pub returns-then-s-at : goal.returns-then-s-at
returns-then-s-at c = search answers

pub loop-i-init : goal.loop-i-init
loop-i-init c = search answers

pub returns-then-n-i : goal.returns-then-n-i
returns-then-n-i c = search answers

pub overflow_mul-result : goal.overflow_mul-result
overflow_mul-result c = search answers

pub overflow_add-result : goal.overflow_add-result
overflow_add-result c = search answers

pub returns-then-b-lt128 : goal.returns-then-b-lt128
returns-then-b-lt128 c = search answers

pub overflow_mul-value : goal.overflow_mul-value
overflow_mul-value c = search answers

pub overflow_add-value : goal.overflow_add-value
overflow_add-value c = search answers

pub loop-i-preserved : goal.loop-i-preserved
loop-i-preserved c = search answers

pub returns : goal.returns
returns c = search answers
