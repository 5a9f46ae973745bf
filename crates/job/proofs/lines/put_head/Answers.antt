use Rattle.std.proofs.Common.{rules}
use Rattle.job.proofs.LineFacts.{word_in, numbers_after, head_wrote}
use Rattle.job.proofs.lines.put_head.Goals as goal

ruleset answers = (rules, word_in, numbers_after, head_wrote)

pub put_bytes-after_word-requires : goal.put_bytes-after_word-requires
put_bytes-after_word-requires c = search answers

pub put_numbers-requires : goal.put_numbers-requires
put_numbers-requires c = search answers

pub returns : goal.returns
returns c = search answers
