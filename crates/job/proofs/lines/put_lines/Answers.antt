use Rattle.std.proofs.Common.{rules}
use Rattle.job.proofs.ItemFacts.{lined_start, line_in, lined_again, lined_end, record_index, key_index_law}
use Rattle.job.proofs.lines.put_lines.Goals as goal

ruleset answers = (rules, lined_start, line_in, lined_again, lined_end, record_index, key_index_law)

pub loop-i-init : goal.loop-i-init
loop-i-init c = search answers

pub put_line-at-requires : goal.put_line-at-requires
put_line-at-requires c = search answers

pub loop-i-preserved : goal.loop-i-preserved
loop-i-preserved c = search answers

pub returns : goal.returns
returns c = search answers
