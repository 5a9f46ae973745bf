use Rattle.std.proofs.Common.{rules}
use Rattle.klv.proofs.Blocks.{blocks_start, blocks_again, blocks_end}
use Rattle.klv.proofs.copy.copy_blocks.Goals as goal

ruleset answers = (rules, blocks_start, blocks_again, blocks_end)

pub loop-i-init : goal.loop-i-init
loop-i-init c = search answers

pub loop-i-preserved : goal.loop-i-preserved
loop-i-preserved c = search answers

pub returns : goal.returns
returns c = search answers
