use Rattle.std.proofs.Common.{rules}
use Rattle.klv.proofs.Blocks.{block_copied}
use Rattle.klv.proofs.copy.copy_block.Goals as goal

ruleset answers = (rules, block_copied)

pub returns : goal.returns
returns c = search answers
