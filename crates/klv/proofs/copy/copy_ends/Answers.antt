use Rattle.std.proofs.Common.{rules}
use Rattle.klv.proofs.Blocks.{ends_copied}
use Rattle.klv.proofs.copy.copy_ends.Goals as goal

ruleset answers = (rules, ends_copied)

pub returns : goal.returns
returns c = search answers
