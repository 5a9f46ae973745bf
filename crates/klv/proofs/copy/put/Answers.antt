use Rattle.std.proofs.Common.{rules}
use Rattle.klv.proofs.CopyFacts.{put_past, put_short, put_over}
use Rattle.klv.proofs.copy.put.Goals as goal

ruleset answers = (rules, put_past, put_short, put_over)

pub returns : goal.returns
returns c = search answers
