use Rattle.std.proofs.Common.{rules}
use Rattle.job.proofs.FileFacts.{follows_is}
use Rattle.job.proofs.file.next_follows.Goals as goal

ruleset answers = (rules, follows_is)

pub returns : goal.returns
returns c = search answers
