use Rattle.std.proofs.Common.{rules}
use Rattle.job.proofs.FileFacts.{number_read, number_unread}
use Rattle.job.proofs.file.number_at.Goals as goal

ruleset answers = (rules, number_read, number_unread)

pub returns-in-Ok : goal.returns-in-Ok
returns-in-Ok c = search answers

pub returns-in-Err : goal.returns-in-Err
returns-in-Err c = search answers
