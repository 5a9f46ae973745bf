use Rattle.std.proofs.Common.{rules}
use Rattle.job.proofs.FileFacts.{job_good, text_good, text_malformed}
use Rattle.job.proofs.job_text.Goals as goal

ruleset answers = (rules, job_good, text_good, text_malformed)

pub returns-then-job_ok : goal.returns-then-job_ok
returns-then-job_ok c = search answers

pub returns-else-job_ok : goal.returns-else-job_ok
returns-else-job_ok c = search answers
