use Rattle.std.proofs.Common.{rules}
use Rattle.job.specs.Job.{job_ok}
use Rattle.job.proofs.file.job_ok.Goals as goal

pub returns-then-number_at-eq32 : goal.returns-then-number_at-eq32
unfolding job_ok
returns-then-number_at-eq32 c = search rules

pub returns-else-number_at-eq32 : goal.returns-else-number_at-eq32
unfolding job_ok
returns-else-number_at-eq32 c = search rules
