use Rattle.std.proofs.Common.{rules}
use Rattle.job.specs.Job.{parts_follow}
use Rattle.job.proofs.file.parts_follow.Goals as goal

pub returns-then-next_follows-3 : goal.returns-then-next_follows-3
unfolding parts_follow
returns-then-next_follows-3 c = search rules

pub returns-else-next_follows-3 : goal.returns-else-next_follows-3
unfolding parts_follow
returns-else-next_follows-3 c = search rules
