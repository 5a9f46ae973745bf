use Rattle.klv.specs.Compact.{least_width}
use Rattle.klv.proofs.Branch.{branch}
use Rattle.klv.proofs.compact.Compact.least_width.Goals as goal

pub returns-then-self-le255 : goal.returns-then-self-le255
unfolding least_width
returns-then-self-le255 c = search branch

pub returns-then-self-le65535 : goal.returns-then-self-le65535
unfolding least_width
returns-then-self-le65535 c = search branch

pub returns : goal.returns
unfolding least_width
returns c = search branch
