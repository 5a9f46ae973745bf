use Rattle.klv.proofs.Branch.{branch}
use Rattle.klv.proofs.BerFacts.{ber_at_law}
use Rattle.klv.proofs.ber.read_number.Goals as goal

pub returns-then-s-at : goal.returns-then-s-at
returns-then-s-at c = rw (← ber_at_law) (search branch)

pub returns-then-first-lt128 : goal.returns-then-first-lt128
returns-then-first-lt128 c = rw (← ber_at_law) (search branch)

pub returns-then-first : goal.returns-then-first
returns-then-first c = rw (← ber_at_law) (search branch)

pub returns-then-first-gt136 : goal.returns-then-first-gt136
returns-then-first-gt136 c = rw (← ber_at_law) (search branch)

pub returns-then-s-from : goal.returns-then-s-from
returns-then-s-from c = rw (← ber_at_law) (search branch)

pub returns : goal.returns
returns c = rw (← ber_at_law) (search branch)
