use Rattle.std.proofs.Common.{rules}
use Rattle.klv.proofs.CompactFacts.{least_four, least_in, compact_kept, compact_put, large_put}
use Rattle.klv.proofs.compact.Compact.put.Goals as goal

ruleset answers = (rules, least_four, least_in, compact_kept, compact_put, large_put)

pub returns-then-room-width : goal.returns-then-room-width
returns-then-room-width c = search answers

pub put_bytes-requires : goal.put_bytes-requires
put_bytes-requires c = search answers

pub returns-then-n-self : goal.returns-then-n-self
returns-then-n-self c = search answers

pub returns : goal.returns
returns c = search answers
