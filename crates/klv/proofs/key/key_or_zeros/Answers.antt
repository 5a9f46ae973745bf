use Rattle.std.proofs.Common.{rules}
use Rattle.klv.specs.Key.{key_or_zeros}
use Rattle.klv.proofs.key.key_or_zeros.Goals as goal

pub returns : goal.returns
unfolding key_or_zeros
returns c = search rules
