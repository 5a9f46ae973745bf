use Rattle.std.proofs.Common.{rules}
use Rattle.groups.proofs.write.WriteKinds.{other_kind, known_compact, universal_measured, local_measured, other_measured}
use Rattle.groups.proofs.write.measure.Goals as goal

ruleset answers = (rules, other_kind, known_compact, universal_measured, local_measured, other_measured)

pub measure-requires-in-Local : goal.measure-requires-in-Local
measure-requires-in-Local c = search answers

pub returns-in-Universal : goal.returns-in-Universal
returns-in-Universal c = search answers

pub returns-in-Local : goal.returns-in-Local
returns-in-Local c = search answers

pub returns-in-Global : goal.returns-in-Global
returns-in-Global c = search answers
