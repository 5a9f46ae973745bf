use Rattle.std.proofs.Common.{rules}
use Rattle.groups.proofs.tables.RecordFacts.{recorded_coded}
use Rattle.groups.proofs.read.BodyFacts.{coded_read}
use Rattle.groups.proofs.read.read_coded.Goals as goal

ruleset answers = (rules, recorded_coded, coded_read)

pub read_items-requires : goal.read_items-requires
read_items-requires c = search answers

pub returns : goal.returns
returns c = search answers
