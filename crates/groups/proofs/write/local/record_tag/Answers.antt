use Rattle.std.proofs.Common.{rules}
use Rattle.groups.proofs.tables.TableLoops.{listed_fits, listed_key_fits, record_four, listed_value}
use Rattle.groups.proofs.write.local.record_tag.Goals as goal

ruleset answers = (rules, listed_fits, listed_key_fits, record_four, listed_value)

pub returns : goal.returns
returns c = search answers
