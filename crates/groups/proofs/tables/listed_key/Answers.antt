use Rattle.std.proofs.Common.{rules}
use Rattle.groups.proofs.tables.TableLoops.{listed_fits, listed_key_fits, listed_end_fits, record_rest, listed_bytes}
use Rattle.groups.proofs.tables.listed_key.Goals as goal

ruleset answers = (rules, listed_fits, listed_key_fits, listed_end_fits, record_rest, listed_bytes)

pub returns : goal.returns
returns c = search answers
