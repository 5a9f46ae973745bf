use Rattle.std.proofs.Common.{rules}
use Rattle.groups.proofs.tables.index.IndexLoops.{number_wide, entering_fits, link_place, link_most, link_bucket, new_is}
use Rattle.groups.proofs.tables.index.key_is_new.Goals as goal

ruleset answers = (rules, number_wide, entering_fits, link_place, link_most, link_bucket, new_is)

pub last_with-requires : goal.last_with-requires
last_with-requires c = search answers

pub returns : goal.returns
returns c = search answers
