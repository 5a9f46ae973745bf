use Rattle.std.proofs.Common.{rules}
use Rattle.groups.proofs.tables.HalvingLaws.{found_in}
use Rattle.groups.proofs.label.LabelFacts.{tag_found, tag_unlisted}
use Rattle.groups.proofs.label.tag_record.Goals as goal

ruleset answers = (rules, found_in, tag_found, tag_unlisted)

pub listed_key-requires : goal.listed_key-requires
listed_key-requires c = search answers
