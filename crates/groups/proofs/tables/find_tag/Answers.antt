use Rattle.std.proofs.Common.{rules}
use Rattle.groups.proofs.tables.HalvingLaws.{find_hit, find_miss, find_past}
use Rattle.groups.proofs.tables.find_tag.Goals.{else-guess-t-via-then-guess-t+else-listed_number-tag, else-guess-t-via-else-guess-t}
use Rattle.groups.proofs.tables.find_tag.Goals as goal

ruleset answers = (rules, find_hit, find_miss, find_past)

pub returns-then-listed_number-tag : goal.returns-then-listed_number-tag
returns-then-listed_number-tag c = search answers

pub returns : goal.returns
returns c = elim c.else-guess-t.branch [ else-guess-t-via-then-guess-t+else-listed_number-tag w ↦ search answers | else-guess-t-via-else-guess-t w ↦ search answers ]
