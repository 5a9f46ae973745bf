use Rattle.std.proofs.Common.{rules}
use Rattle.groups.proofs.tables.HalvingLaws.{search_hit, search_miss, search_past}
use Rattle.groups.proofs.tables.search_tag.Goals.{else-low-n-via-then-low-n+else-listed_number-tag, else-low-n-via-else-low-n}
use Rattle.groups.proofs.tables.search_tag.Goals as goal

ruleset answers = (rules, search_hit, search_miss, search_past)

pub returns-then-listed_number-tag : goal.returns-then-listed_number-tag
returns-then-listed_number-tag c = search answers

pub returns : goal.returns
returns c = elim c.else-low-n.branch [ else-low-n-via-then-low-n+else-listed_number-tag w ↦ search answers | else-low-n-via-else-low-n w ↦ search answers ]
