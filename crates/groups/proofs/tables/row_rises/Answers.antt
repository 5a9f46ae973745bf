use Rattle.std.proofs.Common.{rules}
use Rattle.groups.proofs.tables.TableLoops.{index_small, before_small, before_in}
use Rattle.groups.proofs.tables.RisingLaws.{rises_no_key, rises_first, rises_next, rises_falling}
use Rattle.groups.proofs.tables.row_rises.Goals as goal

ruleset answers = (rules, index_small, before_small, before_in, rises_no_key, rises_first, rises_next, rises_falling)

pub returns-then-i-eq0 : goal.returns-then-i-eq0
returns-then-i-eq0 c = search answers

pub returns-then-below-tag : goal.returns-then-below-tag
returns-then-below-tag c = search answers

pub returns-then-key : goal.returns-then-key
returns-then-key c = search answers

pub returns : goal.returns
returns c = search answers
