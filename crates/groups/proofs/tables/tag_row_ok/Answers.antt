use Rattle.std.proofs.Common.{rules}
use Rattle.groups.proofs.tables.TableLoops.{index_small, tag_row_no_key, tag_row_first, tag_row_rising, tag_row_falling, before_small}
use Rattle.groups.proofs.tables.tag_row_ok.Goals as goal

ruleset answers = (rules, index_small, tag_row_no_key, tag_row_first, tag_row_rising, tag_row_falling, before_small)

pub returns-then-i-eq0 : goal.returns-then-i-eq0
returns-then-i-eq0 c = search answers

pub returns-then-before-tag : goal.returns-then-before-tag
returns-then-before-tag c = search answers

pub returns-then-key : goal.returns-then-key
returns-then-key c = search answers

pub returns : goal.returns
returns c = search answers
