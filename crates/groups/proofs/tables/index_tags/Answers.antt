use Rattle.std.proofs.Common.{rules}
use Rattle.groups.proofs.tables.TableLoops.{size_most, tags_whole, tags_size}
use Rattle.groups.proofs.tables.RisingLaws.{tags_rising}
use Rattle.groups.proofs.tables.index_tags.Goals as goal

ruleset answers = (rules, size_most, tags_whole, tags_size, tags_rising)

pub rows_rise-rise-requires : goal.rows_rise-rise-requires
rows_rise-rise-requires c = search answers

pub returns-then-rise : goal.returns-then-rise
returns-then-rise c = search answers

pub index_keys-requires : goal.index_keys-requires
index_keys-requires c = search answers

pub tag_rows_ok-requires : goal.tag_rows_ok-requires
tag_rows_ok-requires c = search answers

pub returns-then-whole : goal.returns-then-whole
returns-then-whole c = search answers

pub returns : goal.returns
returns c = search answers
