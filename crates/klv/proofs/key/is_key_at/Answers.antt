use Rattle.std.proofs.Common.{rules}
use Rattle.klv.proofs.KeyTest.{found_words_told, found_front_told}
use Rattle.klv.proofs.key.is_key_at.Goals as goal

ruleset answers = (rules, found_words_told, found_front_told)

pub returns-then-begins_ok : goal.returns-then-begins_ok
returns-then-begins_ok c = search answers

pub returns : goal.returns
returns c = search answers
