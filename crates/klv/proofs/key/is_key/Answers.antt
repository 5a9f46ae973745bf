use Rattle.std.proofs.Common.{rules}
use Rattle.klv.proofs.KeyTest.{key_words_told, key_front_told}
use Rattle.klv.proofs.key.is_key.Goals as goal

ruleset answers = (rules, key_words_told, key_front_told)

pub returns-then-begins_ok : goal.returns-then-begins_ok
returns-then-begins_ok c = search answers

pub returns : goal.returns
returns c = search answers
