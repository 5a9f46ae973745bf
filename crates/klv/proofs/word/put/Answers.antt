use Rattle.std.proofs.Common.{rules}
use Rattle.klv.proofs.WordFacts.{word_room, word_put}
use Rattle.klv.proofs.word.put.Goals as goal

ruleset answers = (rules, word_room, word_put)

pub put-requires : goal.put-requires
put-requires c = search answers

pub returns : goal.returns
returns c = search answers
