use Rattle.std.proofs.Common.{rules}
use Rattle.klv.proofs.WordFacts.{length_word}
use Rattle.klv.proofs.word.width.Goals as goal

ruleset answers = (rules, length_word)

pub returns : goal.returns
returns c = search answers
