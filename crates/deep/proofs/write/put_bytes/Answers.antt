use Rattle.std.proofs.Common.{rules}
use Rattle.deep.proofs.PutFacts.{bytes_over}
use Rattle.deep.proofs.write.put_bytes.Goals as goal

ruleset answers = (rules, bytes_over)

pub returns : goal.returns
returns c = search answers
