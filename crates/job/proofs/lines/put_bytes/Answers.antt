use Rattle.std.proofs.Common.{rules}
use Rattle.std.proofs.lemmas.Slice.{overwrites}
use Rattle.job.proofs.LineFacts.{copied}
use Rattle.job.proofs.lines.put_bytes.Goals as goal

ruleset answers = (rules, overwrites, copied)

pub returns : goal.returns
returns c = search answers
