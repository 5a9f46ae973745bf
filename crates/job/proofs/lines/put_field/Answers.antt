use Rattle.std.proofs.Common.{rules}
use Rattle.job.proofs.LineFacts.{decimal_in, field_kept, field_wrote}
use Rattle.job.proofs.lines.put_field.Goals as goal

ruleset answers = (rules, decimal_in, field_kept, field_wrote)

pub returns : goal.returns
returns c = search answers
