use Rattle.std.proofs.Common.{rules}
use Rattle.deep.proofs.ListLaws.{second_number, third_number, record_listed}
use Rattle.deep.proofs.listing.put_record.Goals as goal

ruleset answers = (rules, second_number, third_number, record_listed)

pub returns : goal.returns
returns c = search answers
