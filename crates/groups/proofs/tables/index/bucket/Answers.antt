use Rattle.std.proofs.Common.{rules}
use Rattle.groups.proofs.tables.index.IndexLoops.{bucket_is, bucket_fits}
use Rattle.groups.proofs.tables.index.bucket.Goals as goal

ruleset answers = (rules, bucket_is, bucket_fits)

pub returns : goal.returns
returns c = search answers
