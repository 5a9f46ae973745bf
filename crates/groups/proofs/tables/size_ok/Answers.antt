use Rattle.std.proofs.Common.{rules}
use Rattle.groups.proofs.tables.TableLoops.{size_broken, size_whole}
use Rattle.groups.proofs.tables.size_ok.Goals as goal

ruleset answers = (rules, size_broken, size_whole)

pub returns-then-t-ne0 : goal.returns-then-t-ne0
returns-then-t-ne0 c = search answers

pub returns : goal.returns
returns c = search answers
