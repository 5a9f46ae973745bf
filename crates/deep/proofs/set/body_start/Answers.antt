use Rattle.std.proofs.Common.{rules, ◌+◌}
use Rattle.groups.specs.Listing.{start}
use Rattle.deep.proofs.SetFacts.{start_fits}
use Rattle.deep.proofs.set.body_start.Goals as goal

pub overflow_add-result : goal.overflow_add-result
unfolding start
overflow_add-result c = start_fits c.args.group.now (16 + c.map_or.result) (search rules) (search rules)

pub returns : goal.returns
unfolding start
returns c = search rules
