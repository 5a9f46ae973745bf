use Rattle.std.proofs.Common.{rules}
use Rattle.groups.proofs.write.WriteKinds.{other_kind, known_compact, universal_room, universal_put, local_room, local_put}
use Rattle.groups.proofs.write.put_items.Goals as goal

ruleset answers = (rules, other_kind, known_compact, universal_room, universal_put, local_room, local_put)

pub put_items-requires : goal.put_items-requires
put_items-requires c = search answers

pub put_items-requires-in-Local : goal.put_items-requires-in-Local
put_items-requires-in-Local c = search answers

pub returns-in-Universal : goal.returns-in-Universal
returns-in-Universal c = search answers

pub returns-in-Local : goal.returns-in-Local
returns-in-Local c = search answers
