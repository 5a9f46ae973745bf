use Rattle.std.proofs.Common.{rules}
use Rattle.groups.proofs.write.OutputFacts.{key_room_law, key_there, front_put}
use Rattle.groups.proofs.write.put_front.Goals as goal

ruleset answers = (rules, key_room_law, key_there, front_put)

pub returns : goal.returns
returns c = search answers
