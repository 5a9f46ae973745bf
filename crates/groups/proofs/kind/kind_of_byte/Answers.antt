use Rattle.std.proofs.Common.{rules}
use Rattle.groups.specs.Kind.{kind_of_byte}
use Rattle.groups.proofs.kind.kind_of_byte.Goals as goal

pub returns-in-1 : goal.returns-in-1
unfolding kind_of_byte
returns-in-1 c = search rules

pub returns-in-2 : goal.returns-in-2
unfolding kind_of_byte
returns-in-2 c = search rules

pub returns-in-34 : goal.returns-in-34
unfolding kind_of_byte
returns-in-34 c = search rules

pub returns-in-66 : goal.returns-in-66
unfolding kind_of_byte
returns-in-66 c = search rules

pub returns-in-98 : goal.returns-in-98
unfolding kind_of_byte
returns-in-98 c = search rules

pub returns-in-3 : goal.returns-in-3
unfolding kind_of_byte
returns-in-3 c = search rules

pub returns-in-35 : goal.returns-in-35
unfolding kind_of_byte
returns-in-35 c = search rules

pub returns-in-67 : goal.returns-in-67
unfolding kind_of_byte
returns-in-67 c = search rules

pub returns-in-99 : goal.returns-in-99
unfolding kind_of_byte
returns-in-99 c = search rules

pub returns-in-11 : goal.returns-in-11
unfolding kind_of_byte
returns-in-11 c = search rules

pub returns-in-43 : goal.returns-in-43
unfolding kind_of_byte
returns-in-43 c = search rules

pub returns-in-75 : goal.returns-in-75
unfolding kind_of_byte
returns-in-75 c = search rules

pub returns-in-107 : goal.returns-in-107
unfolding kind_of_byte
returns-in-107 c = search rules

pub returns-in-19 : goal.returns-in-19
unfolding kind_of_byte
returns-in-19 c = search rules

pub returns-in-51 : goal.returns-in-51
unfolding kind_of_byte
returns-in-51 c = search rules

pub returns-in-83 : goal.returns-in-83
unfolding kind_of_byte
returns-in-83 c = search rules

pub returns-in-115 : goal.returns-in-115
unfolding kind_of_byte
returns-in-115 c = search rules

pub returns-in-27 : goal.returns-in-27
unfolding kind_of_byte
returns-in-27 c = search rules

pub returns-in-59 : goal.returns-in-59
unfolding kind_of_byte
returns-in-59 c = search rules

pub returns-in-91 : goal.returns-in-91
unfolding kind_of_byte
returns-in-91 c = search rules

pub returns-in-123 : goal.returns-in-123
unfolding kind_of_byte
returns-in-123 c = search rules

pub returns-in-4 : goal.returns-in-4
unfolding kind_of_byte
returns-in-4 c = search rules

pub returns-in-36 : goal.returns-in-36
unfolding kind_of_byte
returns-in-36 c = search rules

pub returns-in-68 : goal.returns-in-68
unfolding kind_of_byte
returns-in-68 c = search rules

pub returns-in-100 : goal.returns-in-100
unfolding kind_of_byte
returns-in-100 c = search rules

pub returns-in-5 : goal.returns-in-5
unfolding kind_of_byte
returns-in-5 c = search rules

pub returns-in_default : goal.returns-in_default
unfolding kind_of_byte
returns-in_default c = search rules
