use Rattle.std.proofs.Common.{rules}
use Rattle.feed.proofs.FeedFacts.{group_key_is, group_key_not}
use Rattle.feed.proofs.setting.is_group_key.Goals as goal

ruleset answers = (rules, group_key_is, group_key_not)

pub returns-then-s-eq16 : goal.returns-then-s-eq16
returns-then-s-eq16 c = search answers

pub returns : goal.returns
returns c = search answers
