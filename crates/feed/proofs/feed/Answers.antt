use Rattle.std.proofs.Common.{rules}
use Rattle.std.proofs.lemmas.Result.{err_from_is_err_and}
use Rattle.feed.specs.Feed.{feed_of}
use Rattle.feed.proofs.FeedFacts.{feed_placed, feed_long, feed_fits}
use Rattle.feed.proofs.feed.Goals as goal

ruleset answers = (rules, feed_placed, feed_long, feed_fits)

pub returns-in_err-setting : goal.returns-in_err-setting
returns-in_err-setting c = let p = err_from_is_err_and c.from_residual.result c.from_residual.ensures.1 in rw (p.1, p.2) (feed_placed _ _ _ c.new.result c.new.ensures _ (λ why e h. search rules) c.map_err.result c.map_err.ensures.cases _ c.in_err-setting.was)

pub returns-then-feed-gt-MOST_BYTES : goal.returns-then-feed-gt-MOST_BYTES
unfolding feed_of
returns-then-feed-gt-MOST_BYTES c = search answers

pub returns : goal.returns
unfolding feed_of
returns c = search answers
