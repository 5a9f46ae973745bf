use Rattle.feed.proofs.FeedFacts.{settled}
use Rattle.feed.proofs.setting.Setting.new.Goals as goal

pub returns : goal.returns
returns c =
    settled _ _ _ _ _ _ _ _ _
    c.tag_table_ok.ensures c.if-not-tag_table_ok.false
    c.pack_table_ok.ensures c.if-not-pack_table_ok.false
    c.is_group_key.ensures c.if-not-is_group_key.false
    c.is_group_key-2.ensures c.if-not-is_group_key-2.false
    c.key_or_zeros-key.ensures
