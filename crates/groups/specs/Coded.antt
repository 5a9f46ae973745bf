-- How the items of a kind of group are coded: the layouts of its tags and lengths, with their compact numbers.
use Rattle.klv.specs.Compact.{compact_of}
use Rattle.klv.specs.declared.layout.Form.TheVariants.{Ber}
use Rattle.klv.specs.declared.compact.Compact.{Compact}
use Rattle.groups.specs.declared.kind.Kind.{Kind}
use Rattle.groups.specs.declared.kind.Kind.TheVariants.{Universal, Global, Local, Variable, Defined, NoGroup}

-- the length layout of a kind, with its compact numbers; BER where it has none
unfoldable pub compact_lengths : Kind → Compact
compact_lengths Universal = compact_of Ber
compact_lengths (Global y) = compact_of y.form
compact_lengths (Local t y) = compact_of y.form
compact_lengths (Variable y) = compact_of y.form
compact_lengths Defined = compact_of Ber
compact_lengths NoGroup = compact_of Ber

-- the tag layout of a local set, with its compact numbers; BER for every other kind
unfoldable pub compact_tags : Kind → Compact
compact_tags Universal = compact_of Ber
compact_tags (Global y) = compact_of Ber
compact_tags (Local t y) = compact_of t.form
compact_tags (Variable y) = compact_of Ber
compact_tags Defined = compact_of Ber
compact_tags NoGroup = compact_of Ber
