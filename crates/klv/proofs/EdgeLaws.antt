-- The edges hold, by one computation over the table.
use mathlib.Core.Path.{◌≡◌, refl}
use mathlib.Core.Bool.{true}
use Rattle.klv.specs.Bytes.{same}
use Rattle.klv.specs.Number.{fewest, fixed_read}
use Rattle.klv.specs.Ber.{ber_read, ber_write, longer, ber_length}
use Rattle.klv.specs.Word.{word_from, word_read, word_write}
use Rattle.klv.specs.Layout.{read_as, written}
use Rattle.klv.specs.Edge.{agree}
use Rattle.klv.specs.Edges.{edges}

pub edges_agree : agree edges ≡ true
unfolding agree edges same fewest fixed_read ber_read ber_write longer ber_length word_from word_read word_write read_as written
edges_agree = refl
