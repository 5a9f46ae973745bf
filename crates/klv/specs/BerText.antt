-- How wide a length was sent (02, point 7), as a sentence and not as a test: fewer bytes would do. The law `longer_iff`
-- proves that this is what `ber_length` of `Ber.antt` tells.
use Rattle.std.specs.Prelude.{ℕ, ◌<◌, ◌≡◌, List, length}
use Rattle.klv.specs.Bytes.{Bytes}
use Rattle.klv.specs.Ber.{ber_read}
use Rattle.klv.specs.Number.{Value}

-- fewer than w bytes read as the length v
pub record Fewer (v w : ℕ) : Type 0 where
  pub bytes : List ℕ
  pub each : Bytes bytes
  pub width : ℕ
  pub reads : ber_read bytes ≡ Value v width
  pub fewer : length bytes < w
