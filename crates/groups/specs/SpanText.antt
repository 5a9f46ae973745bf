-- An element that measures itself, in the words of 02's point 5.
use Rattle.std.specs.Prelude.{ℕ, ◌+◌, ◌≤◌, ◌≡◌, true, List, length, take, drop}
use Rattle.klv.specs.Key.{is_key}
use Rattle.klv.specs.Layout.{read_as}
use Rattle.klv.specs.declared.layout.Form.TheVariants.{Ber}
use Rattle.klv.specs.Number.{Value}

-- one whole triplet of n bytes at the front of l: a key as in 01, a BER length and that many bytes
pub record Triplet (l : List ℕ) (n : ℕ) : Type 0 where
  pub width : ℕ
  pub value : ℕ
  pub key : is_key (take 16 l) ≡ true
  pub reads : read_as Ber (drop 16 l) ≡ Value value width
  pub size : n ≡ 16 + width + value
  pub there : n ≤ length l
