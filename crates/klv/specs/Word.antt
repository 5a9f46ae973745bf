-- BER words, the tags of 1 to 4 bytes (01, "Kinds"): seven bits each, most significant first, first byte not 80.
use Rattle.std.specs.Prelude.{ℕ, zero, suc, ◌+◌, ◌-◌, ◌*◌, List, [], ◌∷◌, Err, ltb, eqb}
use Rattle.klv.specs.Pick.{pick}
use Rattle.klv.specs.Number.{Read, Value, digits, fewest, marked}
use Rattle.klv.specs.declared.layout.NumberError.TheVariants.{Missing, Malformed}

-- A word of which `passed` bytes are read, spelling acc, and `left` more may come: no byte below 80 among them is
-- malformed, and bytes that end before such a one cut it off (missing).
unfoldable pub word_from : ℕ → ℕ → ℕ → List ℕ → Read
word_from zero passed acc l = Err Malformed
word_from (suc left) passed acc [] = Err Missing
word_from (suc left) passed acc (b ∷ bs) =
    pick (ltb b 0x80) (Value (acc * 128 + b) (passed + 1)) (word_from left (passed + 1) (acc * 128 + (b - 0x80)) bs)

unfoldable pub word_read : List ℕ → Read
word_read [] = Err Missing
word_read (b ∷ bs) = pick (eqb b 0x80) (Err Malformed) (word_from 4 0 0 (b ∷ bs))

-- the fewest bytes
unfoldable pub word_write : ℕ → List ℕ
word_write n = marked 0x80 (digits 128 (fewest 128 4 n) n)
