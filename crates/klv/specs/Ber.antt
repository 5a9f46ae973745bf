-- BER lengths (01, "Lengths"): 00..7F is itself; 81..88 is followed by 1 to 8 bytes, most significant first.
use Rattle.std.specs.Prelude.{ℕ, ◌+◌, ◌-◌, Bool, false, List, [], ◌∷◌, Result, Ok, Err, ltb, eqb, length, take}
use Rattle.klv.specs.Pick.{pick}
use Rattle.klv.specs.Number.{Read, Value, number, digits, fewest}
use Rattle.klv.specs.declared.ber.BerLength.{BerLength}
use Rattle.klv.specs.declared.layout.NumberError.{NumberError}
use Rattle.klv.specs.declared.layout.NumberError.TheVariants.{Missing, Malformed}

-- leading zero bytes are read; 80 and 89..FF are malformed; bytes that end early: missing
unfoldable pub ber_read : List ℕ → Read
ber_read [] = Err Missing
ber_read (b ∷ bs) =
    pick (ltb b 0x80) (Value b 1)
    (pick (eqb b 0x80) (Err Malformed)
    (pick (ltb 0x88 b) (Err Malformed)
    (pick (ltb (length bs) (b - 0x80)) (Err Missing)
    (Value (number 256 0 (take (b - 0x80) bs)) (b - 0x80 + 1)))))

-- the fewest bytes
unfoldable pub ber_write : ℕ → List ℕ
ber_write n = pick (ltb n 0x80) (n ∷ []) ((0x80 + fewest 256 8 n) ∷ digits 256 (fewest 256 8 n) n)

-- ---- how wide a length was sent (02, point 7)

-- a length n that occupied w bytes has a longer form than needed: the writer uses fewer
unfoldable pub longer : ℕ → ℕ → Bool
longer n w = ltb (length (ber_write n)) w

-- a length as read: its value and how many bytes it occupied, and whether fewer would do
abbrev pub with_longer : Read → Result BerLength NumberError
with_longer (Ok n) = Ok (record { number = n; longer = longer n.value n.width })
with_longer (Err e) = Err e

unfoldable pub ber_length : List ℕ → Result BerLength NumberError
ber_length l = with_longer (ber_read l)

-- whether a length is longer than needed; where there is no length, none is
abbrev pub read_longer : Result BerLength NumberError → Bool
read_longer (Ok r) = r.longer
read_longer (Err e) = false
