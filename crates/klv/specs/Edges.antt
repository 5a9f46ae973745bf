-- The edges of 01 marked † that belong to keys and numbers, and how wide some lengths were sent (02, point 7).
use Rattle.std.specs.Prelude.{ℕ, Bool, true, false, List, [], ◌∷◌, Ok, Err}
use Rattle.klv.specs.Edge.{Edge, told, told_length}
use Rattle.klv.specs.Ber.{ber_length}
use Rattle.klv.specs.Number.{Read, Value}
use Rattle.klv.specs.Layout.{read_as, written}
use Rattle.klv.specs.declared.layout.Form.{Form}
use Rattle.klv.specs.declared.layout.Form.TheVariants.{Ber, Word}
use Rattle.klv.specs.declared.layout.NumberError.TheVariants.{Malformed}

-- n is written so
abbrev pub writes : Form → ℕ → List ℕ → Edge
writes f n l = record { given = written f n; expected = l }

-- bytes read so
abbrev pub reads : Form → List ℕ → Read → Edge
reads f l r = record { given = told (read_as f l); expected = told r }

-- bytes that are the length v in w bytes; `longer`: fewer would do
abbrev pub sends : List ℕ → ℕ → ℕ → Bool → Edge
sends l v w longer = record { given = told_length (ber_length l); expected = told_length (Ok (record { number = record { value = v; width = w }; longer = longer })) }

unfoldable pub edges : List Edge
edges =
    writes Ber 127 (0x7F ∷ [])
    ∷ writes Ber 128 (0x81 ∷ 0x80 ∷ [])
    ∷ writes Ber 255 (0x81 ∷ 0xFF ∷ [])
    ∷ writes Ber 256 (0x82 ∷ 0x01 ∷ 0x00 ∷ [])
    ∷ reads Ber (0x83 ∷ 0x00 ∷ 0x00 ∷ 0x05 ∷ []) (Value 5 4)
    ∷ reads Ber (0x80 ∷ []) (Err Malformed)
    ∷ reads Ber (0x89 ∷ 1 ∷ 2 ∷ 3 ∷ 4 ∷ 5 ∷ 6 ∷ 7 ∷ 8 ∷ 9 ∷ []) (Err Malformed)
    ∷ writes Word 127 (0x7F ∷ [])
    ∷ writes Word 128 (0x81 ∷ 0x00 ∷ [])
    ∷ writes Word 16383 (0xFF ∷ 0x7F ∷ [])
    ∷ writes Word 16384 (0x81 ∷ 0x80 ∷ 0x00 ∷ [])
    ∷ reads Word (0x7F ∷ []) (Value 127 1)
    ∷ reads Word (0x81 ∷ 0x00 ∷ []) (Value 128 2)
    ∷ reads Word (0xFF ∷ 0x7F ∷ []) (Value 16383 2)
    ∷ reads Word (0x81 ∷ 0x80 ∷ 0x00 ∷ []) (Value 16384 3)
    ∷ sends (0x7F ∷ []) 127 1 false
    ∷ sends (0x81 ∷ 0x7F ∷ []) 127 2 true
    ∷ sends (0x81 ∷ 0x80 ∷ []) 128 2 false
    ∷ sends (0x82 ∷ 0x00 ∷ 0xFF ∷ []) 255 3 true
    ∷ sends (0x82 ∷ 0x01 ∷ 0x00 ∷ []) 256 3 false
    ∷ sends (0x83 ∷ 0x00 ∷ 0x00 ∷ 0x05 ∷ []) 5 4 true
    ∷ []
