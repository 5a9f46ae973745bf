-- The text of an answer (01, "The host, the listing, the job"): capital digits, one space between fields, each line ended
-- by one byte 0A.
use Rattle.std.specs.Prelude.{ℕ, ◌+◌, ◌/◌, ◌%◌, List, [], ◌∷◌, ◌++◌, map, ltb, length}
use Rattle.klv.specs.Pick.{pick}
use Rattle.klv.specs.Number.{digits, fewest}
use Rattle.groups.specs.Read.{Entry, size}
use Rattle.groups.specs.Listing.{start}

-- ---- digits

-- 0 to 9 are the bytes 30 to 39, 10 to 15 the bytes 41 to 46, which are the capital letters A to F
abbrev pub digit : ℕ → ℕ
digit n = pick (ltb n 10) (0x30 + n) (0x37 + n)

-- a number in base ten, in the fewest digits
unfoldable pub decimal : ℕ → List ℕ
decimal n = map digit (digits 10 (fewest 10 20 n) n)

-- bytes in base sixteen, two digits each
unfoldable pub hex : List ℕ → List ℕ
hex [] = []
hex (b ∷ bs) = digit (b / 16) ∷ digit (b % 16) ∷ hex bs

-- ---- lines

-- fields with one space between them, and the byte 0A
abbrev pub line : List (List ℕ) → List ℕ
line [] = 0x0A ∷ []
line (f ∷ []) = f ++ (0x0A ∷ [])
line (f ∷ g ∷ fs) = f ++ (0x20 ∷ line (g ∷ fs))

-- the words OK and REFUSED
abbrev pub ok_word : List ℕ
ok_word = 0x4F ∷ 0x4B ∷ []

abbrev pub refused_word : List ℕ
refused_word = 0x52 ∷ 0x45 ∷ 0x46 ∷ 0x55 ∷ 0x53 ∷ 0x45 ∷ 0x44 ∷ []

-- a refusal: its number and its place
unfoldable pub refusal_text : ℕ → ℕ → List ℕ
refusal_text number place = line (refused_word ∷ decimal number ∷ decimal place ∷ [])

-- each item's key, and its value's offset and length in the output, the first item beginning at `at`
unfoldable pub item_lines : ℕ → List Entry → List ℕ
item_lines at [] = []
item_lines at (e ∷ es) =
    line (hex e.key ∷ decimal (at + e.label + e.width) ∷ decimal (length e.value) ∷ []) ++ item_lines (at + size e) es

-- an output and its items: OK, how many items, the output's length; a line for each item; the output
unfoldable pub ok_text : List ℕ → List Entry → List ℕ
ok_text output es =
    line (ok_word ∷ decimal (length es) ∷ decimal (length output) ∷ [])
    ++ (item_lines (start output) es ++ line (hex output ∷ []))
