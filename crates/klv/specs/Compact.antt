-- Compact numbers: those that a layout puts into its fewest bytes, 1, 2 or 4 of them, most significant first.
use Rattle.std.specs.Prelude.{ℕ, ◌≤◌, ◌≡◌, Bool, true, List, [], Option, Some, None, Ok, Err, leb, length, take}
use Rattle.klv.specs.Pick.{pick, both}
use Rattle.klv.specs.Number.{Read, Value, number, digits}
use Rattle.klv.specs.Layout.{read_as, written, largest_of}
use Rattle.klv.specs.declared.compact.Compact.{Compact}
use Rattle.klv.specs.declared.layout.Form.{Form}
use Rattle.klv.specs.declared.layout.Form.TheVariants.{Ber, Word, One, Two, Four}
use Rattle.klv.specs.declared.layout.Number.{Number}

-- a layout with the largest number that it puts into its fewest bytes
unfoldable pub compact_of : Form → Compact
compact_of Ber = record { layout = record { form = Ber }; most = 0x7F }
compact_of Word = record { layout = record { form = Word }; most = 0x7F }
compact_of One = record { layout = record { form = One }; most = largest_of One }
compact_of Two = record { layout = record { form = Two }; most = largest_of Two }
compact_of Four = record { layout = record { form = Four }; most = largest_of Four }

-- how many bytes a compact number takes
unfoldable pub least_width : Compact → ℕ
least_width c = pick (leb c.most 0xFF) 1 (pick (leb c.most 0xFFFF) 2 4)

-- one, two or four; of private functions only
abbrev pub OneTwoFour : ℕ → Type 0
OneTwoFour w = (w ≡ 1 → ⊥) → (w ≡ 2 → ⊥) → w ≡ 4

-- whether a list begins with a compact number: so many bytes spell at most `most`
unfoldable pub is_compact : Compact → List ℕ → Bool
is_compact c l = both (leb (least_width c) (length l)) (leb (number 256 0 (take (least_width c) l)) c.most)

-- the compact number at the front of a list, if one stands there
unfoldable pub least_read : Compact → List ℕ → Option Number
least_read c l = pick (is_compact c l) (Some (record { value = number 256 0 (take (least_width c) l); width = least_width c })) None

-- the number at the front of a list: a compact one, else what the layout reads
unfoldable pub compact_read : Compact → List ℕ → Read
compact_read c l = pick (is_compact c l) (Value (number 256 0 (take (least_width c) l)) (least_width c)) (read_as c.layout.form l)

-- whether the layout holds a number
unfoldable pub holds : Compact → ℕ → Bool
holds c n = pick (leb n c.most) true (leb n (largest_of c.layout.form))

-- the bytes of a number; none where the layout does not hold it
unfoldable pub compact_bytes : Compact → ℕ → List ℕ
compact_bytes c n =
    pick (leb n c.most) (digits 256 (least_width c) n)
    (pick (leb n (largest_of c.layout.form)) (written c.layout.form n) [])

-- the value of a number that was read, 0 for none
abbrev pub value_of : Read → ℕ
value_of (Ok n) = n.value
value_of (Err e) = 0

-- the number of the four bytes at the front of a list, 0 where they are not there
unfoldable pub four_bytes : List ℕ → ℕ
four_bytes l = value_of (read_as Four l)

-- r is the number of the four bytes at the front of a list
pub record FourBytes (l : List ℕ) (r : ℕ) : Type 0 where
  pub is : r ≡ four_bytes l
  pub small : r ≤ 0xFFFF_FFFF
