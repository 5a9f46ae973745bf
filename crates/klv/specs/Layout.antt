-- Layouts of numbers: what each reads, writes and holds.
use Rattle.std.specs.Prelude.{ℕ, ◌+◌, ◌≡◌, Bool, true, false, List, [], Result, Ok, Err, leb, length}
use Rattle.klv.specs.Pick.{pick}
use Rattle.klv.specs.Bytes.{pasted}
use Rattle.klv.specs.Number.{Read, digits, fixed_read}
use Rattle.klv.specs.Ber.{ber_read, ber_write}
use Rattle.klv.specs.Word.{word_read, word_write}
use Rattle.klv.specs.declared.layout.Form.{Form}
use Rattle.klv.specs.declared.layout.Form.TheVariants.{Ber, Word, One, Two, Four}
use Rattle.klv.specs.declared.layout.WriteError.{WriteError}
use Rattle.klv.specs.declared.layout.WriteError.TheVariants.{TooLarge, NoRoom}

-- the number at the front of a list
unfoldable pub read_as : Form → List ℕ → Read
read_as Ber l = ber_read l
read_as Word l = word_read l
read_as One l = fixed_read 1 l
read_as Two l = fixed_read 2 l
read_as Four l = fixed_read 4 l

-- the bytes of a number
unfoldable pub written : Form → ℕ → List ℕ
written Ber n = ber_write n
written Word n = word_write n
written One n = digits 256 1 n
written Two n = digits 256 2 n
written Four n = digits 256 4 n

-- the largest number of a layout
unfoldable pub largest_of : Form → ℕ
largest_of Ber = 0xFFFF_FFFF_FFFF_FFFF
largest_of Word = 0x0FFF_FFFF
largest_of One = 0xFF
largest_of Two = 0xFFFF
largest_of Four = 0xFFFF_FFFF

-- whether a layout is that of BER lengths
unfoldable pub is_ber : Form → Bool
is_ber Ber = true
is_ber Word = false
is_ber One = false
is_ber Two = false
is_ber Four = false

-- whether a number below 80 is one byte, itself
unfoldable pub plain : Form → Bool
plain Ber = true
plain Word = true
plain One = true
plain Two = false
plain Four = false

-- the bytes of a number, none where the layout does not hold it
unfoldable pub held_bytes : Form → ℕ → List ℕ
held_bytes form n = pick (leb n (largest_of form)) (written form n) []

-- what writing n at a position of a slice of `room` bytes answers: the next position, or why nothing is written
unfoldable pub writing : Form → ℕ → ℕ → ℕ → Result ℕ WriteError
writing form at n room =
    pick (leb n (largest_of form))
    (pick (leb (at + length (written form n)) room) (Ok (at + length (written form n))) (Err NoRoom))
    (Err TooLarge)

-- what it leaves of a slice that held d
abbrev pub leaves : Form → ℕ → ℕ → List ℕ → Result ℕ WriteError → List ℕ
leaves form at n d (Ok end) = pasted d at (written form n)
leaves form at n d (Err e) = d

-- the contract of a write: d at entry, x at exit, r the answer
pub record Wrote (form : Form) (at n : ℕ) (d x : List ℕ) (r : Result ℕ WriteError) : Type 0 where
  pub answer : r ≡ writing form at n (length d)
  pub bytes : x ≡ leaves form at n d (writing form at n (length d))
