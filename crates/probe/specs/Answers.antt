-- The numbers that the entries answer and what they leave in slices, by the definitions of klv.
use Rattle.std.specs.Prelude.{ℕ, ◌≡◌, Bool, List, Option, Some, None, Result, Ok, Err, ltb, eqb, length, set}
use Rattle.klv.specs.Pick.{pick}
use Rattle.klv.specs.Bytes.{same}
use Rattle.klv.specs.Key.{is_key, label_length}
use Rattle.klv.specs.Number.{Read}
use Rattle.klv.specs.Layout.{writing, leaves}
use Rattle.klv.specs.declared.ber.BerLength.{BerLength}
use Rattle.klv.specs.declared.layout.Form.{Form}
use Rattle.klv.specs.declared.layout.Form.TheVariants.{Ber, Word, One, Two, Four}
use Rattle.klv.specs.declared.layout.NumberError.{NumberError}
use Rattle.klv.specs.declared.layout.NumberError.TheVariants.{Missing, Malformed}
use Rattle.klv.specs.declared.layout.WriteError.{WriteError}
use Rattle.klv.specs.declared.layout.WriteError.TheVariants.{TooLarge, NoRoom}

-- 1 for true, 0 for false
abbrev pub bit : Bool → ℕ
bit b = pick b 1 0

-- the key test of sixteen bytes; 2 for fewer
abbrev pub key_test : Option (List ℕ) → ℕ
key_test (Some k) = bit (is_key k)
key_test None = 2

-- the label length of sixteen bytes; 0 for fewer
abbrev pub label_of : Option (List ℕ) → ℕ
label_of (Some k) = label_length k
label_of None = 0

-- whether two times sixteen bytes are equal; 2 where either are fewer
abbrev pub same_test : Option (List ℕ) → Option (List ℕ) → ℕ
same_test None b = 2
same_test (Some x) None = 2
same_test (Some x) (Some y) = bit (same x y)

-- the form that a number means
unfoldable pub form_of : ℕ → Form
form_of n = pick (eqb n 0) Ber (pick (eqb n 1) Word (pick (eqb n 2) One (pick (eqb n 3) Two Four)))

-- the number of what a read found
abbrev pub read_code : Read → ℕ
read_code (Ok n) = 0
read_code (Err Missing) = 1
read_code (Err Malformed) = 2

-- the elements after a read, which were d before it
abbrev pub noted : List ℕ → Read → List ℕ
noted d (Ok n) = set (set d 0 n.value) 1 n.width
noted d (Err e) = d

-- the contract of a read: d at entry, x at exit, r the answer
pub record Probed (number : Read) (d x : List ℕ) (r : ℕ) : Type 0 where
  pub is : r ≡ pick (ltb (length d) 2) 3 (read_code number)
  pub elements : x ≡ pick (ltb (length d) 2) d (noted d number)

-- the elements after a read of a BER length
abbrev pub noted_length : List ℕ → Result BerLength NumberError → List ℕ
noted_length d (Ok r) = set (set (set d 0 r.number.value) 1 r.number.width) 2 (bit r.longer)
noted_length d (Err e) = d

-- its number
abbrev pub number_in : Result BerLength NumberError → Read
number_in (Ok r) = Ok r.number
number_in (Err e) = Err e

-- the contract of such a read
pub record ProbedLength (length-read : Result BerLength NumberError) (d x : List ℕ) (r : ℕ) : Type 0 where
  pub is : r ≡ pick (ltb (length d) 3) 3 (read_code (number_in length-read))
  pub elements : x ≡ pick (ltb (length d) 3) d (noted_length d length-read)

-- the number of what a write did
abbrev pub write_code : Result ℕ WriteError → ℕ
write_code (Ok end) = end
write_code (Err TooLarge) = 0xFFFF_FFFF_FFFF_FFFF
write_code (Err NoRoom) = 0xFFFF_FFFF_FFFF_FFFE

-- the contract of a write: d at entry, x at exit, r the answer
pub record Stored (form : Form) (at n : ℕ) (d x : List ℕ) (r : ℕ) : Type 0 where
  pub is : r ≡ write_code (writing form at n (length d))
  pub bytes : x ≡ leaves form at n d (writing form at n (length d))
