-- Bytes written over others, where there is room for all of them and where there is none.
use mathlib.Core.Path.{◌≡◌, sym}
use mathlib.Core.List.{List, []}
use mathlib.Core.Bool.{true, false}
use Prim.Native.Nat.{ℕ, ◌+◌, ◌<◌, ◌≤◌}
use native.Mathlib.Omega.{arith}
use lib.ListN.{length}
use borrow.Author.Tests.{le-leb, lt-leb}
use Rattle.klv.specs.Bytes.{pasted}
use Rattle.klv.specs.Placed.{fits, Placed}
use Rattle.klv.proofs.Cases.{test_cases}
use Rattle.klv.proofs.Paste.{pasted_none}

-- ---- with room

module _ (d : List ℕ) (at : ℕ) (l : List ℕ) (h : at + length l ≤ length d) where
  pub fits_room : fits d at l ≡ true
  fits_room = le-leb (at + length l) (length d) h

  pub put_end : (x : List ℕ) (next : ℕ) → Placed d at l x next → next ≡ at + length l
  put_end x next p = rw fits_room at p.end

  pub put_bytes : (x : List ℕ) (next : ℕ) → Placed d at l x next → x ≡ pasted d at l
  put_bytes x next p = rw fits_room at p.bytes

  pub put_made : (x : List ℕ) (next : ℕ) → next ≡ at + length l → x ≡ pasted d at l → Placed d at l x next
  put_made x next e b = record { end = rw fits_room e; bytes = rw fits_room b }

-- ---- without

pub put_kept : (d : List ℕ) (at : ℕ) (l : List ℕ) → length d < at + length l → Placed d at l d at
put_kept d at l h = let z : fits d at l ≡ false = lt-leb (at + length l) (length d) h in record { end = rw z; bytes = rw z }

-- ---- either way

-- nothing is written
pub put_none : (d : List ℕ) (at : ℕ) → Placed d at [] d at
put_none d at =
    test_cases (fits d at [])
    (λ t. record { end = rw t (omega arith); bytes = rw t (sym (pasted_none d at)) })
    (λ t. record { end = rw t; bytes = rw t })
