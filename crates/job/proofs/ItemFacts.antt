-- Module `lines`, the loops over items: each fact in the shape of its need.
use mathlib.Core.Path.{◌≡◌, refl, sym, ap, ◌∙◌, subst}
use mathlib.Core.List.{List, [], ◌++◌}
use Prim.Native.Nat.{ℕ, zero, suc, ◌+◌, ◌-◌, ◌*◌, ◌<◌, ◌≤◌}
use native.Mathlib.Omega.{arith}
use mir.Val.{Fits}
use mir.Syntax.{w32, w64}
use lib.ListN.{length, get_or, take, drop, length-append, length-drop}
use lib.Seq.{length-take-le}
use Rattle.job.specs.Text.{hex}
use Rattle.groups.specs.Arrays.{Put}
use Rattle.job.specs.Held.{numbers, held_line, held_lines, line_length, lines_length}
use Rattle.job.proofs.DigitFacts.{length_hex}
use Rattle.job.proofs.LineFacts.{length_numbers, numbers_most}
use Rattle.job.proofs.PutLaws.{wrote_then, wrote_length, wrote_as, Going, going_start, going_room, going_again, going_end}

-- ---- how long a line is

pub number_wide : {b : ℕ} → Fits w32 b → Fits w64 b
number_wide h = omega arith

pub line_length_is : (records : List ℕ) (i r : ℕ) → r ≡ length (numbers (get_or records (3 * i) 0) (get_or records (3 * i + 1) 0)) → 32 + r ≡ line_length records i
unfolding line_length
line_length_is records i r e = rw e

pub line_length_fits : (a b r : ℕ) → r ≡ length (numbers a b) → Fits w64 (32 + r)
line_length_fits a b r e = omega (arith, numbers_most a b)

line_most : (records : List ℕ) (i : ℕ) → line_length records i ≤ 75
unfolding line_length
line_most records i = omega (arith, numbers_most (get_or records (3 * i) 0) (get_or records (3 * i + 1) 0))

-- ---- i of n lines are measured and take `total` bytes

pub record Measured (records : List ℕ) (n total i : ℕ) : Type 0 where
  pub within : i ≤ n
  pub small : total ≤ 75 * i
  pub rest : total + lines_length (n - i) i records ≡ lines_length n 0 records

lines_more : (n i : ℕ) (records : List ℕ) → lines_length (suc n) i records ≡ line_length records i + lines_length n (i + 1) records
unfolding lines_length
lines_more n i records = refl

lines_none : (i : ℕ) (records : List ℕ) → lines_length 0 i records ≡ 0
unfolding lines_length
lines_none i records = refl

pub measured_again : (records : List ℕ) (n total i r : ℕ) → Measured records n total i → i < n → r ≡ line_length records i → Measured records n (total + r) (i + 1)
measured_again records n total i r m h e =
    let z : n - i ≡ suc (n - (i + 1)) = omega arith in
    let t : total + (line_length records i + lines_length (n - (i + 1)) (i + 1) records) ≡ lines_length n 0 records =
    rw (lines_more (n - (i + 1)) i records) at (rw z at m.rest) in
    let s : total ≤ 75 * i = m.small in
    record { within = omega arith; small = omega (arith, line_most records i); rest = omega arith }

pub measured_fits : (records : List ℕ) (n total i r : ℕ) → Measured records n total i → i < n → r ≡ line_length records i → n ≤ 256 → Fits w64 (total + r)
measured_fits records n total i r m h e l = let s : total ≤ 75 * i = m.small in omega (arith, line_most records i)

pub measured_end : (records : List ℕ) (n total i : ℕ) → Measured records n total i → n ≤ i → total ≡ lines_length n 0 records
measured_end records n total i m h =
    let z : n - i ≡ 0 = omega arith in
    let t : total + 0 ≡ lines_length n 0 records = rw (lines_none i records) at (rw z at m.rest) in
    omega arith

pub record_index : (records : List ℕ) (n i : ℕ) → 3 * n ≤ length records → i < n → 3 * i + 1 < length records
record_index records n i h l = omega arith

pub key_index_law : (keys : List ℕ) (n i : ℕ) → 16 * n ≤ length keys → i < n → 16 * i + 16 ≤ length keys
key_index_law keys n i h l = omega arith

-- ---- one line

-- the sixteen bytes of key i, as a part of the array
abbrev key_part : List ℕ → ℕ → List ℕ
key_part keys i = take (16 * i + 16 - 16 * i) (drop (16 * i) keys)

key_part_law : (keys : List ℕ) (i : ℕ) → key_part keys i ≡ take 16 (drop (16 * i) keys)
key_part_law keys i = let e : 16 * i + 16 - 16 * i ≡ 16 = omega arith in rw e

line_is : (keys records : List ℕ) (i : ℕ) → held_line keys records i ≡ hex (key_part keys i) ++ numbers (get_or records (3 * i) 0) (get_or records (3 * i + 1) 0)
unfolding held_line
line_is keys records i = rw (key_part_law keys i)

module _ (d keys records : List ℕ) (at i : ℕ) (room : at + length (held_line keys records i) ≤ length d) where
  line_size : length (held_line keys records i) ≡ length (hex (key_part keys i)) + length (numbers (get_or records (3 * i) 0) (get_or records (3 * i + 1) 0))
  line_size = ap length (line_is keys records i) ∙ length-append (hex (key_part keys i)) (numbers (get_or records (3 * i) 0) (get_or records (3 * i + 1) 0))

  pub key_in : at + length (hex (take (16 * i + 16 - 16 * i) (drop (16 * i) keys))) ≤ length d
  key_in = omega (arith, line_size)

  pub numbers_in_law : (x : List ℕ) (y : ℕ) → Put d at (hex (take (16 * i + 16 - 16 * i) (drop (16 * i) keys))) x y
      → y + length (numbers (get_or records (3 * i) 0) (get_or records (3 * i + 1) 0)) ≤ length x
  numbers_in_law x y w =
      let e : y ≡ at + length (hex (key_part keys i)) = w.end in
      let s : length x ≡ length d = wrote_length w key_in in
      omega (arith, line_size)

  -- in the other order they take as much room: which stands first is a matter of the text alone
  pub numbers_turned_in : (x : List ℕ) (y : ℕ) → Put d at (hex (take (16 * i + 16 - 16 * i) (drop (16 * i) keys))) x y
      → y + length (numbers (get_or records (3 * i + 1) 0) (get_or records (3 * i) 0)) ≤ length x
  numbers_turned_in x y w =
      omega (
        arith,
        numbers_in_law x y w,
        length_numbers (get_or records (3 * i) 0) (get_or records (3 * i + 1) 0),
        length_numbers (get_or records (3 * i + 1) 0) (get_or records (3 * i) 0),
      )

  pub line_wrote : (x z : List ℕ) (y u : ℕ) → Put d at (hex (take (16 * i + 16 - 16 * i) (drop (16 * i) keys))) x y
      → Put x y (numbers (get_or records (3 * i) 0) (get_or records (3 * i + 1) 0)) z u → Put d at (held_line keys records i) z u
  line_wrote x z y u w v = wrote_as (sym (line_is keys records i)) (wrote_then w v key_in)

-- ---- all lines: i of n are written

abbrev pub Lined : List ℕ → ℕ → List ℕ → List ℕ → ℕ → List ℕ → ℕ → ℕ → Type 0
Lined d from keys records n out at i = Going d from (held_lines n 0 keys records) (held_lines (n - i) i keys records) out at

pub lined_start : (d : List ℕ) (from : ℕ) (keys records : List ℕ) (n : ℕ) → Lined d from keys records n d from 0
lined_start d from keys records n =
    let z : n ≡ n - 0 = omega arith in
    subst (λ (m : ℕ). Going d from (held_lines n 0 keys records) (held_lines m 0 keys records) d from) z (going_start d from (held_lines n 0 keys records))

pub held_more : (n i : ℕ) (keys records : List ℕ) → held_lines (suc n) i keys records ≡ held_line keys records i ++ held_lines n (i + 1) keys records
unfolding held_lines
held_more n i keys records = refl

pub held_none : (i : ℕ) (keys records : List ℕ) → held_lines 0 i keys records ≡ []
unfolding held_lines
held_none i keys records = refl

module _ (d : List ℕ) (from : ℕ) (keys records : List ℕ) (n : ℕ) (out : List ℕ) (at i : ℕ) (p : Lined d from keys records n out at i) (h : i < n)
    (room : from + length (held_lines n 0 keys records) ≤ length d) where
  here : Going d from (held_lines n 0 keys records) (held_line keys records i ++ held_lines (n - (i + 1)) (i + 1) keys records) out at
  here =
      let z : n - i ≡ suc (n - (i + 1)) = omega arith in
      let e : held_lines (n - i) i keys records ≡ held_line keys records i ++ held_lines (n - (i + 1)) (i + 1) keys records =
      ap (λ (m : ℕ). held_lines m i keys records) z ∙ held_more (n - (i + 1)) i keys records in
      subst (λ (l : List ℕ). Going d from (held_lines n 0 keys records) l out at) e p

  pub line_in : at + length (held_line keys records i) ≤ length out
  line_in = going_room (held_line keys records i) (held_lines (n - (i + 1)) (i + 1) keys records) here room

  pub lined_again : (z : List ℕ) (next : ℕ) → Put out at (held_line keys records i) z next → Lined d from keys records n z next (i + 1)
  lined_again z next w = going_again (held_line keys records i) (held_lines (n - (i + 1)) (i + 1) keys records) here room w

pub lined_end : (d : List ℕ) (from : ℕ) (keys records : List ℕ) (n : ℕ) (out : List ℕ) (at i : ℕ) → Lined d from keys records n out at i → n ≤ i
    → Put d from (held_lines n 0 keys records) out at
lined_end d from keys records n out at i p h =
    let z : n - i ≡ 0 = omega arith in
    let e : held_lines (n - i) i keys records ≡ [] = ap (λ (m : ℕ). held_lines m i keys records) z ∙ held_none i keys records in
    going_end (subst (λ (l : List ℕ). Going d from (held_lines n 0 keys records) l out at) e p)

-- ---- the measure is the length

length_line : (keys records : List ℕ) (i : ℕ) → 16 * i + 16 ≤ length keys → length (held_line keys records i) ≡ line_length records i
unfolding held_line line_length
length_line keys records i h =
    let e : length (take 16 (drop (16 * i) keys)) ≡ 16 = length-take-le 16 (drop (16 * i) keys) (simp length-drop (omega arith)) in
    rw (length-append (hex (take 16 (drop (16 * i) keys))) (numbers (get_or records (3 * i) 0) (get_or records (3 * i + 1) 0)), length_hex (take 16 (drop (16 * i) keys)), e)

pub length_lines : (n i : ℕ) (keys records : List ℕ) → 16 * (i + n) ≤ length keys → length (held_lines n i keys records) ≡ lines_length n i records
length_lines zero i keys records h = ap length (held_none i keys records) ∙ sym (lines_none i records)
length_lines (suc n) i keys records h =
    ap length (held_more n i keys records)
    ∙ length-append (held_line keys records i) (held_lines n (i + 1) keys records)
    ∙ rw (length_line keys records i (omega arith), length_lines n (i + 1) keys records (omega arith), lines_more n i records)

pub lines_most : (n i : ℕ) (records : List ℕ) → lines_length n i records ≤ 75 * n
lines_most zero i records = rw (lines_none i records) (omega arith)
lines_most (suc n) i records = rw (lines_more n i records) (omega (arith, line_most records i, lines_most n (i + 1) records))
