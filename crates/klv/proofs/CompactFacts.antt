-- Module `compact`: each fact in the shape of its need.
use mathlib.Core.Path.{◌≡◌, refl, sym, ap, ◌∙◌}
use mathlib.Core.List.{List, [], ◌∷◌}
use mathlib.Core.Bool.{true, false}
use Prim.Native.Nat.{ℕ, ◌+◌, ◌-◌, ◌/◌, ◌%◌, ◌^◌, ◌<◌, ◌≤◌}
use native.Mathlib.Omega.{arith}
use mir.Val.{Fits}
use mir.Syntax.{w8}
use lib.Dec.{leb}
use lib.ListN.{length, get_or, take, drop, set, length-drop}
use borrow.Author.Tests.{le-leb, lt-leb}
use Rattle.klv.specs.Pick.{pick}
use Rattle.klv.specs.Bytes.{pasted}
use Rattle.klv.specs.Placed.{Placed}
use Rattle.klv.specs.Number.{Read, number, digits}
use Rattle.klv.specs.Layout.{read_as, written, largest_of, held_bytes, writing, Wrote, leaves}
use Rattle.klv.specs.Compact.{least_width, OneTwoFour, is_compact, least_read, compact_read, compact_bytes, holds, FourBytes}
use Rattle.klv.specs.declared.compact.Compact.{Compact}
use Rattle.klv.specs.declared.layout.Form.{Form}
use Rattle.klv.specs.declared.layout.Number.{Number}
use Rattle.klv.specs.declared.layout.WriteError.{WriteError}
use Rattle.klv.specs.declared.layout.WriteError.TheVariants.{TooLarge, NoRoom}
use Rattle.std.specs.Prelude.{Option, Some, None, Result, Ok, Err}
use Rattle.std.specs.Result.{result_unwrap_or}
use Rattle.klv.proofs.Cases.{test_cases, pick_cases, absurd_number}
use Rattle.klv.proofs.Paste.{set_is_pasted, set_after}
use Rattle.klv.proofs.PlacedLaws.{put_made, put_kept, put_none}
use Rattle.klv.proofs.DigitLaws.{length_digits}
use Rattle.klv.proofs.FixedLaws.{part_below}
use Rattle.klv.proofs.WritingLaws.{next_told, next_room, large_told, no_room_told}
use Rattle.klv.proofs.LayoutLaws.{held_written}
use Rattle.klv.proofs.CompactLaws.{four_bytes_law, four_none}

-- ---- the compact numbers of a layout

-- ---- their width

least_cases : (P : ℕ → Type 0) (c : Compact) → P 1 → P 2 → P 4 → P (least_width c)
unfolding least_width
least_cases P c a b d =
    test_cases (leb c.most 0xFF) (λ t. rw t a)
    (λ t. test_cases (leb c.most 0xFFFF) (λ u. rw (t, u) b) (λ u. rw (t, u) d))

pub least_four : (c : Compact) (w : ℕ) → w ≡ least_width c → OneTwoFour w
least_four c w e = rw e (least_cases OneTwoFour c (λ a b. absurd (a refl)) (λ a b. absurd (b refl)) (λ a b. refl))

least_some : (c : Compact) → 0 < least_width c
least_some c = least_cases (λ w. 0 < w) c (omega arith) (omega arith) (omega arith)

pub least_in : (c : Compact) (l at rest w : ℕ) → w ≡ least_width c → rest ≡ l - at → w ≤ rest → at + w ≤ l
least_in c l at rest w e f h = omega (arith, least_some c)

-- ---- a number is read

module _ (c : Compact) (s : List ℕ) (at rest w : ℕ) (e : w ≡ least_width c) (f : rest ≡ length s - at) where
  pub least_short : rest < w → None ≡ least_read c (drop at s)
  unfolding least_read is_compact
  least_short h =
      let z : leb (least_width c) (length (drop at s)) ≡ false = lt-leb (least_width c) (length (drop at s)) (simp length-drop (omega arith)) in
      rw z

  there : w ≤ rest → leb (least_width c) (length (drop at s)) ≡ true
  there h = le-leb (least_width c) (length (drop at s)) (simp length-drop (omega arith))

  pub least_value : (v : ℕ) → v ≡ number 256 0 (take w (drop at s)) → w ≤ rest → v ≤ c.most → Some (record { value = v; width = w }) ≡ least_read c (drop at s)
  unfolding least_read is_compact
  least_value v q h k =
      let n : v ≡ number 256 0 (take (least_width c) (drop at s)) = rw e at q in
      let y : leb (number 256 0 (take (least_width c) (drop at s))) c.most ≡ true = le-leb (number 256 0 (take (least_width c) (drop at s))) c.most (omega arith) in
      rw (there h, y, ← n, ← e)

  pub least_large : (v : ℕ) → v ≡ number 256 0 (take w (drop at s)) → w ≤ rest → c.most < v → None ≡ least_read c (drop at s)
  unfolding least_read is_compact
  least_large v q h k =
      let n : v ≡ number 256 0 (take (least_width c) (drop at s)) = rw e at q in
      let y : leb (number 256 0 (take (least_width c) (drop at s))) c.most ≡ false = lt-leb (number 256 0 (take (least_width c) (drop at s))) c.most (omega arith) in
      rw (there h, y)

-- m is the compact number, if there is one
module _ (c : Compact) (l : List ℕ) (m : Option Number) (e : m ≡ least_read c l) where
  pub read_compact : (n : Number) → m ≡ Some n → Ok n ≡ compact_read c l
  unfolding least_read compact_read
  read_compact n h =
      pick_cases (is_compact c l) _ _ (Some n) (sym e ∙ h)
      (λ t q. rw t (cc))
      (λ t q. absurd_number (cc))

  pub read_other : (r : Read) → m ≡ None → r ≡ read_as c.layout.form l → r ≡ compact_read c l
  unfolding least_read compact_read
  read_other r h q =
      pick_cases (is_compact c l) _ _ None (sym e ∙ h)
      (λ t p. absurd_number (cc))
      (λ t p. rw t q)

-- ---- a number is written

compact_digits : (c : Compact) (n w : ℕ) → w ≡ least_width c → n ≤ c.most → compact_bytes c n ≡ digits 256 w n
unfolding compact_bytes
compact_digits c n w e h = rw (le-leb n c.most h, e)

pub width_compact : (c : Compact) (n w : ℕ) → w ≡ least_width c → n ≤ c.most → w ≡ length (compact_bytes c n)
width_compact c n w e h = rw (compact_digits c n w e h) (sym (length_digits 256 w n))

pub some_compact : (c : Compact) (n w : ℕ) → w ≡ least_width c → n ≤ c.most → Some w ≡ pick (holds c n) (Some (length (compact_bytes c n))) None
unfolding holds
some_compact c n w e h = rw (le-leb n c.most h) (ap (λ (x : ℕ). Some x) (width_compact c n w e h))

pub width_large : (c : Compact) (n w : ℕ) → w ≡ pick (leb n (largest_of c.layout.form)) (length (written c.layout.form n)) 0 → c.most < n → w ≡ length (compact_bytes c n)
unfolding compact_bytes
width_large c n w e h =
    rw (lt-leb n c.most h) (test_cases (leb n (largest_of c.layout.form)) (λ t. rw t (rw t at e)) (λ t. rw t (rw t at e)))

pub held_width_large : (c : Compact) (n : ℕ) (r : Option ℕ) → r ≡ pick (leb n (largest_of c.layout.form)) (Some (length (written c.layout.form n))) None → c.most < n
    → r ≡ pick (holds c n) (Some (length (compact_bytes c n))) None
unfolding holds compact_bytes
held_width_large c n r e h =
    rw (lt-leb n c.most h) (test_cases (leb n (largest_of c.layout.form)) (λ t. rw t (rw t at e)) (λ t. rw t (rw t at e)))

module _ (c : Compact) (d : List ℕ) (at n room w : ℕ) (e : w ≡ least_width c) (f : room ≡ length d - at) (h : n ≤ c.most) where
  pub compact_kept : room < w → Placed d at (compact_bytes c n) d at
  compact_kept k = put_kept d at (compact_bytes c n) (omega (arith, width_compact c n w e h))

  pub compact_put : (x : List ℕ) → w ≤ room → x ≡ pasted d at (digits 256 w n) → Placed d at (compact_bytes c n) x (at + w)
  compact_put x k b =
      put_made d at (compact_bytes c n) (omega (arith, width_compact c n w e h, least_some c)) x (at + w) (rw (← width_compact c n w e h)) (rw (compact_digits c n w e h) b)

-- a number above the compact ones, as its layout has it
pub large_put : (c : Compact) (d x : List ℕ) (at n next : ℕ) → c.most < n → Placed d at (held_bytes c.layout.form n) x next → Placed d at (compact_bytes c n) x next
unfolding compact_bytes held_bytes
large_put c d x at n next h p = rw (lt-leb n c.most h) p

-- where the write answers no next position, the position stays
pub put_told : (f : Form) (d x : List ℕ) (at n : ℕ) (r : Result ℕ WriteError) (next : ℕ) → Wrote f at n d x r → next ≡ result_unwrap_or r at
    → Placed d at (held_bytes f n) x next
unfolding held_bytes
put_told f d x at n (Ok end) next w e =
    let q : writing f at n (length d) ≡ Ok end = sym w.answer in
    let t = next_told f at n (length d) end q in
    rw (e, held_written f n t.0) (put_made d at (written f n) (next_room f at n (length d) end q) x end t.1 (w.bytes ∙ ap (leaves f at n d) q))
put_told f d x at n (Err TooLarge) next w e =
    let q : writing f at n (length d) ≡ Err TooLarge = sym w.answer in
    let k : largest_of f < n = large_told f at n (length d) q in
    let b : x ≡ d = w.bytes ∙ ap (leaves f at n d) q in
    rw (e, lt-leb n (largest_of f) k, b) (put_none d at)
put_told f d x at n (Err NoRoom) next w e =
    let q : writing f at n (length d) ≡ Err NoRoom = sym w.answer in
    let t = no_room_told f at n (length d) q in
    let b : x ≡ d = w.bytes ∙ ap (leaves f at n d) q in
    rw (e, held_written f n t.0, b) (put_kept d at (written f n) t.1)

-- ---- one, two or four bytes are read

-- ---- they are written

ones : (n : ℕ) → n / 1 % 256 ≡ n % 256
ones n = omega arith

pub one_put : (w n at : ℕ) (d : List ℕ) → w ≡ 1 → at + w ≤ length d → set d at (n % 256) ≡ pasted d at (digits 256 w n)
one_put w n at d e h = rw (e, ones n) (set_is_pasted d at (n % 256) (omega arith))

two_set : (at a b : ℕ) (d : List ℕ) → at + 2 ≤ length d → set (set d at a) (at + 1) b ≡ pasted d at (a ∷ b ∷ [])
two_set at a b d h =
    let s : set d at a ≡ pasted d at (a ∷ []) = set_is_pasted d at a (omega arith) in
    rw s (set_after d at (a ∷ []) b (omega arith))

pub two_put : (w n at : ℕ) (d : List ℕ) → w ≡ 2 → at + w ≤ length d → set (set d at (n / 256 % 256)) (at + 1) (n % 256) ≡ pasted d at (digits 256 w n)
two_put w n at d e h = rw (e, ones n) (two_set at (n / 256 % 256) (n % 256) d (omega arith))

-- ---- four of them

module _ (w at : ℕ) (o : OneTwoFour w) (p : w ≡ 1 → ⊥) (q : w ≡ 2 → ⊥) where
  pub four_put : (n : ℕ) (d : List ℕ) → at + w ≤ length d
      → set (set (set (set d at (n / 16777216 % 256)) (at + 1) (n / 65536 % 256)) (at + 2) (n / 256 % 256)) (at + 3) (n % 256) ≡ pasted d at (digits 256 w n)
  four_put n d h =
      let e : w ≡ 4 = o p q in
      let s : set (set d at (n / 16777216 % 256)) (at + 1) (n / 65536 % 256) ≡ pasted d at (n / 16777216 % 256 ∷ n / 65536 % 256 ∷ []) =
      two_set at (n / 16777216 % 256) (n / 65536 % 256) d (omega arith) in
      let t : set (pasted d at (n / 16777216 % 256 ∷ n / 65536 % 256 ∷ [])) (at + 2) (n / 256 % 256)
      ≡ pasted d at (n / 16777216 % 256 ∷ n / 65536 % 256 ∷ n / 256 % 256 ∷ []) =
      set_after d at (n / 16777216 % 256 ∷ n / 65536 % 256 ∷ []) (n / 256 % 256) (omega arith) in
      let u : set (pasted d at (n / 16777216 % 256 ∷ n / 65536 % 256 ∷ n / 256 % 256 ∷ [])) (at + 3) (n % 256)
      ≡ pasted d at (n / 16777216 % 256 ∷ n / 65536 % 256 ∷ n / 256 % 256 ∷ n % 256 ∷ []) =
      set_after d at (n / 16777216 % 256 ∷ n / 65536 % 256 ∷ n / 256 % 256 ∷ []) (n % 256) (omega arith) in
      rw (e, ones n, s, t, u)

-- ---- four bytes, or fewer

pub four_missing : (s : List ℕ) → length s < 4 → FourBytes s 0
four_missing s h = record { is = sym (four_none s h); small = omega arith }

pub four_found : (s : List ℕ) (r : ℕ) → ((i : ℕ) → Fits w8 (get_or s i 0)) → r ≡ number 256 0 (take 4 (drop 0 s)) → 4 ≤ length s → FourBytes s r
four_found s r b q h =
    let m : number 256 0 (take 4 s) < 256 ^ 4 = part_below 4 s (λ i. (b i).fits) h in
    record { is = q ∙ sym (four_bytes_law s h); small = omega arith }
