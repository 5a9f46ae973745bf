-- The other loops of module `key` (see HalfLoops): each fact in the shape of its need.
use mathlib.Core.Path.{◌≡◌, refl, ap, ◌∙◌}
use mathlib.Core.List.{List, []}
use mathlib.Core.Bool.{Bool, true, false}
use Prim.Native.Nat.{ℕ, suc, ◌+◌, ◌-◌, ◌<◌, ◌≤◌, min}
use native.Mathlib.Omega.{arith}
use native.Mathlib.Nat.{add-zero}
use lib.Dec.{leb, eqb}
use mir.Val.{Fits}
use mir.Syntax.{w8, w64}
use lib.ListN.{length, get_or, take, drop, length-take, length-drop, drop_of_length-le}
use lib.Seq.{get_or-drop, get_or-take, take_all}
use borrow.Author.Tests.{eq-eqb, ne_eqb, lt-ltb, le-ltb}
use Rattle.std.specs.Prelude.{Some, None}
use Rattle.klv.specs.Pick.{pick}
use Rattle.klv.specs.Key.{before_zero, label_length, key_at}
use Rattle.klv.specs.Number.{little, spread}
use Rattle.klv.proofs.Lists.{drop_step}
use Rattle.klv.proofs.LittleLaws.{length_spread}
use Rattle.klv.proofs.HalfLoops.{last_spread}
use Rattle.klv.proofs.LabelLaws.{before_most}

-- ---- the bytes before the first word 00, of the n bytes from `at` on

pub record Labelling (s : List ℕ) (at most : ℕ) (inside : Bool) (i : ℕ) : Type 0 where
  pub within : i ≤ length (take most (drop at s))
  pub rest : i + before_zero inside (drop i (take most (drop at s))) ≡ before_zero false (take most (drop at s))

part_length : (s : List ℕ) (at most n x : ℕ) → n ≡ min most x → x ≡ length s - at → n ≡ length (take most (drop at s))
part_length s at most n x e f = rw (length-take, length-drop, ← f) e

part_byte : (s : List ℕ) (at most i : ℕ) → i < most → i < length s - at → get_or (take most (drop at s)) i 0 ≡ get_or s (at + i) 0
part_byte s at most i h l = get_or-take most (drop at s) i 0 h ∙ get_or-drop at s i 0

before_inside : (l : List ℕ) (i : ℕ) → i < length l → before_zero true (drop i l) ≡ suc (before_zero (leb 0x80 (get_or l i 0)) (drop (i + 1) l))
unfolding before_zero
before_inside l i h = rw (drop_step l i h)

before_begin : (l : List ℕ) (i : ℕ) → i < length l
    → before_zero false (drop i l) ≡ pick (eqb (get_or l i 0) 0x00) 0 (suc (before_zero (leb 0x80 (get_or l i 0)) (drop (i + 1) l)))
unfolding before_zero
before_begin l i h = rw (drop_step l i h)

pub labelling_inside : (s : List ℕ) (at most n x : ℕ) (inside next : Bool) (i : ℕ) → Labelling s at most inside i → next ≡ leb 0x80 (get_or s (at + i) 0)
    → n ≡ min most x → x ≡ length s - at → i < n → inside ≡ true → Labelling s at most next (i + 1)
labelling_inside s at most n x inside next i p g e f h t =
    let l : List ℕ = take most (drop at s) in
    let z : n ≡ length (take most (drop at s)) = part_length s at most n x e f in
    let b : get_or (take most (drop at s)) i 0 ≡ get_or s (at + i) 0 = part_byte s at most i (omega arith) (omega arith) in
    let r : i + suc (before_zero next (drop (i + 1) (take most (drop at s)))) ≡ before_zero false (take most (drop at s)) =
    rw g (rw (t, before_inside (take most (drop at s)) i (omega arith), b) at p.rest) in
    record { within = omega arith; rest = omega arith }

pub labelling_begin : (s : List ℕ) (at most n x : ℕ) (inside next : Bool) (i : ℕ) → Labelling s at most inside i → next ≡ leb 0x80 (get_or s (at + i) 0)
    → n ≡ min most x → x ≡ length s - at → i < n → inside ≡ false → (get_or s (at + i) 0 ≡ 0x00 → ⊥) → Labelling s at most next (i + 1)
labelling_begin s at most n x inside next i p g e f h t a =
    let z : n ≡ length (take most (drop at s)) = part_length s at most n x e f in
    let b : get_or (take most (drop at s)) i 0 ≡ get_or s (at + i) 0 = part_byte s at most i (omega arith) (omega arith) in
    let r : i + suc (before_zero next (drop (i + 1) (take most (drop at s)))) ≡ before_zero false (take most (drop at s)) =
    rw g (rw (t, before_begin (take most (drop at s)) i (omega arith), b, ne_eqb (get_or s (at + i) 0) 0x00 a) at p.rest) in
    record { within = omega arith; rest = omega arith }

pub labelling_stop : (s : List ℕ) (at most n x : ℕ) (inside : Bool) (i : ℕ) → Labelling s at most inside i → n ≡ min most x → x ≡ length s - at → i < n
    → inside ≡ false → get_or s (at + i) 0 ≡ 0x00 → i ≡ before_zero false (take most (drop at s))
labelling_stop s at most n x inside i p e f h t a =
    let z : n ≡ length (take most (drop at s)) = part_length s at most n x e f in
    let b : get_or (take most (drop at s)) i 0 ≡ get_or s (at + i) 0 = part_byte s at most i (omega arith) (omega arith) in
    rw (t, before_begin (take most (drop at s)) i (omega arith), b, eq-eqb (get_or s (at + i) 0) 0x00 a, add-zero) at p.rest

before_none : (inside : Bool) → before_zero inside [] ≡ 0
unfolding before_zero
before_none true = refl
before_none false = refl

pub labelling_end : (s : List ℕ) (at most n x : ℕ) (inside : Bool) (i : ℕ) → Labelling s at most inside i → n ≡ min most x → x ≡ length s - at → n ≤ i
    → n ≡ before_zero false (take most (drop at s))
labelling_end s at most n x inside i p e f h =
    let w : i ≤ length (take most (drop at s)) = p.within in
    let z : n ≡ length (take most (drop at s)) = part_length s at most n x e f in
    let q : i ≡ n = omega arith in
    let r : i + 0 ≡ before_zero false (take most (drop at s)) =
    rw (drop_of_length-le (take most (drop at s)) (let g : length (take most (drop at s)) ≤ i = omega arith in g), before_none inside) at p.rest in
    omega arith

pub label_is : (k : List ℕ) (n : ℕ) → n ≡ before_zero false (take 8 (drop 8 k)) → length k ≡ 16 → 8 + n ≡ label_length k
unfolding label_length
label_is k n e h = let q : take 8 (drop 8 k) ≡ drop 8 k = take_all 8 (drop 8 k) (simp length-drop (omega arith)) in rw (e, q)

pub label_fits : (l : List ℕ) (n : ℕ) → n ≡ before_zero false (take 8 l) → Fits w64 (8 + n)
label_fits l n e = omega (arith, before_most false (take 8 l), length-take 8 l)

-- the same from the number of bytes 9 to 16
pub label_told_law : (k : List ℕ) (x n : ℕ) → x ≡ little (drop 8 k) → n ≡ before_zero false (spread 8 x) → length k ≡ 16 → ((i : ℕ) → Fits w8 (get_or k i 0)) → 8 + n ≡ label_length k
unfolding label_length
label_told_law k x n e f l b = let q : n ≡ before_zero false (drop 8 k) = rw (e, last_spread k l b) at f in rw q

pub label_told_fits : (x n : ℕ) → n ≡ before_zero false (spread 8 x) → Fits w64 (8 + n)
label_told_fits x n e = omega (arith, before_most false (spread 8 x), length_spread 8 x)

-- ---- sixteen bytes copied out of a slice

pub key_whole : (s : List ℕ) (at n : ℕ) (k : List ℕ) → k ≡ take (at + 16 - at) (drop at s) → n ≡ length s - at → 16 ≤ n → Some k ≡ key_at (drop at s)
unfolding key_at
key_whole s at n k p e f =
    let q : at + 16 - at ≡ 16 = omega arith in
    let z : k ≡ take 16 (drop at s) = rw q at p in
    rw (length-drop at s, le-ltb (length s - at) 16 (omega arith)) (ap (λ (b : List ℕ). Some b) z)

pub key_cut : (s : List ℕ) (at n : ℕ) → n ≡ length s - at → n < 16 → None ≡ key_at (drop at s)
unfolding key_at
key_cut s at n e h = rw (length-drop at s, lt-ltb (length s - at) 16 (omega arith))
