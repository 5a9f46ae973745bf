-- Module `slots`, and what the functions over slots need of them: each fact in the shape of its need.
use mathlib.Core.Path.{◌≡◌, refl, sym, ◌∙◌}
use mathlib.Core.List.{List, [], ◌∷◌, ◌++◌, append-nil}
use Prim.Native.Nat.{ℕ, ◌+◌, ◌-◌, ◌*◌, ◌<◌, ◌≤◌}
use native.Mathlib.Omega.{arith}
use mir.Val.{Fits}
use mir.Syntax.{w64}
use lib.Dec.{leb}
use lib.ListN.{length, take, drop, set, length-set, length-drop, drop_of_length-le}
use lib.Seq.{drop-drop, take_all, length-take-le}
use borrow.Author.Tests.{le-leb}
use Rattle.klv.specs.Pick.{pick, both}
use Rattle.klv.specs.Bytes.{pasted}
use Rattle.klv.proofs.Paste.{pasted_is, set_after, set_is_pasted}
use Rattle.groups.specs.Arrays.{Put}
use Rattle.groups.specs.Slots.{Held, Holding, SameSpans, Spanned, Spanning, held_offset, held_size, held_value}
use Rattle.groups.proofs.slots.HeldItems.{value_size}
use Rattle.groups.proofs.tables.TableLoops.{key_part_law}
use Rattle.groups.proofs.write.Totals.{third_room, parts_put}

-- ---- what the arrays hold

pub key_held : (keys : List ℕ) (i : ℕ) (k : List ℕ) → k ≡ take (16 * i + 16 - 16 * i) (drop (16 * i) keys) → k ≡ take 16 (drop (16 * i) keys)
key_held keys i k e = key_part_law (drop (16 * i) keys) (16 * i + 16 - 16 * i) k (omega arith) e

-- a key over a part of a slice
pub key_pasted : (d y key : List ℕ) (i : ℕ) → y ≡ key → length key ≡ 16 → take (16 * i) d ++ (y ++ drop (16 * i + 16 - 16 * i) (drop (16 * i) d)) ≡ pasted d (16 * i) key
key_pasted d y key i e l =
    let p : 16 * i + 16 - 16 * i ≡ 16 = omega arith in
    let t : 16 * i + 16 ≡ 16 * i + length key = omega arith in
    rw (p, e, drop-drop 16 (16 * i) d, t) (sym (pasted_is d (16 * i) key))

-- a part of one slice over a part of another
pub part_put : (d x y s : List ℕ) (at from n : ℕ)
    → y ≡ pick (both (leb n (length (take (at + n - at) (drop at d)))) (leb n (length (take (from + n - from) (drop from s))))) (pasted (take (at + n - at) (drop at d)) 0 (take n (take (from + n - from) (drop from s)))) (take (at + n - at) (drop at d))
    → x ≡ take at d ++ (y ++ drop (at + n - at) (drop at d)) → at + n ≤ length d → from + n ≤ length s → Put d at (take n (drop from s)) x (at + n)
part_put d x y s at from n e f a b =
    let v : List ℕ = take n (drop from s) in
    let p : at + n - at ≡ n = omega arith in
    let q : from + n - from ≡ n = omega arith in
    let lv : length (take n (drop from s)) ≡ n = length-take-le n (drop from s) (simp length-drop (omega arith)) in
    let lu : length (take n (drop at d)) ≡ n = length-take-le n (drop at d) (simp length-drop (omega arith)) in
    let w : take n (take n (drop from s)) ≡ take n (drop from s) = take_all n (take n (drop from s)) (omega arith) in
    let g : y ≡ pasted (take n (drop at d)) 0 (take n (drop from s)) =
    rw (le-leb n (length (take n (drop at d))) (omega arith), le-leb n (length (take n (drop from s))) (omega arith), w) at (rw (p, q) at e) in
    let z : drop (0 + length (take n (drop from s))) (take n (drop at d)) ≡ [] = drop_of_length-le (take n (drop at d)) {i = 0 + length (take n (drop from s))} (omega arith) in
    let u : y ≡ take n (drop from s) = g ∙ pasted_is (take n (drop at d)) 0 (take n (drop from s)) ∙ rw z (append-nil (take n (drop from s))) in
    let t : at + n ≡ at + length (take n (drop from s)) = omega arith in
    let r : x ≡ pasted d at (take n (drop from s)) =
    f ∙ rw (p, u, drop-drop n at d, t) (sym (pasted_is d at (take n (drop from s)))) in
    record { end = t; bytes = r }

pub held_small : (slots : List ℕ) (j r : ℕ) → Held slots j r → r ≤ 4294967295
held_small slots j r h = h.small

-- ---- four numbers written

pub numbers_stored : (d : List ℕ) (at a b c e : ℕ) → at + 4 ≤ length d
    → set (set (set (set d at a) (at + 1) b) (at + 2) c) (at + 3) e ≡ pasted d at (a ∷ b ∷ c ∷ e ∷ [])
numbers_stored d at a b c e h =
    let p : set d at a ≡ pasted d at (a ∷ []) = set_is_pasted d at a (omega arith) in
    let q : set (pasted d at (a ∷ [])) (at + 1) b ≡ pasted d at (a ∷ b ∷ []) = set_after d at (a ∷ []) b (omega arith) in
    let r : set (pasted d at (a ∷ b ∷ [])) (at + 2) c ≡ pasted d at (a ∷ b ∷ c ∷ []) = set_after d at (a ∷ b ∷ []) c (omega arith) in
    rw (p, q, r) (set_after d at (a ∷ b ∷ c ∷ []) e (omega arith))

pub number_second : (at a : ℕ) (d : List ℕ) → at + 4 ≤ length d → at + 1 < length (set d at a)
number_second at a d h = rw (length-set d at a) (omega arith)

pub number_third : (at a b : ℕ) (d : List ℕ) → at + 4 ≤ length d → at + 2 < length (set (set d at a) (at + 1) b)
number_third at a b d h = rw (length-set (set d at a) (at + 1) b, length-set d at a) (omega arith)

pub number_last : (at a b c : ℕ) (d : List ℕ) → at + 4 ≤ length d → at + 3 < length (set (set (set d at a) (at + 1) b) (at + 2) c)
number_last at a b c d h = rw (length-set (set (set d at a) (at + 1) b) (at + 2) c, length-set (set d at a) (at + 1) b, length-set d at a) (omega arith)

pub numbers_length : (at a b c e : ℕ) (d : List ℕ) → length (set (set (set (set d at a) (at + 1) b) (at + 2) c) (at + 3) e) ≡ length d
numbers_length at a b c e d = rw (length-set (set (set (set d at a) (at + 1) b) (at + 2) c) (at + 3) e, length-set (set (set d at a) (at + 1) b) (at + 2) c, length-set (set d at a) (at + 1) b, length-set d at a)

-- ---- sums and indices

pub key_at_fits : (i : ℕ) → i ≤ 255 → Fits w64 (16 * i)
key_at_fits i h = omega arith

pub slot_at_fits : (i : ℕ) → i ≤ 255 → Fits w64 (4 * i)
slot_at_fits i h = omega arith

pub slot_number_fits : (i j : ℕ) → i ≤ 255 → j ≤ 3 → Fits w64 (4 * i + j)
slot_number_fits i j h k = omega arith

pub item_place : (n i : ℕ) → n ≤ 256 → i < n → i ≤ 255
item_place n i h l = omega arith

pub item_key_law : (n i l : ℕ) → 16 * n ≤ l → i < n → 16 * i + 16 ≤ l
item_key_law n i l h k = omega arith

pub item_slot : (n i l : ℕ) → 4 * n ≤ l → i < n → 4 * i + 4 ≤ l
item_slot n i l h k = omega arith

pub offset_in : (i l : ℕ) → 4 * i + 4 ≤ l → 4 * i < l
offset_in i l h = omega arith

pub size_in : (i l : ℕ) → 4 * i + 4 ≤ l → 4 * i + 1 < l
size_in i l h = omega arith

pub tag_in : (i l : ℕ) → 4 * i + 4 ≤ l → 4 * i + 3 < l
tag_in i l h = omega arith

-- ---- one of n items

pub item_spanned : (n i : ℕ) (slots s : List ℕ) → Spanning n slots s → i < n → Spanned i slots s
item_spanned n i slots s h l = record { place = omega (arith, h.few); numbers = omega (arith, h.slots_in); inside = h.inside i l }

pub spanned_place : (i : ℕ) (slots s : List ℕ) → Spanned i slots s → i ≤ 255
spanned_place i slots s h = h.place

pub spanned_numbers : (i : ℕ) (slots s : List ℕ) → Spanned i slots s → 4 * i + 4 ≤ length slots
spanned_numbers i slots s h = h.numbers

pub value_inside : (i : ℕ) (slots s : List ℕ) (x y : ℕ) → Spanned i slots s → Held slots (4 * i) x → Held slots (4 * i + 1) y → x + y ≤ length s
value_inside i slots s x y h a b =
    let p : x ≡ held_offset slots i = a.is in
    let q : y ≡ held_size slots i = b.is in
    let r : held_offset slots i + held_size slots i ≤ length s = h.inside in
    omega arith

-- ---- an item of three parts, the last of which is its value

value_length : (i : ℕ) (slots s : List ℕ) → Spanned i slots s → length (held_value slots s i) ≡ held_size slots i
value_length i slots s h = value_size slots s i h.inside

module _ (a b : List ℕ) (i at : ℕ) (slots s d : List ℕ) (h : Spanned i slots s) (room : at + length (a ++ (b ++ held_value slots s i)) ≤ length d) where
  pub value_room : (x z : List ℕ) (y w size : ℕ) → Held slots (4 * i + 1) size → Put d at a x y → Put x y b z w → w + size ≤ length z
  value_room x z y w size c p q =
      let e : size ≡ held_size slots i = c.is in
      omega (arith, third_room a b (held_value slots s i) at d room x z y w p q, value_length i slots s h)

  pub item_put : (x z v : List ℕ) (y w next offset size : ℕ) → Held slots (4 * i) offset → Held slots (4 * i + 1) size → Put d at a x y → Put x y b z w
      → Put z w (take size (drop offset s)) v next → Put d at (a ++ (b ++ held_value slots s i)) v next
  item_put x z v y w next offset size c e p q r = parts_put a b (held_value slots s i) at d room x z v y w next p q (rw (c.is, e.is) at r)

-- ---- slots that are the same but for the tags

pub same_all : (d : List ℕ) → SameSpans d d
same_all d = record { size = refl; offsets = λ i. refl; sizes = λ i. refl }

pub spanning_same : (n : ℕ) (d x s : List ℕ) → SameSpans d x → Spanning n d s → Spanning n x s
spanning_same n d x s e h =
    record {
      few = h.few;
      slots_in = rw e.size h.slots_in;
      inside = λ i l. rw (e.offsets i, e.sizes i) (h.inside i l);
      small = h.small;
    }

pub holding_same : (n : ℕ) (keys d x s : List ℕ) → SameSpans d x → Holding n keys d s → Holding n keys x s
holding_same n keys d x s e h = record { keys_in = h.keys_in; spans = spanning_same n d x s e h.spans }

pub held_few : (n i : ℕ) (keys slots s : List ℕ) → Holding n keys slots s → i < n → held_size slots i ≤ 65536
held_few n i keys slots s h l = omega (arith, h.spans.inside i l, h.spans.small)
