-- Where the values of a group's entries stand: within the group, one after another.
use mathlib.Core.Path.{◌≡◌, refl}
use mathlib.Core.List.{List, [], ◌∷◌}
use Prim.Native.Nat.{ℕ, zero, suc, ◌+◌, ◌*◌, ◌<◌, ◌≤◌}
use native.Mathlib.Omega.{arith}
use lib.ListN.{length, get_or, take, drop, length-drop}
use lib.Seq.{drop-drop}
use Rattle.groups.specs.Refusal.{ok}
use Rattle.groups.specs.Read.{Entry, size, read}
use Rattle.groups.specs.Listing.{numbers_from, start}
use Rattle.groups.proofs.slots.Filling.{Fills, read_body_law, group_fills}

-- ---- the values

-- the values of entries, in order
abbrev pub values : List Entry → List (List ℕ)
values [] = []
values (e ∷ es) = e.value ∷ values es

-- each value stands where the listing says, the first entry beginning at `at`
abbrev pub InPlace : List ℕ → ℕ → List Entry → Type 0
InPlace s at [] = Unit
InPlace s at (e ∷ es) = (e.value ≡ take (length e.value) (drop (at + e.label + e.width) s)) × InPlace s (at + size e) es

fills_place : (s : List ℕ) (at : ℕ) (es : List Entry) → Fills (drop at s) es → InPlace s at es
fills_place s at [] h = tt
fills_place s at (e ∷ es) h =
    let a : at + (e.label + e.width) ≡ at + e.label + e.width = omega arith in
    let v : e.value ≡ take (length e.value) (drop (at + (e.label + e.width)) s) = rw drop-drop at h.0.value in
    (rw a at v, fills_place s (at + size e) es (rw (drop-drop (size e) at s) at h.1))

pub values_stand : (tags packs s : List ℕ) (es : List Entry) → read tags packs s ≡ ok es → InPlace s (start s) es
values_stand tags packs s es e = fills_place s (start s) es (group_fills tags packs s es e)

-- ---- the records: three numbers for each entry

-- the offset of a value: of each record the first
abbrev pub offset_at : ℕ → List Entry → ℕ → ℕ
offset_at at es i = get_or (numbers_from at es) (3 * i) 0

-- its length: the second
abbrev pub length_at : ℕ → List Entry → ℕ → ℕ
length_at at es i = get_or (numbers_from at es) (3 * i + 1) 0

-- the depth of the set that the item stands in: the third
abbrev pub depth_at : ℕ → List Entry → ℕ → ℕ
depth_at at es i = get_or (numbers_from at es) (3 * i + 2) 0

pub length_numbers : (at : ℕ) (es : List Entry) → length (numbers_from at es) ≡ 3 * length es
unfolding numbers_from
length_numbers at [] = refl
length_numbers at (e ∷ es) = omega (arith, length_numbers (at + size e) es)

-- the first record, and those after it
pub offset_first : (at : ℕ) (e : Entry) (es : List Entry) → offset_at at (e ∷ es) 0 ≡ at + e.label + e.width
unfolding numbers_from
offset_first at e es = refl

pub length_first : (at : ℕ) (e : Entry) (es : List Entry) → length_at at (e ∷ es) 0 ≡ length e.value
unfolding numbers_from
length_first at e es = refl

pub offset_later : (at : ℕ) (e : Entry) (es : List Entry) (i : ℕ) → offset_at at (e ∷ es) (suc i) ≡ offset_at (at + size e) es i
unfolding numbers_from
offset_later at e es i = let h : 3 * suc i ≡ suc (suc (suc (3 * i))) = omega arith in rw h

pub length_later : (at : ℕ) (e : Entry) (es : List Entry) (i : ℕ) → length_at at (e ∷ es) (suc i) ≡ length_at (at + size e) es i
unfolding numbers_from
length_later at e es i = let h : 3 * suc i + 1 ≡ suc (suc (suc (3 * i + 1))) = omega arith in rw h

-- nothing is opened: every item stands at depth 1
pub depth_one : (at : ℕ) (es : List Entry) (i : ℕ) → i < length es → depth_at at es i ≡ 1
unfolding numbers_from
depth_one at [] i l = absurd (let f : ⊥ = omega arith in f)
depth_one at (e ∷ es) zero l = refl
depth_one at (e ∷ es) (suc i) l = let h : 3 * suc i + 2 ≡ suc (suc (suc (3 * i + 2))) = omega arith in rw h (depth_one (at + size e) es i (omega arith))

fills_lies : (s : List ℕ) (at : ℕ) (e : Entry) (es : List Entry) → Fills (drop at s) (e ∷ es) → at ≤ length s → at + size e ≤ length s
fills_lies s at e es h a = omega (arith, h.0.lies, length-drop at s)

fills_later : (s : List ℕ) (at : ℕ) (e : Entry) (es : List Entry) → Fills (drop at s) (e ∷ es) → Fills (drop (at + size e) s) es
fills_later s at e es h = rw (drop-drop (size e) at s) at h.1

span_in : (s : List ℕ) (at : ℕ) (es : List Entry) (i : ℕ) → Fills (drop at s) es → at ≤ length s → i < length es → offset_at at es i + length_at at es i ≤ length s
span_in s at [] i h a l = absurd (let f : ⊥ = omega arith in f)
span_in s at (e ∷ es) zero h a l = rw (offset_first at e es, length_first at e es) (omega (arith, fills_lies s at e es h a))
span_in s at (e ∷ es) (suc i) h a l =
    rw (offset_later at e es i, length_later at e es i)
    (span_in s (at + size e) es i (fills_later s at e es h) (fills_lies s at e es h a) (omega arith))

span_from : (at : ℕ) (e : Entry) (es : List Entry) → at ≤ offset_at at (e ∷ es) 0
span_from at e es = rw (offset_first at e es) (omega arith)

-- each value ends before the next begins
pub span_rises : (at : ℕ) (es : List Entry) (i : ℕ) → suc i < length es → offset_at at es i + length_at at es i ≤ offset_at at es (suc i)
span_rises at [] i l = absurd (let f : ⊥ = omega arith in f)
span_rises at (e ∷ []) i l = absurd (let f : ⊥ = omega arith in f)
span_rises at (e ∷ f ∷ es) zero l =
    rw (offset_first at e (f ∷ es), length_first at e (f ∷ es), offset_later at e (f ∷ es) 0) (omega (arith, span_from (at + size e) f es))
span_rises at (e ∷ f ∷ es) (suc i) l =
    rw (offset_later at e (f ∷ es) i, length_later at e (f ∷ es) i, offset_later at e (f ∷ es) (suc i)) (span_rises (at + size e) (f ∷ es) i (omega arith))

-- and lies within the group
pub span_lies : (tags packs s : List ℕ) (es : List Entry) (i : ℕ) → read tags packs s ≡ ok es → i < length es → offset_at (start s) es i + length_at (start s) es i ≤ length s
span_lies tags packs s es i e l = span_in s (start s) es i (group_fills tags packs s es e) (read_body_law tags packs s es e).lies l

-- ---- what stands there

place_at : (s : List ℕ) (at : ℕ) (es : List Entry) (i : ℕ) → InPlace s at es → i < length es
    → get_or (values es) i [] ≡ take (length_at at es i) (drop (offset_at at es i) s)
place_at s at [] i h l = absurd (let f : ⊥ = omega arith in f)
place_at s at (e ∷ es) zero h l = rw (offset_first at e es, length_first at e es) h.0
place_at s at (e ∷ es) (suc i) h l = rw (offset_later at e es i, length_later at e es i) (place_at s (at + size e) es i h.1 (omega arith))

-- the bytes of a record are the item's value
pub value_at : (tags packs s : List ℕ) (es : List Entry) (i : ℕ) → read tags packs s ≡ ok es → i < length es
    → get_or (values es) i [] ≡ take (length_at (start s) es i) (drop (offset_at (start s) es i) s)
value_at tags packs s es i e l = place_at s (start s) es i (values_stand tags packs s es e) l
