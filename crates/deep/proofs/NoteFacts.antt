-- The sizes of nested sets, stored one after another.
use mathlib.Core.Path.{◌≡◌, refl, ap, ◌∙◌}
use mathlib.Core.List.{List, [], ◌∷◌, ◌++◌}
use Prim.Native.Nat.{ℕ, zero, suc, ◌+◌, ◌<◌}
use native.Mathlib.Omega.{arith}
use native.Mathlib.Nat.{add-zero}
use lib.ListN.{length, get_or, set, length-set}
use lib.Seq.{get_or-set_same, get_or-set_other}
use Rattle.deep.specs.Walk.{Noted, noted}

pub noted_none : (d : List ℕ) (k : ℕ) → noted d k [] ≡ d
unfolding noted
noted_none d k = refl

pub noted_more : (d : List ℕ) (k x : ℕ) (xs : List ℕ) → noted d k (x ∷ xs) ≡ noted (set d k x) (suc k) xs
unfolding noted
noted_more d k x xs = refl

-- one part after another
pub noted_parts : (d : List ℕ) (k : ℕ) (a b : List ℕ) → noted d k (a ++ b) ≡ noted (noted d k a) (k + length a) b
unfolding noted
noted_parts d k [] b = rw (add-zero k)
noted_parts d k (x ∷ a) b = noted_parts (set d k x) (suc k) a b ∙ ap (λ (n : ℕ). noted (noted (set d k x) (suc k) a) n b) (let e : suc k + length a ≡ k + suc (length a) = omega arith in e)

-- two stores at two places
pub set_apart : (d : List ℕ) (i j x y : ℕ) → i < j → set (set d j y) i x ≡ set (set d i x) j y
set_apart [] i j x y h = refl
set_apart (a ∷ d) i zero x y h = absurd (let f : ⊥ = omega arith in f)
set_apart (a ∷ d) zero (suc j) x y h = refl
set_apart (a ∷ d) (suc i) (suc j) x y h = ap (λ (l : List ℕ). a ∷ l) (set_apart d i j x y (omega arith))

-- a store before those that follow it, or after them
pub noted_last : (d : List ℕ) (k j x : ℕ) (l : List ℕ) → k < j → set (noted d j l) k x ≡ noted (set d k x) j l
unfolding noted
noted_last d k j x [] h = refl
noted_last d k j x (y ∷ l) h = noted_last (set d j y) k (suc j) x l (omega arith) ∙ ap (λ (m : List ℕ). noted m (suc j) l) (set_apart d k j x y h)

pub length_noted : (d : List ℕ) (k : ℕ) (l : List ℕ) → length (noted d k l) ≡ length d
unfolding noted
length_noted d k [] = refl
length_noted d k (x ∷ l) = length_noted (set d k x) (suc k) l ∙ length-set d k x

-- ---- numbers that were stored stand there

noted_before : (d : List ℕ) (k : ℕ) (l : List ℕ) (i : ℕ) → i < k → get_or (noted d k l) i 0 ≡ get_or d i 0
unfolding noted
noted_before d k [] i h = refl
noted_before d k (x ∷ xs) i h =
    noted_before (set d k x) (suc k) xs i (omega arith) ∙ get_or-set_other d k i x 0 (λ e. let f : ⊥ = omega arith in f)

noted_each : (d : List ℕ) (k : ℕ) (l : List ℕ) (i : ℕ) → i < length l → k + i < length d → get_or (noted d k l) (k + i) 0 ≡ get_or l i 0
unfolding noted
noted_each d k [] i h j = absurd (let f : ⊥ = omega arith in f)
noted_each d k (x ∷ xs) zero h j =
    let z : k + zero ≡ k = omega arith in
    ap (λ (n : ℕ). get_or (noted (set d k x) (suc k) xs) n 0) z ∙ noted_before (set d k x) (suc k) xs k (omega arith) ∙ get_or-set_same d k x 0 (omega arith)
noted_each d k (x ∷ xs) (suc i) h j =
    let z : k + suc i ≡ suc k + i = omega arith in
    ap (λ (n : ℕ). get_or (noted (set d k x) (suc k) xs) n 0) z ∙ noted_each (set d k x) (suc k) xs i (omega arith) (omega (arith, length-set d k x))

pub noted_notes : (d l : List ℕ) (k : ℕ) → Noted (noted d k l) k l
noted_notes d l k = record { each = λ i h j. noted_each d k l i h (omega (arith, length_noted d k l)) }
