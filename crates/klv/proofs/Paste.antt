-- Laws of `pasted`, one list written over another.
use mathlib.Core.Path.{◌≡◌, refl, sym, ap, ◌∙◌}
use mathlib.Core.List.{List, [], ◌∷◌, ◌++◌, append_assoc}
use Prim.Native.Nat.{ℕ, suc, ◌+◌, ◌<◌, ◌≤◌}
use native.Mathlib.Omega.{arith}
use native.Mathlib.Nat.{add-zero, add_assoc}
use native.Mathlib.Numerals.{add-one}
use lib.ListN.{length, get_or, take, drop, set, length-append, length-take, length-drop, take-append-drop}
use lib.Seq.{take-suc, append_snoc, set_at, length-take-le, drop_at, take_at, drop-drop}
use Rattle.klv.specs.Bytes.{pasted}

-- what it is, for callers
pub pasted_is : (d : List ℕ) (at : ℕ) (vs : List ℕ) → pasted d at vs ≡ take at d ++ (vs ++ drop (at + length vs) d)
unfolding pasted
pasted_is d at vs = refl

pub pasted_none : (d : List ℕ) (at : ℕ) → pasted d at [] ≡ d
unfolding pasted
pasted_none d at = rw add-zero (take-append-drop at d)

pub length_pasted : (d : List ℕ) (at : ℕ) (vs : List ℕ) → at + length vs ≤ length d → length (pasted d at vs) ≡ length d
unfolding pasted
length_pasted d at vs h = simp (length-append, length-take, length-drop) (omega arith)

-- one byte stored before what was written
pub set_pasted : (d : List ℕ) (p : ℕ) (vs : List ℕ) (v : ℕ) → p < length d → set (pasted d (p + 1) vs) p v ≡ pasted d p (v ∷ vs)
unfolding pasted
set_pasted d p vs v h =
    let e : p + suc (length vs) ≡ p + 1 + length vs = omega arith in
    let rest : List ℕ = vs ++ drop (p + 1 + length vs) d in
    rw (add-one p, take-suc d p 0, append_snoc, e, add-one p)
    (set_at (take p d) (get_or d p 0) (vs ++ drop (suc p + length vs) d) v p (length-take-le p d (omega arith)))

-- two parts written one after the other are one
pub pasted_pasted : (d : List ℕ) (at : ℕ) (us vs : List ℕ) → at + length us ≤ length d
    → pasted (pasted d at us) (at + length us) vs ≡ pasted d at (us ++ vs)
unfolding pasted
pasted_pasted d at us vs h =
    let lt : length (take at d) ≡ at = length-take-le at d (omega arith) in
    let lf : length (take at d ++ us) ≡ at + length us = simp (length-append, lt) in
    let r : List ℕ = drop (at + length us) d in
    let all : List ℕ = take at d ++ (us ++ r) in
    let e0 : all ≡ (take at d ++ us) ++ r = sym (append_assoc (take at d) us r) in
    let e1 : take (at + length us) all ≡ take at d ++ us = rw e0 (take_at (take at d ++ us) r (at + length us) lf) in
    let e2 : drop (at + length us) all ≡ r = rw e0 (drop_at (take at d ++ us) r (at + length us) lf) in
    let e3 : drop (at + length us + length vs) all ≡ drop (at + length us + length vs) d =
    sym (drop-drop (length vs) (at + length us) all) ∙ ap (drop (length vs)) e2 ∙ drop-drop (length vs) (at + length us) d in
    rw (e1, e3) (simp (append_assoc, length-append, add_assoc))

pub set_is_pasted : (d : List ℕ) (at v : ℕ) → at < length d → set d at v ≡ pasted d at (v ∷ [])
set_is_pasted d at v h = sym (ap (λ (x : List ℕ). set x at v) (pasted_none d (at + 1))) ∙ set_pasted d at [] v h

-- one byte stored after what was written
pub set_after : (d : List ℕ) (at : ℕ) (vs : List ℕ) (v : ℕ) → at + length vs < length d
    → set (pasted d at vs) (at + length vs) v ≡ pasted d at (vs ++ (v ∷ []))
set_after d at vs v h =
    set_is_pasted (pasted d at vs) (at + length vs) v (rw (length_pasted d at vs (omega arith)) h)
    ∙ pasted_pasted d at vs (v ∷ []) (omega arith)
