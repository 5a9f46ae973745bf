-- Laws of lists of bytes: `Bytes`, by which each element is below 256; `all_zero`, by which all are 00; `same`, by which
-- two lists are equal; and `common`, how many bytes they have in common.
use mathlib.Core.Path.{◌≡◌, refl, sym, ◌∙◌, subst}
use mathlib.Core.Logic.{◌↔◌}
use mathlib.Core.Bool.{true, false, false≢true}
use mathlib.Core.List.{List, [], ◌∷◌}
use Prim.Native.Nat.{ℕ, zero, suc, ◌+◌, ◌<◌, ◌≤◌}
use native.Mathlib.Omega.{arith}
use lib.Dec.{leb, eqb, leb-suc-suc}
use lib.ListN.{length, get_or, take, drop, replicate, get_or-replicate}
use lib.Seq.{get_or-drop}
use borrow.Author.Tests.{eqb-true, eq-eqb, le-leb, lt-leb}
use Rattle.klv.specs.Bytes.{Bytes, all_zero, same, common}
use Rattle.klv.specs.KeyText.{AllZero}
use Rattle.klv.proofs.Cases.{both_true, test_cases}

-- ---- each element is a byte

pub bytes_none : Bytes []
bytes_none zero = omega arith
bytes_none (suc i) = omega arith

pub bytes_cons : (b : ℕ) (l : List ℕ) → b < 256 → Bytes l → Bytes (b ∷ l)
bytes_cons b l h p zero = h
bytes_cons b l h p (suc i) = p i

pub bytes_rest : (b : ℕ) (l : List ℕ) → Bytes (b ∷ l) → Bytes l
bytes_rest b l p i = p (suc i)

pub bytes_take : (k : ℕ) (l : List ℕ) → Bytes l → Bytes (take k l)
bytes_take zero l p = bytes_none
bytes_take (suc k) [] p = bytes_none
bytes_take (suc k) (x ∷ l) p = bytes_cons x (take k l) (p 0) (bytes_take k l (bytes_rest x l p))

pub bytes_drop : (k : ℕ) (l : List ℕ) → Bytes l → Bytes (drop k l)
bytes_drop k l p i = rw get_or-drop (p (k + i))

-- ---- all bytes are 00

-- so many zeros pass the test
pub zeros_pass : (n : ℕ) → all_zero (replicate n 0x00) ≡ true
unfolding all_zero
zeros_pass zero = refl
zeros_pass (suc n) = zeros_pass n

-- a list that passes the test is zeros
pub all_zero_law : (l : List ℕ) → all_zero l ≡ true → l ≡ replicate (length l) 0x00
unfolding all_zero
all_zero_law [] e = refl
all_zero_law (b ∷ bs) e =
    let p = both_true (eqb b 0x00) (all_zero bs) e in
    cc (eqb-true b 0x00 p.0, all_zero_law bs p.1)

each_zero : (l : List ℕ) → all_zero l ≡ true → AllZero l
each_zero l e i h = subst (λ (x : List ℕ). get_or x i 0 ≡ 0x00) (sym (all_zero_law l e)) (get_or-replicate (length l) i 0x00 0 h)

zero_each : (l : List ℕ) → AllZero l → all_zero l ≡ true
unfolding all_zero
zero_each [] z = refl
zero_each (b ∷ bs) z = rw (eq-eqb b 0x00 (z 0 (omega arith))) (zero_each bs (λ i h. z (suc i) (omega arith)))

-- the test says that each byte is 00
pub all_zero_iff : (l : List ℕ) → (all_zero l ≡ true) ↔ AllZero l
all_zero_iff l = (each_zero l, zero_each l)

-- ---- equal bytes

-- a list is the same as itself
pub same_refl : (a : List ℕ) → same a a ≡ true
unfolding same
same_refl [] = refl
same_refl (a ∷ r) = rw (eq-eqb a a refl) (same_refl r)

-- lists that are the same are equal
pub same_true : (a b : List ℕ) → same a b ≡ true → a ≡ b
unfolding same
same_true [] [] e = refl
same_true [] (b ∷ bs) e = cc
same_true (a ∷ r) [] e = cc
same_true (a ∷ r) (b ∷ bs) e =
    let p = both_true (eqb a b) (same r bs) e in
    cc (eqb-true a b p.0, same_true r bs p.1)

-- the same means equal
pub same_iff : (a b : List ℕ) → (same a b ≡ true) ↔ (a ≡ b)
same_iff a b = (same_true a b, λ e. subst (λ (x : List ℕ). same a x ≡ true) e (same_refl a))

-- lists that are not the same are not equal
pub differ : (a b : List ℕ) → same a b ≡ false → a ≡ b → ⊥
differ a b e q = false≢true (sym e ∙ (same_iff a b).1 q)

-- lists have n bytes in common if the first n are the same
pub common_same : (n : ℕ) (a b : List ℕ) → n ≤ length a → n ≤ length b → leb n (common a b) ≡ same (take n a) (take n b)
unfolding common same
common_same zero a b h g = le-leb 0 (common a b) (omega arith)
common_same (suc n) [] b h g = absurd (let f : ⊥ = omega arith in f)
common_same (suc n) (x ∷ a) [] h g = absurd (let f : ⊥ = omega arith in f)
common_same (suc n) (x ∷ a) (y ∷ b) h g =
    test_cases (eqb x y)
    (λ t. rw t (leb-suc-suc n (common a b) ∙ common_same n a b (omega arith) (omega arith)))
    (λ t. rw t (lt-leb (suc n) 0 (omega arith)))
