-- Where a label ends: laws of `before_zero`, the number of bytes before the first word 00, and of `inside_after`, whether a
-- word is open after some bytes. `inside` says whether one is open before them.
use mathlib.Core.Path.{◌≡◌, refl, sym, ap, ◌∙◌}
use mathlib.Core.Bool.{Bool, true, false, not, false≢true}
use mathlib.Core.List.{List, [], ◌∷◌, ◌++◌}
use Prim.Native.Nat.{ℕ, zero, suc, ◌+◌, ◌<◌, ◌≤◌}
use native.Mathlib.Omega.{arith}
use native.Mathlib.Nat.{zero-add}
use lib.Dec.{leb, eqb}
use lib.ListN.{length, get_or, take, drop, take-append-drop}
use lib.Seq.{length-take-le}
use borrow.Author.Tests.{eqb-true, eq-eqb, ne_eqb, not-true}
use Rattle.klv.specs.Pick.{both}
use Rattle.klv.specs.Key.{before_zero}
use Rattle.klv.specs.KeyText.{inside_after}
use Rattle.klv.proofs.Cases.{test_cases, both_true}

-- ---- one byte after another

-- of no bytes, none stand before a word 00
pub before_none : (inside : Bool) → before_zero inside [] ≡ 0
unfolding before_zero
before_none inside = refl

-- the word 00 stops the count
pub before_zero_law : (bs : List ℕ) → before_zero false (0x00 ∷ bs) ≡ 0
unfolding before_zero
before_zero_law bs = refl

-- a byte other than 00 counts
pub before_other : (inside : Bool) (b : ℕ) (bs : List ℕ) → (b ≡ 0x00 → ⊥) → before_zero inside (b ∷ bs) ≡ suc (before_zero (leb 0x80 b) bs)
unfolding before_zero
before_other true b bs h = refl
before_other false b bs h = rw (ne_eqb b 0x00 h)

-- a word begins here, with byte v
abbrev pub begins : Bool → ℕ → ℕ → Bool
begins inside b v = both (not inside) (eqb b v)

-- a word that begins with 00 stops the count
pub before_stop : (inside : Bool) (b : ℕ) (bs : List ℕ) → begins inside b 0x00 ≡ true → before_zero inside (b ∷ bs) ≡ 0
unfolding before_zero
before_stop true b bs h = absurd (false≢true h)
before_stop false b bs h = rw h

-- any other byte counts
pub before_go : (inside : Bool) (b : ℕ) (bs : List ℕ) → begins inside b 0x00 ≡ false → before_zero inside (b ∷ bs) ≡ suc (before_zero (leb 0x80 b) bs)
unfolding before_zero
before_go true b bs h = refl
before_go false b bs h = rw h

-- ---- whether a word is open

-- no bytes change nothing
pub after_none : (inside : Bool) → inside_after inside [] ≡ inside
unfolding inside_after
after_none inside = refl

-- a word is open after a byte of 80 or more
pub after_step : (inside : Bool) (b : ℕ) (bs : List ℕ) → inside_after inside (b ∷ bs) ≡ inside_after (leb 0x80 b) bs
unfolding inside_after
after_step inside b bs = refl

-- after two lists
pub after_join : (inside : Bool) (a b : List ℕ) → inside_after inside (a ++ b) ≡ inside_after (inside_after inside a) b
unfolding inside_after
after_join inside [] b = refl
after_join inside (x ∷ xs) b = after_join (leb 0x80 x) xs b

-- the last byte decides
pub after_last : (inside : Bool) (a : List ℕ) (b : ℕ) → inside_after inside (a ++ (b ∷ [])) ≡ leb 0x80 b
after_last inside a b = after_join inside a (b ∷ []) ∙ after_step (inside_after inside a) b [] ∙ after_none (leb 0x80 b)

-- ---- the count within a list

-- at most all bytes stand before the first word 00
pub before_most : (inside : Bool) (l : List ℕ) → before_zero inside l ≤ length l
before_most inside [] = omega (arith, before_none inside)
before_most inside (b ∷ bs) =
    test_cases (begins inside b 0x00)
    (λ h. omega (arith, before_stop inside b bs h))
    (λ h. omega (arith, before_go inside b bs h, before_most (leb 0x80 b) bs))

-- a count of all bytes goes past the first
pub before_tail : (inside : Bool) (x : ℕ) (xs : List ℕ) → before_zero inside (x ∷ xs) ≡ suc (length xs)
    → (begins inside x 0x00 ≡ false) × (before_zero (leb 0x80 x) xs ≡ length xs)
before_tail inside x xs e =
    test_cases (begins inside x 0x00)
    (λ h. absurd (let f : ⊥ = omega (arith, before_stop inside x xs h) in f))
    (λ h. (h, omega (arith, before_go inside x xs h)))

-- past bytes without a word 00 the count goes on
pub before_join : (inside : Bool) (a b : List ℕ) → before_zero inside a ≡ length a
    → before_zero inside (a ++ b) ≡ length a + before_zero (inside_after inside a) b
unfolding inside_after
before_join inside [] b e = rw zero-add
before_join inside (x ∷ xs) b e =
    let p = before_tail inside x xs e in
    omega (arith, before_go inside x (xs ++ b) p.0, before_join (leb 0x80 x) xs b p.1)

-- bytes before the first word 00 have none among them
pub before_take : (inside : Bool) (l : List ℕ) (m : ℕ) → m ≤ before_zero inside l → before_zero inside (take m l) ≡ m
before_take inside l zero h = before_none inside
before_take inside [] (suc m) h = absurd (let f : ⊥ = omega (arith, before_none inside) in f)
before_take inside (b ∷ bs) (suc m) h =
    test_cases (begins inside b 0x00)
    (λ t. absurd (let f : ⊥ = omega (arith, before_stop inside b bs t) in f))
    (λ t. rw (before_go inside b (take m bs) t) (ap suc (before_take (leb 0x80 b) bs m (omega (arith, before_go inside b bs t)))))

-- all bytes before the first word 00 have none among them
pub before_front : (inside : Bool) (l : List ℕ) → before_zero inside (take (before_zero inside l) l) ≡ before_zero inside l
before_front inside l = before_take inside l (before_zero inside l) (omega arith)

-- the count from a place before the first word 00 on
pub before_split : (inside : Bool) (l : List ℕ) (m : ℕ) → m ≤ before_zero inside l
    → before_zero inside l ≡ m + before_zero (inside_after inside (take m l)) (drop m l)
before_split inside l m h =
    let q : length (take m l) ≡ m = length-take-le m l (omega (arith, before_most inside l)) in
    rw (take-append-drop m l, q) at (before_join inside (take m l) (drop m l) (before_take inside l m h ∙ sym q))

-- ---- the first word 00 is there, and is the first

-- no word is open where the count stops
pub before_closed : (inside : Bool) (l : List ℕ) → before_zero inside l < length l → inside_after inside (take (before_zero inside l) l) ≡ false
unfolding inside_after
before_closed inside [] h = absurd (let f : ⊥ = omega arith in f)
before_closed inside (b ∷ bs) h =
    test_cases (begins inside b 0x00)
    (λ t. rw (before_stop inside b bs t) (not-true inside (both_true (not inside) (eqb b 0x00) t).0))
    (λ t. rw (before_go inside b bs t) (before_closed (leb 0x80 b) bs (omega (arith, before_go inside b bs t))))

-- 00 stands where the count stops
pub before_at : (inside : Bool) (l : List ℕ) → before_zero inside l < length l → get_or l (before_zero inside l) 0 ≡ 0x00
before_at inside [] h = absurd (let f : ⊥ = omega arith in f)
before_at inside (b ∷ bs) h =
    test_cases (begins inside b 0x00)
    (λ t. rw (before_stop inside b bs t) (eqb-true b 0x00 (both_true (not inside) (eqb b 0x00) t).1))
    (λ t. rw (before_go inside b bs t) (before_at (leb 0x80 b) bs (omega (arith, before_go inside b bs t))))

-- before that, no word begins with 00
pub before_first : (inside : Bool) (l : List ℕ) (i : ℕ) → i < before_zero inside l → inside_after inside (take i l) ≡ false → get_or l i 0 ≡ 0x00 → ⊥
unfolding inside_after
before_first inside [] i h c z = omega (arith, before_none inside)
before_first inside (b ∷ bs) zero h c z = omega (arith, before_stop inside b bs (rw (c, eq-eqb b 0x00 z)))
before_first inside (b ∷ bs) (suc i) h c z =
    test_cases (begins inside b 0x00)
    (λ t. omega (arith, before_stop inside b bs t))
    (λ t. before_first (leb 0x80 b) bs i (omega (arith, before_go inside b bs t)) c z)
