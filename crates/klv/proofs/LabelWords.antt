-- The words of a label: how the test `words` goes over joined lists and stands to `before_zero`, and that it says `Label`.
use mathlib.Core.Path.{◌≡◌, refl, sym, ap, ◌∙◌, subst}
use mathlib.Core.Logic.{◌↔◌}
use mathlib.Core.Bool.{Bool, true, false, not, false≢true}
use mathlib.Core.List.{List, [], ◌∷◌, ◌++◌}
use Prim.Native.Nat.{ℕ, zero, suc}
use native.Mathlib.Omega.{arith}
use lib.Dec.{leb, eqb}
use lib.ListN.{length, get_or, take, drop, replicate}
use borrow.Author.Tests.{eqb-true, eqb-false, eq-eqb, ne_eqb, leb-true, leb-false, le-leb, lt-leb, not-true}
use Rattle.klv.specs.Pick.{pick}
use Rattle.klv.specs.Bytes.{all_zero}
use Rattle.klv.specs.Key.{words, before_zero}
use Rattle.klv.specs.KeyText.{Word, last, more, Label, full, ended, word, inside_after}
use Rattle.klv.proofs.Cases.{test_cases, both_true, passed}
use Rattle.klv.proofs.BytesLaws.{zeros_pass, all_zero_iff}
use Rattle.klv.proofs.LabelLaws.{begins, before_none, before_stop, before_go, before_tail}

-- ---- one byte after another

-- a label may end where no word is open
pub words_none : (inside : Bool) → words inside [] ≡ not inside
unfolding words
words_none true = refl
words_none false = refl

-- the three ways of a byte in one equation
pub words_step : (inside : Bool) (b : ℕ) (bs : List ℕ)
    → words inside (b ∷ bs) ≡ pick (begins inside b 0x00) (all_zero bs) (pick (begins inside b 0x80) false (words (leb 0x80 b) bs))
unfolding words
words_step true b bs = refl
words_step false b bs = refl

-- bytes that end at once are words only where no word is open
closed_of : (inside : Bool) → words inside [] ≡ true → inside ≡ false
closed_of inside e = not-true inside (sym (words_none inside) ∙ e)

-- where words go on
words_tail : (inside : Bool) (b : ℕ) (bs : List ℕ) → words inside (b ∷ bs) ≡ true → begins inside b 0x00 ≡ false
    → (begins inside b 0x80 ≡ false) × (words (leb 0x80 b) bs ≡ true)
words_tail inside b bs e s =
    passed (begins inside b 0x80) (words (leb 0x80 b) bs) (rw (words_step inside b bs, s) at e)

-- where words end
words_end : (inside : Bool) (b : ℕ) (bs : List ℕ) → words inside (b ∷ bs) ≡ true → begins inside b 0x00 ≡ true
    → (inside ≡ false) × (b ≡ 0x00) × (all_zero bs ≡ true)
words_end inside b bs e s =
    let p = both_true (not inside) (eqb b 0x00) s in
    (not-true inside p.0, eqb-true b 0x00 p.1, rw (words_step inside b bs, s) at e)

-- ---- words and the first word 00

-- from the first word 00 on, all bytes are 00
pub words_rest : (inside : Bool) (l : List ℕ) → words inside l ≡ true → all_zero (drop (before_zero inside l) l) ≡ true
unfolding all_zero
words_rest inside [] e = rw (before_none inside)
words_rest inside (b ∷ bs) e =
    test_cases (begins inside b 0x00)
    (λ s. let p = words_end inside b bs e s in rw (before_stop inside b bs s, eq-eqb b 0x00 p.1) p.2)
    (λ s. rw (before_go inside b bs s) (words_rest (leb 0x80 b) bs (words_tail inside b bs e s).1))

-- before it no word is left open
pub words_closed : (inside : Bool) (l : List ℕ) → words inside l ≡ true → inside_after inside (take (before_zero inside l) l) ≡ false
unfolding inside_after
words_closed inside [] e = rw (before_none inside) (closed_of inside e)
words_closed inside (b ∷ bs) e =
    test_cases (begins inside b 0x00)
    (λ s. rw (before_stop inside b bs s) (words_end inside b bs e s).0)
    (λ s. rw (before_go inside b bs s) (words_closed (leb 0x80 b) bs (words_tail inside b bs e s).1))

-- ---- joined lists

-- behind words without a word 00 the words begin anew
pub words_join : (inside : Bool) (a b : List ℕ) → before_zero inside a ≡ length a → words inside a ≡ true → words inside (a ++ b) ≡ words false b
words_join inside [] b n e = rw (closed_of inside e)
words_join inside (x ∷ xs) b n e =
    let p = before_tail inside x xs n in
    let q = words_tail inside x xs e p.0 in
    rw (words_step inside x (xs ++ b), p.0, q.0) (words_join (leb 0x80 x) xs b p.1 q.1)

-- zeros are a label of no words
pub words_zeros : (m : ℕ) → words false (replicate m 0x00) ≡ true
unfolding words
words_zeros zero = refl
words_zeros (suc m) = zeros_pass m

-- ---- the test says `Label`

-- the rest of an open word, and then a label
data Opened : List ℕ → Type 0 where
  opened : {w rest : List ℕ} → Word w → Label rest → Opened (w ++ rest)

-- what the test tells, whether a word is open or not
abbrev Reads : Bool → List ℕ → Type 0
Reads true l = Opened l
Reads false l = Label l

open_more : (b : ℕ) (bs : List ℕ) (t : Bool) → leb 0x80 b ≡ t → Reads t bs → Opened (b ∷ bs)
open_more b bs true h (opened w r) = opened (more (leb-true 0x80 b h) w) r
open_more b bs false h r = opened (last (leb-false 0x80 b h)) r

word_more : (b : ℕ) (bs : List ℕ) (t : Bool) → leb 0x80 b ≡ t → (b ≡ 0x00 → ⊥) → (b ≡ 0x80 → ⊥) → Reads t bs → Label (b ∷ bs)
word_more b bs true h z e (opened w r) =
    word (record { is_word = more (leb-true 0x80 b h) w; not_80 = e; not_00 = λ q. z (ap (λ (l : List ℕ). get_or l 0 0) q) }) r
word_more b bs false h z e r =
    word (record { is_word = last (leb-false 0x80 b h); not_80 = e; not_00 = λ q. z (ap (λ (l : List ℕ). get_or l 0 0) q) }) r

reads : (inside : Bool) (l : List ℕ) → words inside l ≡ true → Reads inside l
unfolding words
reads true [] e = absurd (false≢true e)
reads false [] e = full
reads true (b ∷ bs) e = open_more b bs (leb 0x80 b) refl (reads (leb 0x80 b) bs e)
reads false (b ∷ bs) e =
    test_cases (eqb b 0x00)
    (λ h. subst (λ (x : ℕ). Label (x ∷ bs)) (sym (eqb-true b 0x00 h)) (ended ((all_zero_iff bs).0 (words_end false b bs e h).2)))
    (λ h. let p = words_tail false b bs e h in word_more b bs (leb 0x80 b) refl (eqb-false b 0x00 h) (eqb-false b 0x80 p.0) (reads (leb 0x80 b) bs p.1))

-- the test goes past a word that is open, and past a whole one
inside_word : {w : List ℕ} → (rest : List ℕ) → Word w → words true (w ++ rest) ≡ words false rest
inside_word rest (last {b} h) = rw (words_step true b rest, lt-leb 0x80 b h)
inside_word rest (more {b} {w} h p) = rw (words_step true b (w ++ rest), le-leb 0x80 b h) (inside_word rest p)

whole_word : {w : List ℕ} → (rest : List ℕ) → Word w → (get_or w 0 0 ≡ 0x80 → ⊥) → (w ≡ 0x00 ∷ [] → ⊥) → words false (w ++ rest) ≡ words false rest
whole_word rest (last {b} h) e z = rw (words_step false b rest, ne_eqb b 0x00 (λ q. z (ap (λ (x : ℕ). x ∷ []) q)), ne_eqb b 0x80 e, lt-leb 0x80 b h)
whole_word rest (more {b} {w} h p) e z =
    rw (words_step false b (w ++ rest), ne_eqb b 0x00 (λ q. omega arith), ne_eqb b 0x80 e, le-leb 0x80 b h) (inside_word rest p)

passes : {l : List ℕ} → Label l → words false l ≡ true
unfolding words
passes full = refl
passes (ended {bs} z) = (all_zero_iff bs).1 z
passes (word {w} {rest} p r) = whole_word rest p.is_word p.not_80 p.not_00 ∙ passes r

-- the test of words says `Label`
pub words_iff : (l : List ℕ) → (words false l ≡ true) ↔ Label l
words_iff l = (reads false l, passes)

-- all bytes may be 00
pub label_zeros : (m : ℕ) → Label (replicate m 0x00)
label_zeros m = (words_iff (replicate m 0x00)).0 (words_zeros m)
