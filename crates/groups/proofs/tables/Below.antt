-- Laws of a test of every number below a count (`all_below`) and of the search for the least number that passes a test
-- (`first`): what each answer tells, and what gives each answer. From the definitions alone.
use mathlib.Core.Path.{◌≡◌, refl, sym, ◌∙◌, subst}
use mathlib.Core.Bool.{Bool, true, false, false≢true}
use Prim.Native.Nat.{ℕ, zero, suc, ◌<◌}
use native.Mathlib.Omega.{arith}
use native.Mathlib.Decide.{dec_le}
use Rattle.std.proofs.lemmas.List.FromFn.{length-range_with_len, get_or-range_with_len}
use Rattle.std.specs.Bool.{MatchBool}
use Rattle.std.specs.List.{AllWithin, HoldsAt, range_with_len}
use lib.ListN.{length, get_or}
use Rattle.klv.proofs.Cases.{pick_cases, test_cases, both_true, absurd_number}
use Rattle.std.specs.Prelude.{Option, Some, None}
use Rattle.groups.specs.Tables.{all_below, or_else, first}

-- ---- a test of all numbers below n

-- a test of all holds of each
pub all_each : (p : ℕ → Bool) (n : ℕ) → all_below p n ≡ true → (i : ℕ) → i < n → p i ≡ true
unfolding all_below
all_each p zero e i h = absurd (let f : ⊥ = omega arith in f)
all_each p (suc n) e i h =
    let q = both_true (all_below p n) (p n) e in
    elim (dec_le n i) [
      | yes g ↦ let s : n ≡ i = omega arith in subst (λ (j : ℕ). p j ≡ true) s q.1
      | no g ↦ all_each p n q.0 i (omega arith)
    ]

-- a test that holds of each holds of all
pub each_all : (p : ℕ → Bool) (n : ℕ) → ((i : ℕ) → i < n → p i ≡ true) → all_below p n ≡ true
unfolding all_below
each_all p zero f = refl
each_all p (suc n) f = rw (each_all p n (λ i h. f i (omega arith))) (f n (omega arith))

-- a test that fails of one fails of all
pub all_fails : (p : ℕ → Bool) (n i : ℕ) → i < n → p i ≡ false → all_below p n ≡ false
all_fails p n i h e =
    test_cases (all_below p n)
    (λ t. absurd (false≢true (sym e ∙ all_each p n t i h)))
    (λ t. t)

at_range : (n i : ℕ) → i < n → get_or (range_with_len 0 n) i 0 ≡ i
at_range n i l = omega (arith, get_or-range_with_len 0 n i 0 l)

-- what `all` finds over the numbers below n
pub all_range : (p : ℕ → Bool) (n : ℕ) (r : Bool)
    → MatchBool r (AllWithin (λ (i : ℕ). p i ≡ true) (range_with_len 0 n) 0 (length (range_with_len 0 n)))
    ((k : ℕ) × (k < length (range_with_len 0 n)) × HoldsAt (λ (i : ℕ). p i ≡ false) (range_with_len 0 n) k) → r ≡ all_below p n
all_range p n true h =
    sym (each_all p n (λ i l. rw (at_range n i l) at (h i 0 (omega arith) (omega (arith, length-range_with_len 0 n)))))
all_range p n false h =
    let l : h.0 < n = omega (arith, h.1, length-range_with_len 0 n) in
    sym (all_fails p n h.0 l (rw (at_range n h.0 l) at (h.2 0)))

-- ---- the least number below n of which a test holds

-- i is the least number below n of which the test holds
pub record Least (p : ℕ → Bool) (n i : ℕ) : Type 0 where
  pub below : i < n
  pub holds : p i ≡ true
  pub before : (j : ℕ) → j < i → p j ≡ false

-- what a search tells of its last step
else_at : {P : Type 0} (f : Option ℕ) (t : Bool) (n i : ℕ) → or_else f t n ≡ Some i → (f ≡ Some i → P) → (f ≡ None → t ≡ true → n ≡ i → P) → P
else_at (Some j) t n i e a b = a e
else_at None t n i e a b = pick_cases t (Some n) None (Some i) e (λ h q. b refl h (cc)) (λ h q. absurd_number (cc))

else_nothing : (f : Option ℕ) (t : Bool) (n : ℕ) → or_else f t n ≡ None → (f ≡ None) × (t ≡ false)
else_nothing (Some j) t n e = absurd_number (cc)
else_nothing None t n e = pick_cases t (Some n) None None e (λ h q. absurd_number (cc)) (λ h q. (refl, h))

-- nothing is found: the test holds of no number below n
pub first_nothing : (p : ℕ → Bool) (n : ℕ) → first p n ≡ None → (i : ℕ) → i < n → p i ≡ false
unfolding first
first_nothing p zero e i h = absurd (let f : ⊥ = omega arith in f)
first_nothing p (suc n) e i h =
    let q = else_nothing (first p n) (p n) n e in
    elim (dec_le n i) [
      | yes g ↦ let s : n ≡ i = omega arith in subst (λ (j : ℕ). p j ≡ false) s q.1
      | no g ↦ first_nothing p n q.0 i (omega arith)
    ]

-- the other way round
pub nothing_first : (p : ℕ → Bool) (n : ℕ) → ((i : ℕ) → i < n → p i ≡ false) → first p n ≡ None
unfolding first
nothing_first p zero f = refl
nothing_first p (suc n) f = rw (nothing_first p n (λ i h. f i (omega arith)), f n (omega arith))

-- i is found: it is the least
pub first_at : (p : ℕ → Bool) (n i : ℕ) → first p n ≡ Some i → Least p n i
unfolding first
first_at p zero i e = absurd_number (cc)
first_at p (suc n) i e =
    else_at (first p n) (p n) n i e
    (λ q. let r = first_at p n i q in record { below = omega arith; holds = r.holds; before = r.before })
    (λ q t s. record {
      below = omega arith;
      holds = subst (λ (j : ℕ). p j ≡ true) s t;
      before = λ j h. first_nothing p n q j (omega arith);
    })

-- the other way round
pub at_first : (p : ℕ → Bool) (n i : ℕ) → i < n → p i ≡ true → ((j : ℕ) → j < i → p j ≡ false) → first p n ≡ Some i
unfolding first
at_first p zero i h t f = absurd (let f : ⊥ = omega arith in f)
at_first p (suc n) i h t f =
    elim (dec_le n i) [
      | yes g ↦
          let s : i ≡ n = omega arith in
          rw (nothing_first p n (λ j l. f j (omega arith)), subst (λ (j : ℕ). p j ≡ true) s t, s)
      | no g ↦ rw (at_first p n i (omega arith) t f)
    ]
