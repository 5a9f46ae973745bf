-- The call refuses by the table: a refusal only under its condition and under no earlier one, and acceptance where no
-- condition holds.
use mathlib.Core.Path.{◌≡◌}
use Prim.Native.Nat.{ℕ}
use Rattle.klv.proofs.Cases.{absurd_number}
use Rattle.groups.specs.declared.refusal.Refusal.{Refusal}
use Rattle.groups.specs.Refusal.{Answer, refused, number_of, said, numbered}
use Rattle.claims.specs.Condition.{Inputs, Condition, Earlier, ByTable}
use Rattle.claims.proofs.Order.{NotLater, sooner, at_once, RefusedBy, answer_cases, never_both}
use Rattle.claims.proofs.RefusedConditions.{call, refused_condition}
use Rattle.claims.proofs.ConditionRefusals.{condition_refuses}
use Rattle.claims.proofs.NumberLaws.{said_tells}

-- an answer is by a table if a refusal has its condition, and a condition refuses, no later than it stands in the order
module _ {A : Type 0} (C : Refusal → ℕ → Type 0) (a : Answer A) (told : (r : Refusal) (p : ℕ) → a ≡ refused r p → C r p)
    (refuses : (r : Refusal) (p : ℕ) → C r p → RefusedBy a r p) where
  first : (r : Refusal) (p : ℕ) (q : Refusal) (n : ℕ) → a ≡ refused r p → Earlier q n r p → C q n → ⊥
  first r p q n e h c =
      let w : RefusedBy a q n = refuses q n c in
      let x : w.refusal ≡ r = cc in
      let y : w.place ≡ p = cc in
      never_both r p q n (rw (x, y) at w.no_later) h

  given : (r : Refusal) (p : ℕ) → C r p → ((q : Refusal) (n : ℕ) → Earlier q n r p → C q n → ⊥) → a ≡ refused r p
  given r p c f = go (refuses r p c)
    where
      one : (q : Refusal) (n : ℕ) → a ≡ refused q n → NotLater q n r p → a ≡ refused r p
      one q n e (sooner h) = absurd (f q n h (told q n e))
      one q n e (at_once x y) = rw (← x, ← y) e

      go : RefusedBy a r p → a ≡ refused r p
      go w = one w.refusal w.place w.is w.no_later

  pub tabled : ByTable C a
  tabled = record {
    refused_condition = told;
    refused_first = first;
    first_refused = given;
    accepted_unless = λ f. answer_cases a (λ x e. (x, e)) (λ r p e. absurd (f r p (told r p e)));
    accepted_none = λ x e r p c. let b : RefusedBy a r p = refuses r p c in absurd_number (cc);
  }

-- a call that says a row's number and a place has the condition of that row there
pub said_condition : (i : Inputs) (r : Refusal) (p : ℕ) → said (call i) ≡ numbered (number_of r) p → Condition i r p
said_condition i r p e = refused_condition i r p (said_tells (call i) r p e)

pub by_table : (i : Inputs) → ByTable (Condition i) (call i)
by_table i = tabled (Condition i) (call i) (refused_condition i) (condition_refuses i)
