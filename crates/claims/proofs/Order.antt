-- The order of refusals: no refusal comes before itself, and an answer that is refused no later than a given refusal.
use mathlib.Core.Path.{◌≡◌, refl, ap, ◌∙◌}
use mathlib.Core.Bool.{Bool, true, false}
use Prim.Native.Nat.{ℕ, ◌<◌}
use native.Mathlib.Omega.{arith}
use Rattle.groups.specs.declared.refusal.Refusal.{Refusal}
use Rattle.groups.specs.Refusal.{Answer, ok, refused, and_then, check}
use Rattle.claims.specs.Condition.{round, turn, Earlier, by_round, by_item, by_turn}

-- r at p does not come after q at n
pub data NotLater (r : Refusal) (p : ℕ) (q : Refusal) (n : ℕ) : Type 0 where
  sooner : Earlier r p q n → NotLater r p q n
  at_once : r ≡ q → p ≡ n → NotLater r p q n

-- nothing comes before itself
never_itself : (r : Refusal) (p : ℕ) → Earlier r p r p → ⊥
never_itself r p (by_round a) = omega arith
never_itself r p (by_item a b) = omega arith
never_itself r p (by_turn a b c) = omega arith

-- of two refusals one does not come before the other and after it
pub never_both : (r : Refusal) (p : ℕ) (q : Refusal) (n : ℕ) → NotLater r p q n → Earlier q n r p → ⊥
never_both r p q n (sooner (by_round a)) (by_round b) = omega arith
never_both r p q n (sooner (by_round a)) (by_item b c) = omega arith
never_both r p q n (sooner (by_round a)) (by_turn b c d) = omega arith
never_both r p q n (sooner (by_item a x)) (by_round b) = omega arith
never_both r p q n (sooner (by_item a x)) (by_item b c) = omega arith
never_both r p q n (sooner (by_item a x)) (by_turn b c d) = omega arith
never_both r p q n (sooner (by_turn a x y)) (by_round b) = omega arith
never_both r p q n (sooner (by_turn a x y)) (by_item b c) = omega arith
never_both r p q n (sooner (by_turn a x y)) (by_turn b c d) = omega arith
never_both r p q n (at_once a x) h = never_itself r p (rw (← a, ← x) at h)

-- an answer that is a refusal, and none later than r at p
pub record RefusedBy {A : Type 0} (a : Answer A) (r : Refusal) (p : ℕ) : Type 0 where
  pub refusal : Refusal
  pub place : ℕ
  pub is : a ≡ refused refusal place
  pub no_later : NotLater refusal place r p

-- it is r at p
pub refused_now : {A : Type 0} (a : Answer A) (r : Refusal) (p : ℕ) → a ≡ refused r p → RefusedBy a r p
refused_now a r p e = record { refusal = r; place = p; is = e; no_later = at_once refl refl }

-- it is a refusal of an earlier round
pub refused_before : {A : Type 0} (a : Answer A) (q : Refusal) (n : ℕ) (r : Refusal) (p : ℕ) → a ≡ refused q n → round q < round r → RefusedBy a r p
refused_before a q n r p e h = record { refusal = q; place = n; is = e; no_later = sooner (by_round h) }

-- what comes no later than r at p comes before a later turn of the same item
before_turn : (x : Refusal) (n : ℕ) (r q : Refusal) (p : ℕ) → round r ≡ round q → turn r < turn q → NotLater x n r p → Earlier x n q p
before_turn x n r q p h k (sooner (by_round a)) = by_round (omega arith)
before_turn x n r q p h k (sooner (by_item a b)) = by_item (a ∙ h) b
before_turn x n r q p h k (sooner (by_turn a b c)) = by_turn (a ∙ h) b (omega arith)
before_turn x n r q p h k (at_once a b) = by_turn (ap round a ∙ h) b (rw a k)

-- it is no later than an earlier turn of the same item
pub refused_sooner : {A : Type 0} (a : Answer A) (r q : Refusal) (p : ℕ) → round r ≡ round q → turn r < turn q → RefusedBy a r p → RefusedBy a q p
refused_sooner a r q p h k w =
    record { refusal = w.refusal; place = w.place; is = w.is; no_later = sooner (before_turn w.refusal w.place r q p h k w.no_later) }

-- it is another name of the same answer
pub refused_as : {A : Type 0} (a b : Answer A) (r : Refusal) (p : ℕ) → a ≡ b → RefusedBy b r p → RefusedBy a r p
refused_as a b r p e w = record { refusal = w.refusal; place = w.place; is = e ∙ w.is; no_later = w.no_later }

-- a check of an earlier round refuses, or what follows it does
pub refused_check : {A : Type 0} (t : Bool) (q : Refusal) (a : Answer A) (r : Refusal) (p : ℕ) → round q < round r → (t ≡ true → RefusedBy a r p)
    → RefusedBy (check t q a) r p
refused_check true q a r p h f = f refl
refused_check false q a r p h f = refused_before (refused q 0) q 0 r p refl h

-- a check that is not passed
pub refused_here : {A : Type 0} (t : Bool) (r : Refusal) (a : Answer A) (p : ℕ) → t ≡ false → p ≡ 0 → RefusedBy (check t r a) r p
refused_here t r a p e z = refused_now (check t r a) r p (rw (e, z))

-- of two steps the first is refused
pub refused_first_step : {A B : Type 0} (a : Answer A) (f : A → Answer B) (r : Refusal) (p : ℕ) → RefusedBy a r p → RefusedBy (and_then a f) r p
refused_first_step a f r p w = record { refusal = w.refusal; place = w.place; is = rw w.is; no_later = w.no_later }

-- the first gives a value, and the second is refused
pub refused_second_step : {A B : Type 0} (a : Answer A) (f : A → Answer B) (x : A) (r : Refusal) (p : ℕ) → a ≡ ok x → RefusedBy (f x) r p → RefusedBy (and_then a f) r p
refused_second_step a f x r p e w = refused_as (and_then a f) (f x) r p (rw e) w

-- an answer is a value or a refusal
pub answer_cases : {A P : Type 0} (a : Answer A) → ((x : A) → a ≡ ok x → P) → ((r : Refusal) → (p : ℕ) → a ≡ refused r p → P) → P
answer_cases (ok x) f g = f x refl
answer_cases (refused r p) f g = g r p refl
