-- Rows 14 and 15: an output that is measured is refused, or writing refuses earlier.
use mathlib.Core.Path.{◌≡◌}
use mathlib.Core.Bool.{true}
use mathlib.Core.List.{List}
use Prim.Native.Nat.{ℕ, ◌<◌}
use native.Mathlib.Omega.{arith}
use lib.Dec.{leb}
use lib.ListN.{length}
use borrow.Author.Tests.{lt-leb}
use Rattle.klv.proofs.Cases.{absurd_number}
use Rattle.groups.specs.declared.refusal.Refusal.{Refusal}
use Rattle.groups.specs.declared.refusal.Refusal.TheVariants.{LongOutput, ShortSlice}
use Rattle.groups.specs.Refusal.{ok, refused, and_then}
use Rattle.groups.specs.Read.{Item, under}
use Rattle.groups.specs.Write.{write_items, write}
use Rattle.groups.specs.Regroup.{target_ok, sized}
use Rattle.groups.proofs.regroup.AnswerLaws.{then_refused}
use Rattle.claims.specs.OutputLength.{output_length}
use Rattle.claims.specs.Condition.{round}
use Rattle.claims.proofs.OutputLength.{write_length}
use Rattle.claims.proofs.Order.{RefusedBy, refused_before, refused_check, refused_here, refused_first_step, refused_second_step, answer_cases}
use Rattle.claims.proofs.WriteConditions.{writing_round}

-- ---- refusals

-- writing refuses with 12 and 13 alone
pub write_round : (tags packs target : List ℕ) (xs : List Item) (r : Refusal) (p : ℕ) → write tags packs target xs ≡ refused r p → round r ≡ 10
unfolding write
write_round tags packs target xs r p e =
    then_refused (write_items (under target tags packs) 0 xs) _ r p e (λ f. writing_round (under target tags packs) 0 xs r p f) (λ a f g. absurd_number (cc))

-- an output that is measured is refused, or writing refuses earlier
measured_refuses : (tags packs target : List ℕ) (xs : List Item) (room : ℕ) (r : Refusal) (p : ℕ) → 10 < round r
    → ((w : List ℕ) → write tags packs target xs ≡ ok w → RefusedBy (sized room w) r p) → RefusedBy (and_then (write tags packs target xs) (sized room)) r p
measured_refuses tags packs target xs room r p h f =
    answer_cases (write tags packs target xs)
    (λ w e. refused_second_step (write tags packs target xs) (sized room) w r p e (f w e))
    (λ q n e. refused_first_step (write tags packs target xs) (sized room) r p
    (refused_before (write tags packs target xs) q n r p e (omega (arith, write_round tags packs target xs q n e))))

-- 14
pub long_refuses : (tags packs target : List ℕ) (xs : List Item) (room p : ℕ) → target_ok target ≡ true → p ≡ 0 → 65536 < output_length (under target tags packs) xs
    → RefusedBy (and_then (write tags packs target xs) (sized room)) LongOutput p
long_refuses tags packs target xs room p g z h =
    measured_refuses tags packs target xs room LongOutput p (omega arith)
    (λ w e. refused_here (leb (length w) 65536) LongOutput _ p (lt-leb (length w) 65536 (omega (arith, write_length tags packs target xs w g e))) z)

-- 15
pub short_refuses : (tags packs target : List ℕ) (xs : List Item) (room p : ℕ) → target_ok target ≡ true → p ≡ 0 → room < output_length (under target tags packs) xs
    → RefusedBy (and_then (write tags packs target xs) (sized room)) ShortSlice p
short_refuses tags packs target xs room p g z h =
    measured_refuses tags packs target xs room ShortSlice p (omega arith)
    (λ w e. refused_check (leb (length w) 65536) LongOutput _ ShortSlice p (omega arith)
    (λ t. refused_here (leb (length w) room) ShortSlice _ p (lt-leb (length w) room (omega (arith, write_length tags packs target xs w g e))) z))
