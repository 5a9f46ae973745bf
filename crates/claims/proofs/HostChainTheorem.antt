-- Demand 3 holds of every list of calls that a C host made.
use mathlib.Core.Path.{◌≡◌, refl, sym, ap, ◌∙◌}
use mathlib.Core.Bool.{true}
use mathlib.Core.List.{List, [], ◌∷◌}
use mathlib.Core.Logic.{◌↔◌}
use mathlib.Core.Option.{none, some}
use Prim.Native.Nat.{ℕ, ◌≤◌}
use lib.ListN.{length, take}
use Rattle.groups.specs.Kind.{family}
use Rattle.groups.specs.Regroup.{regrouped}
use Rattle.claims.specs.Made.{kept, Ran}
use Rattle.claims.specs.Chained.{ReadAlike, Chained}
use Rattle.claims.specs.HostMade.{HostMade, host_kept, host_last_target, HostRan, number_for, host_asked_by}
use Rattle.claims.specs.HostChained.{HostChained}
use Rattle.claims.proofs.Runs.{answer}
use Rattle.claims.proofs.ChainTheorem.{chained}
use Rattle.claims.proofs.HostMadeLaws.{made_for, mades_for, number_is, mades_ran, mades_kept, mades_last, mades_unaltered}

one_made : (tags packs s : List ℕ) (d : HostMade) → mades_for tags packs s (d ∷ []) ≡ made_for tags packs s d ∷ []
unfolding mades_for
one_made tags packs s d = refl

number_of_one : (tags packs s : List ℕ) (d : HostMade) → HostRan tags packs s (d ∷ []) → d.number ≡ number_for (regrouped (answer tags packs s (host_asked_by d)))
unfolding HostRan
number_of_one tags packs s d r = r.0.answer ∙ number_is (answer tags packs s (host_asked_by d))

module _ (tags packs first : List ℕ) (calls : List HostMade) (r : HostRan tags packs first calls) where
  claim : Chained tags packs first (mades_for tags packs first calls)
  claim = chained tags packs first (mades_for tags packs first calls) (mades_ran tags packs first calls r)

  direct_hosted : (d : HostMade) → HostRan tags packs first (d ∷ []) → host_last_target none calls ≡ some d.target
      → family (take 16 first) d.target ≡ true → length (host_kept first calls) ≤ length d.slice
      → (d.number ≡ length (host_kept first calls)) × (host_kept first (d ∷ []) ≡ host_kept first calls)
  direct_hosted d q e f h =
      let k : host_kept first calls ≡ kept first (mades_for tags packs first calls) = mades_kept tags packs first calls r in
      let one : Ran tags packs first (made_for tags packs first d ∷ []) = rw (one_made tags packs first d) at (mades_ran tags packs first (d ∷ []) q) in
      let a = claim.direct (made_for tags packs first d) one (sym (mades_last tags packs first none calls r) ∙ e) f (rw (← k) h) in
      let m : host_kept first (d ∷ []) ≡ kept first (made_for tags packs first d ∷ []) = rw (one_made tags packs first d) at (mades_kept tags packs first (d ∷ []) q) in
      (number_of_one tags packs first d q ∙ ap number_for a.0 ∙ ap length (sym k), m ∙ a.1 ∙ sym k)

  equal_hosted : (other : List ℕ) (others : List HostMade) (target : List ℕ) → HostRan tags packs other others
      → host_last_target none calls ≡ some target → host_last_target none others ≡ some target
      → (host_kept first calls ≡ host_kept other others) ↔ ReadAlike tags packs first other
  equal_hosted other others target q e f =
      rw (mades_kept tags packs first calls r, mades_kept tags packs other others q)
      (claim.equal other (mades_for tags packs other others) target (mades_ran tags packs other others q)
      (sym (mades_last tags packs first none calls r) ∙ e)
      (sym (mades_last tags packs other none others q) ∙ f))

pub host_chained : (tags packs first : List ℕ) (calls : List HostMade) → HostRan tags packs first calls → HostChained tags packs first calls
host_chained tags packs first calls r = record {
  reads = λ xs e. rw (mades_kept tags packs first calls r) ((claim tags packs first calls r).reads xs e);
  unread = λ n. mades_unaltered tags packs first calls r ((claim tags packs first calls r).unread n);
  direct = direct_hosted tags packs first calls r;
  equal = equal_hosted tags packs first calls r;
}
