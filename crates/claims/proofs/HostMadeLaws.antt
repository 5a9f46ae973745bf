-- The calls that a host makes are calls of the library: below 1,000,000 a number is an output length.
use mathlib.Core.Path.{◌≡◌, refl, ap, ◌∙◌}
use mathlib.Core.Bool.{true}
use mathlib.Core.List.{List, [], ◌∷◌}
use mathlib.Core.Option.{Option, none}
use Prim.Native.Nat.{ℕ, ◌<◌, ◌≤◌}
use native.Mathlib.Omega.{arith}
use lib.ListN.{length}
use borrow.Author.Tests.{lt-ltb, le-ltb, ltb-true}
use Rattle.groups.specs.Refusal.{Answer, ok, refused}
use Rattle.groups.specs.Regroup.{regrouped}
use Rattle.groups.proofs.regroup.Accepted.{accepted_told}
use Rattle.groups.proofs.regroup.RegroupReads.{says_of}
use Rattle.perlenhuf.specs.Host.{hosted, host_of, HostRegroups}
use Rattle.claims.specs.Made.{Made, kept_from, kept_by, kept, accepted_from, last_target, Ran}
use Rattle.claims.specs.Chained.{IsRefusal, AllUnaltered}
use Rattle.claims.specs.HostMade.{HostMade, is_length, host_kept_by, host_kept, host_accepted_by, host_last_target, HostRan, number_for, SameCalls, host_asked_by}
use Rattle.claims.specs.HostChained.{AllHostUnaltered}
use Rattle.claims.proofs.Runs.{answer}

-- ---- one call

-- the call as the library made it
abbrev pub made_for : List ℕ → List ℕ → List ℕ → HostMade → Made
made_for tags packs s h = record { target = h.target; slice = h.slice; left = h.left; answer = regrouped (answer tags packs s (host_asked_by h)) }

pub number_is : (a : Answer (List ℕ)) → hosted a ≡ number_for (regrouped a)
number_is (ok w) = refl
number_is (refused r p) = refl

-- every refusal is 1,000,000 or more, no output length is
module _ (tags packs s : List ℕ) (h : HostMade) (o : HostRegroups tags packs h.target s h.slice h.left h.number) where
  pub kept_for : host_kept_by s h ≡ kept_by s (made_for tags packs s h)
  kept_for = rw o.answer (go (answer tags packs s (host_asked_by h)) refl)
    where
      go : (a : Answer (List ℕ)) → answer tags packs s (host_asked_by h) ≡ a
          → host_kept_by s (record { target = h.target; slice = h.slice; left = h.left; number = hosted a }) ≡ kept_from s h.left (regrouped a)
      go (ok w) e = rw (lt-ltb (length w) 1000000 (omega (arith, (accepted_told tags packs h.target s (length h.slice) w e).most)))
      go (refused r p) e = rw (le-ltb (host_of r p) 1000000 (omega arith))

  pub accepted_for : (last : Option (List ℕ)) → host_accepted_by last h ≡ accepted_from last h.target (regrouped (answer tags packs s (host_asked_by h)))
  accepted_for last = rw o.answer (go (answer tags packs s (host_asked_by h)) refl)
    where
      go : (a : Answer (List ℕ)) → answer tags packs s (host_asked_by h) ≡ a
          → host_accepted_by last (record { target = h.target; slice = h.slice; left = h.left; number = hosted a }) ≡ accepted_from last h.target (regrouped a)
      go (ok w) e = rw (lt-ltb (length w) 1000000 (omega (arith, (accepted_told tags packs h.target s (length h.slice) w e).most)))
      go (refused r p) e = rw (le-ltb (host_of r p) 1000000 (omega arith))

  pub refusal_for : IsRefusal (regrouped (answer tags packs s (host_asked_by h))) → 1000000 ≤ h.number
  refusal_for f = rw o.answer (go (answer tags packs s (host_asked_by h)) f)
    where
      go : (a : Answer (List ℕ)) → IsRefusal (regrouped a) → 1000000 ≤ hosted a
      go (ok w) f = absurd f
      go (refused r p) f = omega arith

  -- a number that the host takes for a length is one, at most 65,536
  pub length_most : is_length h.number ≡ true → h.number ≤ 65536
  length_most = rw o.answer (go (answer tags packs s (host_asked_by h)) refl)
    where
      go : (a : Answer (List ℕ)) → answer tags packs s (host_asked_by h) ≡ a → is_length (hosted a) ≡ true → hosted a ≤ 65536
      go (ok w) e t = (accepted_told tags packs h.target s (length h.slice) w e).most
      go (refused r p) e t = let z : host_of r p < 1000000 = ltb-true (host_of r p) 1000000 t in omega arith

-- ---- all calls

unfoldable pub mades_for : List ℕ → List ℕ → List ℕ → List HostMade → List Made
mades_for tags packs s [] = []
mades_for tags packs s (h ∷ hs) = made_for tags packs s h ∷ mades_for tags packs (kept_by s (made_for tags packs s h)) hs

pub mades_ran : (tags packs s : List ℕ) (calls : List HostMade) → HostRan tags packs s calls → Ran tags packs s (mades_for tags packs s calls)
unfolding HostRan Ran mades_for
mades_ran tags packs s [] r = tt
mades_ran tags packs s (h ∷ hs) r = (
  record { answer = refl; says = says_of (answer tags packs s (host_asked_by h)); bytes = r.0.bytes },
  mades_ran tags packs (kept_by s (made_for tags packs s h)) hs (rw (← kept_for tags packs s h r.0) r.1),
)

pub mades_same : (tags packs s : List ℕ) (calls : List HostMade) → HostRan tags packs s calls → SameCalls calls (mades_for tags packs s calls)
unfolding HostRan SameCalls mades_for
mades_same tags packs s [] r = tt
mades_same tags packs s (h ∷ hs) r = (
  record { target = refl; slice = refl; left = refl; number = r.0.answer ∙ number_is (answer tags packs s (host_asked_by h)) },
  mades_same tags packs (kept_by s (made_for tags packs s h)) hs (rw (← kept_for tags packs s h r.0) r.1),
)

pub mades_kept : (tags packs s : List ℕ) (calls : List HostMade) → HostRan tags packs s calls → host_kept s calls ≡ kept s (mades_for tags packs s calls)
unfolding HostRan host_kept kept mades_for
mades_kept tags packs s [] r = refl
mades_kept tags packs s (h ∷ hs) r =
    let k : host_kept_by s h ≡ kept_by s (made_for tags packs s h) = kept_for tags packs s h r.0 in
    ap (λ (l : List ℕ). host_kept l hs) k ∙ mades_kept tags packs (kept_by s (made_for tags packs s h)) hs (rw (← k) r.1)

pub mades_last : (tags packs s : List ℕ) (last : Option (List ℕ)) (calls : List HostMade) → HostRan tags packs s calls
    → host_last_target last calls ≡ last_target last (mades_for tags packs s calls)
unfolding HostRan host_last_target last_target mades_for
mades_last tags packs s last [] r = refl
mades_last tags packs s last (h ∷ hs) r =
    let k : host_kept_by s h ≡ kept_by s (made_for tags packs s h) = kept_for tags packs s h r.0 in
    ap (λ (l : Option (List ℕ)). host_last_target l hs) (accepted_for tags packs s h r.0 last)
    ∙ mades_last tags packs (kept_by s (made_for tags packs s h)) (accepted_from last h.target (regrouped (answer tags packs s (host_asked_by h)))) hs (rw (← k) r.1)

pub mades_unaltered : (tags packs s : List ℕ) (calls : List HostMade) → HostRan tags packs s calls → AllUnaltered (mades_for tags packs s calls) → AllHostUnaltered calls
unfolding HostRan AllUnaltered AllHostUnaltered mades_for
mades_unaltered tags packs s [] r u = tt
mades_unaltered tags packs s (h ∷ hs) r u = (
  refusal_for tags packs s h r.0 u.0,
  u.1,
  mades_unaltered tags packs (kept_by s (made_for tags packs s h)) hs (rw (← kept_for tags packs s h r.0) r.1) u.2,
)

-- a host's run is a run of the library: the same targets, slices and lefts, the same bytes kept and the same last target
pub host_ran : (tags packs first : List ℕ) (calls : List HostMade) → HostRan tags packs first calls
    → (made : List Made) × Ran tags packs first made × SameCalls calls made × (host_kept first calls ≡ kept first made) × (host_last_target none calls ≡ last_target none made)
host_ran tags packs first calls r = (
  mades_for tags packs first calls,
  mades_ran tags packs first calls r,
  mades_same tags packs first calls r,
  mades_kept tags packs first calls r,
  mades_last tags packs first none calls r,
)
