-- Every list of targets and slices has a host's run, and only one.
use mathlib.Core.Path.{◌≡◌, refl, sym, ap, ap₂, ◌∙◌}
use mathlib.Core.List.{List, [], ◌∷◌}
use Prim.Native.Nat.{ℕ}
use Rattle.klv.proofs.Cases.{absurd_number}
use Rattle.groups.specs.Regroup.{output_left}
use Rattle.perlenhuf.specs.Host.{hosted}
use Rattle.claims.specs.Made.{Call}
use Rattle.claims.specs.HostMade.{HostMade, host_kept_by, HostRan, host_asked_by, host_asked}
use Rattle.claims.proofs.Runs.{answer}

-- the call as it is made on the bytes s
abbrev pub host_made_of : List ℕ → List ℕ → List ℕ → Call → HostMade
host_made_of tags packs s c = record {
  target = c.target;
  slice = c.slice;
  left = output_left c.slice (answer tags packs s c);
  number = hosted (answer tags packs s c);
}

pub host_ran_exists : (tags packs first : List ℕ) (calls : List Call) → (made : List HostMade) × (host_asked made ≡ calls) × HostRan tags packs first made
unfolding host_asked HostRan
host_ran_exists tags packs s [] = ([], refl, tt)
host_ran_exists tags packs s (c ∷ cs) =
    let m : HostMade = host_made_of tags packs s c in
    let r = host_ran_exists tags packs (host_kept_by s m) cs in
    (m ∷ r.0, ap (λ (l : List Call). c ∷ l) r.1, (record { answer = refl; bytes = refl }, r.2))

-- a call that met its contract is the call as it is made
host_made_is : (tags packs s : List ℕ) (m : HostMade) (cs : List HostMade) → HostRan tags packs s (m ∷ cs) → m ≡ host_made_of tags packs s (host_asked_by m)
unfolding HostRan
host_made_is tags packs s m cs r = λ i. record { target = m.target; slice = m.slice; left = r.0.bytes i; number = r.0.answer i }

pub host_ran_unique : (tags packs first : List ℕ) (these those : List HostMade) → HostRan tags packs first these → HostRan tags packs first those
    → host_asked these ≡ host_asked those → these ≡ those
unfolding host_asked HostRan
host_ran_unique tags packs s [] [] q r e = refl
host_ran_unique tags packs s [] (d ∷ ds) q r e = absurd_number (cc)
host_ran_unique tags packs s (c ∷ cs) [] q r e = absurd_number (cc)
host_ran_unique tags packs s (c ∷ cs) (d ∷ ds) q r e =
    let f : host_asked_by c ≡ host_asked_by d = cc in
    let g : host_asked cs ≡ host_asked ds = cc in
    let h : c ≡ d = host_made_is tags packs s c cs q ∙ ap (host_made_of tags packs s) f ∙ sym (host_made_is tags packs s d ds r) in
    ap₂ (λ (x : HostMade) (l : List HostMade). x ∷ l) h (host_ran_unique tags packs (host_kept_by s c) cs ds q.1 (rw h r.1) g)
