-- Every list of targets and slices has a run, and only one.
use mathlib.Core.Path.{◌≡◌, refl, sym, ap, ap₂, ◌∙◌}
use mathlib.Core.List.{List, [], ◌∷◌}
use Prim.Native.Nat.{ℕ}
use Rattle.klv.proofs.Cases.{absurd_number}
use lib.ListN.{length}
use Rattle.groups.specs.Refusal.{Answer}
use Rattle.groups.specs.Regroup.{regroup_of, regrouped, output_left}
use Rattle.groups.proofs.regroup.RegroupReads.{says_of}
use Rattle.claims.specs.Made.{Made, kept_by, Ran, Call, asked_by, asked}

-- what the library answers to a call on the bytes s
abbrev pub answer : List ℕ → List ℕ → List ℕ → Call → Answer (List ℕ)
answer tags packs s c = regroup_of tags packs c.target s (length c.slice)

-- the call as it is made on the bytes s
abbrev pub made_of : List ℕ → List ℕ → List ℕ → Call → Made
made_of tags packs s c = record {
  target = c.target;
  slice = c.slice;
  left = output_left c.slice (answer tags packs s c);
  answer = regrouped (answer tags packs s c);
}

pub ran_exists : (tags packs first : List ℕ) (calls : List Call) → (made : List Made) × (asked made ≡ calls) × Ran tags packs first made
unfolding asked Ran
ran_exists tags packs s [] = ([], refl, tt)
ran_exists tags packs s (c ∷ cs) =
    let m : Made = made_of tags packs s c in
    let r = ran_exists tags packs (kept_by s m) cs in
    (m ∷ r.0, ap (λ (l : List Call). c ∷ l) r.1, (record { answer = refl; says = says_of (answer tags packs s c); bytes = refl }, r.2))

-- a call that met its contract is the call as it is made
pub made_is : (tags packs s : List ℕ) (m : Made) (cs : List Made) → Ran tags packs s (m ∷ cs) → m ≡ made_of tags packs s (asked_by m)
unfolding Ran
made_is tags packs s m cs r = λ i. record {
  target = m.target;
  slice = m.slice;
  left = r.0.bytes i;
  answer = r.0.answer i;
}

pub ran_unique : (tags packs first : List ℕ) (these those : List Made) → Ran tags packs first these → Ran tags packs first those → asked these ≡ asked those → these ≡ those
unfolding asked Ran
ran_unique tags packs s [] [] q r e = refl
ran_unique tags packs s [] (d ∷ ds) q r e = absurd_number (cc)
ran_unique tags packs s (c ∷ cs) [] q r e = absurd_number (cc)
ran_unique tags packs s (c ∷ cs) (d ∷ ds) q r e =
    let f : asked_by c ≡ asked_by d = cc in
    let g : asked cs ≡ asked ds = cc in
    let h : c ≡ d = made_is tags packs s c cs q ∙ ap (made_of tags packs s) f ∙ sym (made_is tags packs s d ds r) in
    ap₂ (λ (x : Made) (l : List Made). x ∷ l) h
    (ran_unique tags packs (kept_by s c) cs ds q.1 (rw h r.1) g)
