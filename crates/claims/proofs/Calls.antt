-- The functions of `src/`: calls that met the contract of the regrouping call are runs; each fact in the shape of its need.
use mathlib.Core.Path.{◌≡◌, refl, sym, ap, ◌∙◌}
use mathlib.Core.List.{List, [], ◌∷◌}
use Prim.Native.Nat.{ℕ, ◌≤◌}
use native.Mathlib.Omega.{arith}
use lib.ListN.{length, take}
use lib.Seq.{length-take-le}
use Rattle.std.specs.Prelude.{Result, Ok, Err}
use Rattle.klv.proofs.Cases.{absurd_number}
use Rattle.klv.proofs.Paste.{length_pasted}
use Rattle.groups.specs.declared.refusal.Refusal.{Refusal}
use Rattle.groups.specs.declared.refusal.Refused.{Refused}
use Rattle.groups.specs.Refusal.{Answer, ok, refused}
use Rattle.groups.specs.Regroup.{regroup_of, regrouped, output_left, Regroups}
use Rattle.groups.proofs.regroup.Accepted.{accepted_told}
use Rattle.claims.specs.Made.{kept_from, Ran}

module _ (tags packs target s d x : List ℕ) (r : Result ℕ (Refused Refusal)) (o : Regroups tags packs target s d x r) where
  pub ran_one : Ran tags packs s (record { target = target; slice = d; left = x; answer = r } ∷ [])
  unfolding Ran
  ran_one = (o, tt)

  -- a length is one of the slice's
  pub length_within_law : (n : ℕ) → r ≡ Ok n → n ≤ length x
  length_within_law n e = go (regroup_of tags packs target s (length d)) refl (sym e ∙ o.answer) o.bytes
    where
      go : (a : Answer (List ℕ)) → regroup_of tags packs target s (length d) ≡ a → Ok n ≡ regrouped a → x ≡ output_left d a → n ≤ length x
      go (ok w) f g h =
          let m : n ≡ length w = cc in
          let k : length x ≡ length d = ap length h ∙ length_pasted d 0 w (omega (arith, (accepted_told tags packs target s (length d) w f).fits)) in
          omega (arith, (accepted_told tags packs target s (length d) w f).fits)
      go (refused q p) f g h = absurd_number (cc)

  pub length_kept : (n : ℕ) → r ≡ Ok n → length (take n x) ≡ n
  length_kept n e = length-take-le n x (length_within_law n e)

  module _ (next e y : List ℕ) (q : Result ℕ (Refused Refusal)) where
    pub ran_accepted : (n : ℕ) → r ≡ Ok n → Regroups tags packs next (take n x) e y q
        → Ran tags packs s (record { target = target; slice = d; left = x; answer = Ok n } ∷ record { target = next; slice = e; left = y; answer = q } ∷ [])
    unfolding Ran
    ran_accepted n f p = (rw f at o, (p, tt))

    pub ran_refused : (w : Refused Refusal) → r ≡ Err w → Regroups tags packs next s e y q
        → Ran tags packs s (record { target = target; slice = d; left = x; answer = r } ∷ record { target = next; slice = e; left = y; answer = q } ∷ [])
    unfolding Ran
    ran_refused w f m = let k : kept_from s x r ≡ s = ap (kept_from s x) f in (o, rw k (m, tt))
