-- The C entries: each fact in the shape of its need.
use mathlib.Core.Path.{◌≡◌, sym, ◌∙◌}
use mathlib.Core.List.{List}
use Prim.Native.Nat.{ℕ, ◌+◌, ◌*◌, ◌≤◌}
use native.Mathlib.Omega.{arith}
use mir.Val.{Fits}
use mir.Syntax.{w64}
use lib.ListN.{length, take}
use Rattle.std.specs.Prelude.{Result, Ok, Err}
use Rattle.klv.proofs.Cases.{absurd_number}
use Rattle.groups.specs.declared.kind.Kind.{Kind}
use Rattle.groups.specs.declared.listing.Listed.{Listed}
use Rattle.groups.specs.declared.refusal.Refusal.{Refusal}
use Rattle.groups.specs.declared.refusal.Refused.{Refused}
use Rattle.groups.specs.Refusal.{Answer, ok, refused, number_of}
use Rattle.groups.specs.Kind.{kind_of}
use Rattle.groups.specs.Read.{Entry}
use Rattle.groups.specs.Listing.{listed, listing_of, Lists}
use Rattle.groups.specs.Regroup.{regrouped, regroup_of, Regroups}
use Rattle.groups.proofs.regroup.PlaceLaws.{regroup_place, listing_place, number_most}
use Rattle.perlenhuf.specs.Host.{hosted, HostRegroups, HostLists}
use Rattle.groups.proofs.listing.ListingFacts.{unlisted_told}

-- ---- a refusal as a number

pub million_fits : (r : Refusal) (n : ℕ) → n ≡ number_of r → Fits w64 (1000000 + 1000 * n)
million_fits r n e = omega (arith, number_most r)

-- ---- the regrouping entry

length_told : (a : Answer (List ℕ)) (n : ℕ) → Ok n ≡ regrouped a → n ≡ hosted a
length_told (ok w) n e = cc
length_told (refused r p) n e = absurd_number (cc)

refused_told : {P : Type 0} (a : Answer (List ℕ)) (w : Refused Refusal) → Err w ≡ regrouped a → (a ≡ refused w.why w.place → P) → P
refused_told (ok l) w e f = absurd_number (cc)
refused_told (refused r p) w e f = let a : r ≡ w.why = cc in let b : p ≡ w.place = cc in f (rw (a, b))

module _ (tags packs target group d x : List ℕ) (r : Result ℕ (Refused Refusal)) (o : Regroups tags packs target group d x r) where
  pub host_length : (n : ℕ) → r ≡ Ok n → HostRegroups tags packs target group d x n
  host_length n e = record { answer = length_told (regroup_of tags packs target group (length d)) n (sym e ∙ o.answer); bytes = o.bytes }

  pub host_place : (w : Refused Refusal) → r ≡ Err w → w.place ≤ 256
  host_place w e =
      refused_told (regroup_of tags packs target group (length d)) w (sym e ∙ o.answer) (λ z. regroup_place tags packs target group (length d) w.why w.place z)

-- ---- the listing entry

count_told : (kind : Kind) (a : Answer (List Entry)) (l : Listed) → Ok l ≡ listed kind a → l.count ≡ hosted a
count_told kind (ok es) l e = cc
count_told kind (refused r p) l e = absurd_number (cc)

module _ (tags packs group d x e y : List ℕ) (r : Result Listed (Refused Refusal)) (o : Lists tags packs group d x e y r) where
  pub host_count : (l : Listed) → r ≡ Ok l → HostLists tags packs group d x e y l.count
  host_count l q = record { answer = count_told (kind_of (take 16 group)) (listing_of tags packs group (length d) (length e)) l (sym q ∙ o.answer); keys = o.keys; numbers = o.numbers }

  pub list_place : (w : Refused Refusal) → r ≡ Err w → w.place ≤ 256
  list_place w q =
      unlisted_told (kind_of (take 16 group)) (listing_of tags packs group (length d) (length e)) w (sym q ∙ o.answer) (λ z. listing_place tags packs group (length d) (length e) w.why w.place z)
