-- Module `lists`: each fact in the shape of its need.
use mathlib.Core.Path.{◌≡◌, sym, ap, ◌∙◌}
use mathlib.Core.List.{List}
use Prim.Native.Nat.{ℕ, ◌≤◌}
use native.Mathlib.Omega.{arith}
use Rattle.std.specs.Prelude.{Result, Ok, Err}
use lib.ListN.{length, take}
use Rattle.klv.proofs.Cases.{absurd_number}
use Rattle.groups.specs.declared.kind.Kind.{Kind}
use Rattle.groups.specs.declared.listing.Listed.{Listed}
use Rattle.groups.specs.declared.refusal.Refusal.{Refusal}
use Rattle.groups.specs.declared.refusal.Refused.{Refused}
use Rattle.groups.specs.Kind.{kind_of}
use Rattle.groups.specs.Refusal as plain
use Rattle.groups.specs.Listing.{listing_of, Lists}
use Rattle.groups.proofs.listing.ListingFacts.{listed_told, unlisted_told}
use Rattle.groups.proofs.regroup.PlaceLaws.{listing_place as plain-place, number_most}
use Rattle.deep.specs.declared.fault.Fault.{Fault}
use Rattle.deep.specs.Tree.{Answer, ok, refused, Tree}
use Rattle.deep.specs.Deep.{fault_number, count_of, tree_longer, listing_answer, deep_listing_of, DeepLists}
use Rattle.deep.proofs.PlaceLaws.{listing_place}
use Rattle.probe.specs.Sets.{coded}
use Rattle.probe.specs.Lists.{deep_list_host, deep_longer_left, ProbeLonger, ProbeDeepListing, ProbeDeepLonger}

-- ---- the plain listing

pub number_small : (r : Refusal) (n : ℕ) → n ≡ plain.number_of r → n ≤ 1000
number_small r n e = omega (arith, number_most r)

module _ (tags packs group d x e y : List ℕ) (a : Result Listed (Refused Refusal)) (o : Lists tags packs group d x e y a) where
  pub list_counted : (l : Listed) (k : ℕ) → a ≡ Ok l → ProbeLonger tags packs group d x e y k l.longer l.count
  list_counted l k q =
      listed_told (kind_of (take 16 group)) (listing_of tags packs group (length d) (length e)) l (sym q ∙ o.answer)
      (λ es z m f. record { answer = rw z (sym m); longer = rw z (sym f); keys = o.keys; numbers = o.numbers })

  pub list_place : (w : Refused Refusal) → a ≡ Err w → w.place ≤ 256
  list_place w q =
      unlisted_told (kind_of (take 16 group)) (listing_of tags packs group (length d) (length e)) w (sym q ∙ o.answer)
      (λ z. plain-place tags packs group (length d) (length e) w.why w.place z)

  pub list_refused : (w : Refused Refusal) (n k s : ℕ) → a ≡ Err w → n ≡ plain.number_of w.why → s ≡ coded n w.place → ProbeLonger tags packs group d x e y k k s
  list_refused w n k s q g h =
      unlisted_told (kind_of (take 16 group)) (listing_of tags packs group (length d) (length e)) w (sym q ∙ o.answer)
      (λ z. record { answer = rw z (rw g at h); longer = rw z; keys = o.keys; numbers = o.numbers })

-- ---- the deep listing

counted_told : (kind : Kind) (a : Answer Tree) (l : Listed) → Ok l ≡ listing_answer kind a → (l.count ≡ deep_list_host a) × ((k : ℕ) → l.longer ≡ deep_longer_left kind k a)
counted_told kind (ok t) l e = let z : l ≡ record { count = count_of t; longer = length (tree_longer kind t) } = cc in (ap (λ (v : Listed). v.count) z, λ k. ap (λ (v : Listed). v.longer) z)
counted_told kind (refused f p) l e = absurd_number (cc)

refused_told : (kind : Kind) (a : Answer Tree) (r : Refused Fault) → Err r ≡ listing_answer kind a → a ≡ refused r.why r.place
refused_told kind (ok t) r e = absurd_number (cc)
refused_told kind (refused g o) r e = let z : record { why = g; place = o } ≡ r = cc in rw (← z)

module _ (tags group d x e y : List ℕ) (a : Result Listed (Refused Fault)) (o : DeepLists tags group d x e y a) where
  pub deep_counted : (l : Listed) → a ≡ Ok l → ProbeDeepListing tags group d x e y l.count
  deep_counted l q =
      record {
        answer = (counted_told (kind_of (take 16 group)) (deep_listing_of tags group (length d) (length e)) l (sym q ∙ o.answer)).0;
        keys = o.keys;
        numbers = o.numbers;
      }

  pub deep_longer : (l : Listed) (k : ℕ) → a ≡ Ok l → ProbeDeepLonger tags group d x e y k l.longer l.count
  deep_longer l k q =
      record {
        listing = deep_counted l q;
        longer = (counted_told (kind_of (take 16 group)) (deep_listing_of tags group (length d) (length e)) l (sym q ∙ o.answer)).1 k;
      }

  unlisted : (r : Refused Fault) → a ≡ Err r → deep_listing_of tags group (length d) (length e) ≡ refused r.why r.place
  unlisted r q = refused_told (kind_of (take 16 group)) (deep_listing_of tags group (length d) (length e)) r (sym q ∙ o.answer)

  pub deep_list_place : (r : Refused Fault) → a ≡ Err r → r.place ≤ 256
  deep_list_place r q = listing_place tags group (length d) (length e) r.why r.place (unlisted r q)

  pub deep_unlisted : (r : Refused Fault) (n s : ℕ) → a ≡ Err r → n ≡ fault_number r.why → s ≡ coded n r.place → ProbeDeepListing tags group d x e y s
  deep_unlisted r n s q g h = record { answer = rw (unlisted r q) (rw g at h); keys = o.keys; numbers = o.numbers }

  pub deep_not_longer : (r : Refused Fault) (n k s : ℕ) → a ≡ Err r → n ≡ fault_number r.why → s ≡ coded n r.place → ProbeDeepLonger tags group d x e y k k s
  deep_not_longer r n k s q g h = record { listing = deep_unlisted r n s q g h; longer = rw (unlisted r q) }
