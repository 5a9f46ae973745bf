-- Module `measure`: each fact in the shape of its need.
use mathlib.Core.Path.{◌≡◌, refl, sym, ap, ◌∙◌}
use mathlib.Core.Bool.{Bool, true, false}
use mathlib.Core.List.{List, []}
use mathlib.Core.Option.{some}
use Prim.Native.Nat.{ℕ, ◌+◌, ◌-◌, ◌*◌, ◌^◌, ◌<◌, ◌≤◌}
use native.Mathlib.Omega.{arith}
use mir.Val.{Fits}
use mir.Syntax.{w64}
use lib.ListN.{length, take, drop, length-drop}
use lib.Seq.{length-take-le}
use Rattle.std.specs.Prelude.{Option, Some, None, Result, Ok, Err}
use Rattle.klv.specs.Bytes.{same}
use Rattle.klv.proofs.Cases.{absurd_number}
use Rattle.groups.specs.declared.refusal.Refusal.{Refusal}
use Rattle.groups.specs.declared.refusal.Refused.{Refused}
use Rattle.groups.specs.Refusal as plain
use Rattle.groups.specs.Regroup.{RegroupLength, regroup_long, regrouped}
use Rattle.groups.proofs.regroup.Accepted.{accepted_told}
use Rattle.feed.specs.declared.fault.Fault.TheVariants.{Triplet}
use Rattle.feed.specs.declared.fault.Tally.{Tally}
use Rattle.feed.specs.Triplets.{triplet_size, Split, whole, triplets}
use Rattle.feed.specs.Feed.{Setting, has_source, plainly, or_same, image}
use Rattle.feed.specs.FeedText.{TripletAt}
use Rattle.feed.specs.Walk.{or_none, tallied, Small, measured}
use Rattle.feed.proofs.TripletLaws.{size_told, size_by_value, none_by_value, triplet_long}
use Rattle.feed.proofs.SplitLaws.{triplets_from, split_done, split_stops, split_at}
use Rattle.feed.proofs.TallyLaws.{image_other, image_own, image_most, one_each, tally_same, added, measured_more, measured_end}

-- ---- one triplet

-- what an answer by value tells of the answer
answer_length : {P : Type 0} (a : plain.Answer (List ℕ)) (n : ℕ) → regrouped a ≡ Ok n → ((w : List ℕ) → a ≡ plain.ok w → length w ≡ n → P) → P
answer_length (plain.ok w) n z k = k w refl (cc)
answer_length (plain.refused u p) n z k = absurd_number (cc)

answer_refused : {P : Type 0} (a : plain.Answer (List ℕ)) (e : Refused Refusal) → regrouped a ≡ Err e → (a ≡ plain.refused e.why e.place → P) → P
answer_refused (plain.ok w) e z k = absurd_number (cc)
answer_refused (plain.refused u v) e z k = let x : u ≡ e.why = cc in let o : v ≡ e.place = cc in k (rw (x, o))

pub length_fits : (tags packs target t : List ℕ) (y : Tally) (r : Result ℕ (Refused Refusal)) (n : ℕ) → RegroupLength tags packs target t r → r ≡ Ok n → Small y t → Fits w64 (y.length + n)
length_fits tags packs target t y r n l g m =
    answer_length (regroup_long tags packs target t) n (sym l.answer ∙ g) (λ w q z. omega (arith, m.length_most, (accepted_told tags packs target t 65536 w q).most))

module _ (s : Setting) (t : List ℕ) (y : Tally) (b : Bool) (e : b ≡ same (take 16 t) s.source) where
  own_is : (x : Bool) → b ≡ x → has_source s t ≡ x
  own_is x f = sym e ∙ f

  pub other_tallied : b ≡ false
      → ◌≡◌ {A = Tally} (record { length = y.length + length t; regrouped = y.regrouped; refused = y.refused; others = y.others + 1 }) (tallied s y t)
  other_tallied f =
      let h : has_source s t ≡ false = own_is false f in
      tally_same _ _ _ _ _ _ _ _ (rw (image_other s t h)) (rw h (omega arith)) (rw h (omega arith)) (rw h)

  module _ (f : b ≡ true) (r : Result ℕ (Refused Refusal)) (l : RegroupLength s.tags s.packs s.target t r) where
    length_told : {P : Type 0} (n : ℕ) → r ≡ Ok n → ((w : List ℕ) → plainly s t ≡ plain.ok w → length w ≡ n → P) → P
    length_told n g k = answer_length (plainly s t) n (sym l.answer ∙ g) k

    refused_told : {P : Type 0} (v : Refused Refusal) → r ≡ Err v → (plainly s t ≡ plain.refused v.why v.place → P) → P
    refused_told v g k = answer_refused (plainly s t) v (sym l.answer ∙ g) k

    pub regrouped_tallied : (n : ℕ) → r ≡ Ok n
        → ◌≡◌ {A = Tally} (record { length = y.length + n; regrouped = y.regrouped + 1; refused = y.refused; others = y.others }) (tallied s y t)
    regrouped_tallied n g =
        length_told n g
        (λ w q z.
        let h : has_source s t ≡ true = own_is true f in
        let i : image s t ≡ w = image_own s t h ∙ ap (or_same t) q in
        tally_same _ _ _ _ _ _ _ _ (rw (i, z)) (rw (h, q)) (rw (h, q) (omega arith)) (rw h (omega arith)))

    pub refused_tallied : (v : Refused Refusal) → r ≡ Err v
        → ◌≡◌ {A = Tally} (record { length = y.length + length t; regrouped = y.regrouped; refused = y.refused + 1; others = y.others }) (tallied s y t)
    refused_tallied v g =
        refused_told v g
        (λ q.
        let h : has_source s t ≡ true = own_is true f in
        let i : image s t ≡ t = image_own s t h ∙ ap (or_same t) q in
        tally_same _ _ _ _ _ _ _ _ (rw i) (rw (h, q) (omega arith)) (rw (h, q)) (rw h (omega arith)))

pub small_long : (y : Tally) (t : List ℕ) → Small y t → 16 ≤ length t
small_long y t m = m.long

-- ---- one after the other

-- the triplets before `at` are tallied, and `index` is the next
pub record Measuring (s : Setting) (feed : List ℕ) (y : Tally) (at index : ℕ) : Type 0 where
  pub within : at ≤ length feed
  pub length_most : y.length ≤ 65536 * at
  pub counted : y.regrouped + y.refused + y.others ≡ index
  pub few : index ≤ at
  pub rest : measured s (triplets feed) ≡ added y (measured s (triplets_from index (drop at feed)))

module _ (s : Setting) (feed : List ℕ) (y : Tally) (at index : ℕ) (q : Measuring s feed y at index) where
  pub measuring_within : at ≤ length feed
  measuring_within = q.within

  pub measuring_end : length feed ≤ at → Ok y ≡ measured s (triplets feed)
  measuring_end h =
      let e : triplets_from index (drop at feed) ≡ whole [] = split_done index (drop at feed) (omega (arith, length-drop at feed)) in
      sym (q.rest ∙ rw e (measured_end s y))

  module _ (x : Option ℕ) (e : x ≡ or_none (triplet_size (drop at feed))) (h : at < length feed) where
    pub measuring_none : x ≡ None → Err (record { why = Triplet; place = index }) ≡ measured s (triplets feed)
    measuring_none g =
        let z : triplets_from index (drop at feed) ≡ _ = split_stops index (drop at feed) (omega (arith, length-drop at feed)) (none_by_value (drop at feed) x e g) in
        sym (q.rest ∙ rw z refl)

    module _ (n : ℕ) (g : x ≡ Some n) where
      sized : triplet_size (drop at feed) ≡ some n
      sized = size_by_value (drop at feed) x n e g

      triplet : TripletAt (drop at feed) n
      triplet = size_told (drop at feed) n sized

      long : 17 ≤ n
      long = triplet_long (drop at feed) n triplet

      pub end_within : at + n ≤ length feed
      end_within = omega (arith, triplet.there, length-drop at feed)

      pub end_fits : length feed < 2 ^ 64 → Fits w64 (at + n)
      end_fits l = omega (arith, end_within)

      pub index_fits : length feed < 2 ^ 64 → Fits w64 (index + 1)
      index_fits l = omega (arith, q.few)

      part_long : length (take (at + n - at) (drop at feed)) ≡ n
      part_long = let p : at + n - at ≡ n = omega arith in rw p (length-take-le n (drop at feed) triplet.there)

      pub triplet_small : length feed ≤ 1048576 → Small y (take (at + n - at) (drop at feed))
      triplet_small l =
          record {
            length_most = omega (arith, q.length_most, q.within);
            regrouped_most = omega (arith, q.counted, q.few, q.within);
            refused_most = omega (arith, q.counted, q.few, q.within);
            others_most = omega (arith, q.counted, q.few, q.within);
            long = omega (arith, part_long, long);
            most = omega (arith, part_long, end_within);
          }

      pub measuring_again : (z : Tally) → z ≡ tallied s y (take (at + n - at) (drop at feed))
          → Measuring s feed z (at + n) (index + 1)
      measuring_again z f =
          let t = take (at + n - at) (drop at feed) in
          rw f
          (record {
            within = end_within;
            length_most = omega (arith, q.length_most, image_most s t, part_long, long);
            counted = omega (arith, q.counted, one_each s t);
            few = omega (arith, q.few, long);
            rest = q.rest ∙ ap (λ (x : Split). added y (measured s x)) (split_at feed at index n sized)
                ∙ measured_more s y t (triplets_from (index + 1) (drop (at + n) feed));
          })
