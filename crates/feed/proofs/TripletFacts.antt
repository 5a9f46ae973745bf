-- Module `triplet`: each fact in the shape of its need.
use mathlib.Core.Path.{◌≡◌, refl, sym, ap, ◌∙◌}
use mathlib.Core.Bool.{Bool}
use mathlib.Core.List.{List}
use Prim.Native.Nat.{ℕ, ◌+◌, ◌-◌, ◌<◌, ◌≤◌}
use native.Mathlib.Omega.{arith}
use lib.ListN.{length, take, drop, length-drop}
use lib.Seq.{drop-drop}
use Rattle.std.specs.Prelude.{Option, Some, None, Ok, Err}
use Rattle.std.specs.Result.{result_ok}
use Rattle.std.proofs.lemmas.Option.{same_Some}
use Rattle.klv.specs.Bytes.{same}
use Rattle.klv.specs.Key.{key_or_zeros}
use Rattle.klv.specs.Layout.{read_as}
use Rattle.klv.specs.declared.layout.Form.TheVariants.{Ber}
use Rattle.klv.specs.declared.layout.Number.{Number}
use Rattle.klv.specs.declared.layout.NumberError.TheVariants.{Missing, Malformed}
use Rattle.klv.specs.Number.{Read, Value}
use Rattle.klv.proofs.Cases.{absurd_number}
use Rattle.klv.proofs.KeyLaws.{key_or_zeros_whole}
use Rattle.klv.proofs.LayoutLaws.{read_within}
use Rattle.feed.specs.Triplets.{triplet_size}
use Rattle.feed.specs.FeedText.{TripletAt, NoTriplet, key_cut_off, length_cut_off, length_malformed, value_too_long}
use Rattle.feed.specs.Walk.{or_none}
use Rattle.feed.proofs.TripletLaws.{size_found, size_none}

no_size : (l : List ℕ) → NoTriplet l → None ≡ or_none (triplet_size l)
no_size l n = rw (size_none l n)

module _ (feed : List ℕ) (at : ℕ) where
  rest_long : length (drop at feed) ≡ length feed - at
  rest_long = length-drop at feed

  pub key_cut : length feed - at < 16 → None ≡ or_none (triplet_size (drop at feed))
  key_cut h = no_size (drop at feed) (key_cut_off (omega (arith, rest_long)))

  module _ (h : 16 ≤ length feed - at) (x : Read) (e : x ≡ read_as Ber (drop (at + 16) feed)) where
    key_there : 16 ≤ length (drop at feed)
    key_there = omega (arith, rest_long)

    length_is : (y : Read) → x ≡ y → read_as Ber (drop 16 (drop at feed)) ≡ y
    length_is y f = ap (read_as Ber) (drop-drop 16 at feed) ∙ sym e ∙ f

    no_length : (y : Read) → x ≡ y → result_ok y ≡ None → None ≡ or_none (triplet_size (drop at feed))
    no_length (Ok n) f g = absurd_number (cc)
    no_length (Err Missing) f g = no_size (drop at feed) (length_cut_off key_there (length_is (Err Missing) f))
    no_length (Err Malformed) f g = no_size (drop at feed) (length_malformed key_there (length_is (Err Malformed) f))

    a_length : (y : Read) (n : Number) → x ≡ y → result_ok y ≡ Some n → read_as Ber (drop 16 (drop at feed)) ≡ Value n.value n.width
    a_length (Ok m) n f g = let z : m ≡ n = same_Some m n g in length_is (Value n.value n.width) (f ∙ ap Ok z)
    a_length (Err d) n f g = absurd_number (cc)

    module _ (o : Option Number) (p : o ≡ result_ok x) where
      pub length_none : o ≡ None → (r : Option ℕ) → r ≡ None → r ≡ or_none (triplet_size (drop at feed))
      length_none f r g = g ∙ no_length x refl (sym p ∙ f)

      module _ (n : Number) (f : o ≡ Some n) where
        reads : read_as Ber (drop 16 (drop at feed)) ≡ Value n.value n.width
        reads = a_length x n refl (sym p ∙ f)

        width_in_law : 16 + n.width ≤ length feed - at
        width_in_law =
            let q : (0 < n.width) × (n.width ≤ length (drop 16 (drop at feed))) = read_within Ber (drop 16 (drop at feed)) n.value n.width reads in
            omega (arith, rest_long, length-drop 16 (drop at feed))

        pub width_left : 16 + n.width ≤ length feed - at
        width_left = width_in_law

        pub value_long : length feed - at - (16 + n.width) < n.value → None ≡ or_none (triplet_size (drop at feed))
        value_long g = no_size (drop at feed) (value_too_long n.value n.width key_there reads (omega (arith, rest_long)))

        pub size_is : n.value ≤ length feed - at - (16 + n.width) → Some (16 + n.width + n.value) ≡ or_none (triplet_size (drop at feed))
        size_is g =
            let t : TripletAt (drop at feed) (16 + n.width + n.value) =
            record { width = n.width; value = n.value; key = key_there; reads = reads; size = refl; there = omega (arith, rest_long, width_in_law) } in
            rw (size_found (drop at feed) (16 + n.width + n.value) t)

-- ---- the source key

pub source_is : (t source f : List ℕ) (b : Bool) → f ≡ key_or_zeros (drop 0 t) → b ≡ same f source → 16 ≤ length t → b ≡ same (take 16 t) source
source_is t source f b e g h = g ∙ ap (λ (k : List ℕ). same k source) (e ∙ key_or_zeros_whole t h)
