-- The triplets of a feed, one after the other; and that joined they are the feed.
use mathlib.Core.Path.{◌≡◌, refl, ap}
use mathlib.Core.List.{List, [], ◌∷◌}
use mathlib.Core.Option.{Option, none, some}
use Prim.Native.Nat.{ℕ, zero, suc, ◌+◌, ◌-◌, ◌<◌, ◌≤◌}
use native.Mathlib.Omega.{arith}
use lib.ListN.{length, take, drop, length-drop}
use lib.Seq.{drop-drop}
use Rattle.feed.specs.Triplets.{triplet_size, Split, whole, broken, before, next, split}
use Rattle.feed.specs.FeedText.{TripletAt}
use Rattle.feed.proofs.TripletLaws.{size_told, triplet_long}

-- the triplets of a list, the next at `index`
abbrev pub triplets_from : ℕ → List ℕ → Split
triplets_from index l = split (length l) index l

next_alike : (index : ℕ) (l : List ℕ) (o : Option ℕ) (f g : ℕ → Split) → triplet_size l ≡ o → ((n : ℕ) → TripletAt l n → f n ≡ g n) → next index l o f ≡ next index l o g
next_alike index l none f g e h = refl
next_alike index l (some n) f g e h = ap (before (take n l)) (h n (size_told l n e))

-- any number of steps that is no less than the bytes gives the same
split_enough : (m k index : ℕ) (l : List ℕ) → length l ≤ m → length l ≤ k → split m index l ≡ split k index l
unfolding split
split_enough zero zero index l h g = refl
split_enough zero (suc k) index [] h g = refl
split_enough zero (suc k) index (b ∷ bs) h g = absurd (let z : ⊥ = omega arith in z)
split_enough (suc m) zero index [] h g = refl
split_enough (suc m) zero index (b ∷ bs) h g = absurd (let z : ⊥ = omega arith in z)
split_enough (suc m) (suc k) index [] h g = refl
split_enough (suc m) (suc k) index (b ∷ bs) h g =
    next_alike index (b ∷ bs) (triplet_size (b ∷ bs)) _ _ refl
    (λ n t. split_enough m k (suc index) (drop n (b ∷ bs))
    (omega (arith, length-drop n (b ∷ bs), triplet_long (b ∷ bs) n t))
    (omega (arith, length-drop n (b ∷ bs), triplet_long (b ∷ bs) n t)))

-- ---- one step

pub split_done : (index : ℕ) (l : List ℕ) → length l ≤ 0 → triplets_from index l ≡ whole []
unfolding split
split_done index [] h = refl
split_done index (b ∷ bs) h = absurd (let z : ⊥ = omega arith in z)

pub split_stops : (index : ℕ) (l : List ℕ) → 0 < length l → triplet_size l ≡ none → triplets_from index l ≡ broken index
unfolding split
split_stops index [] h e = absurd (let z : ⊥ = omega arith in z)
split_stops index (b ∷ bs) h e = rw e

pub split_step : (index : ℕ) (l : List ℕ) (n : ℕ) → triplet_size l ≡ some n → triplets_from index l ≡ before (take n l) (triplets_from (suc index) (drop n l))
unfolding split
split_step index [] n e = absurd (let z : ⊥ = omega (arith, (size_told [] n e).key) in z)
split_step index (b ∷ bs) n e =
    let t : TripletAt (b ∷ bs) n = size_told (b ∷ bs) n e in
    rw e
    (ap (before (take n (b ∷ bs)))
    (split_enough (length bs) (length (drop n (b ∷ bs))) (suc index) (drop n (b ∷ bs))
    (omega (arith, length-drop n (b ∷ bs), triplet_long (b ∷ bs) n t)) (omega arith)))

-- the same at a position of a feed
pub split_at : (feed : List ℕ) (at index n : ℕ) → triplet_size (drop at feed) ≡ some n
    → triplets_from index (drop at feed) ≡ before (take (at + n - at) (drop at feed)) (triplets_from (index + 1) (drop (at + n) feed))
split_at feed at index n e =
    let p : at + n - at ≡ n = omega arith in
    let i : index + 1 ≡ suc index = omega arith in
    rw (p, i, ← drop-drop n at feed) (split_step index (drop at feed) n e)
