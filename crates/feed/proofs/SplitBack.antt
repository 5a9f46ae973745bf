-- A feed is split into the triplets that it is joined from, and where it is not, at the first that is none.
use mathlib.Core.Path.{◌≡◌, refl, ap, ◌∙◌}
use mathlib.Core.List.{List, [], ◌∷◌, ◌++◌, append_assoc, append-nil}
use mathlib.Core.Option.{Option, none, some}
use Prim.Native.Nat.{ℕ, zero, suc, ◌+◌, ◌<◌, ◌≤◌}
use native.Mathlib.Omega.{arith}
use lib.ListN.{length, take, drop, length-drop, take-append-drop}
use lib.Seq.{take_at, drop_at}
use Rattle.feed.specs.Triplets.{triplet_size, Split, whole, broken, before, next, split, triplets, joined}
use Rattle.feed.specs.FeedText.{TripletAt, AllTriplets, FirstNone}
use Rattle.feed.proofs.TripletLaws.{size_found, size_told, size_none, none_told, triplet_long, triplet_goes_on, triplet_own}
use Rattle.feed.proofs.SplitLaws.{triplets_from, split_done, split_stops, split_step}

-- ---- joined and split

pub joined_more : (t : List ℕ) (ts : List (List ℕ)) → joined (t ∷ ts) ≡ t ++ joined ts
unfolding joined
joined_more t ts = refl

pub joined_none : joined [] ≡ []
unfolding joined
joined_none = refl

-- triplets before what is split
abbrev befores : List (List ℕ) → Split → Split
befores [] x = x
befores (t ∷ ts) x = before t (befores ts x)

split_joined : (index : ℕ) (ts : List (List ℕ)) (rest : List ℕ) → AllTriplets ts → triplets_from index (joined ts ++ rest) ≡ befores ts (triplets_from (length ts + index) rest)
split_joined index [] rest a = let z : index ≡ 0 + index = omega arith in rw joined_none (ap (λ (n : ℕ). triplets_from n rest) z)
split_joined index (t ∷ ts) rest a =
    let e : joined (t ∷ ts) ++ rest ≡ t ++ (joined ts ++ rest) = rw (joined_more t ts) (append_assoc t (joined ts) rest) in
    let z : triplet_size (t ++ (joined ts ++ rest)) ≡ some (length t) = size_found (t ++ (joined ts ++ rest)) (length t) (triplet_goes_on t (joined ts ++ rest) (length t) a.0) in
    let i : length ts + suc index ≡ length (t ∷ ts) + index = omega arith in
    rw e
    (split_step index (t ++ (joined ts ++ rest)) (length t) z
    ∙ rw (take_at t (joined ts ++ rest) (length t) refl, drop_at t (joined ts ++ rest) (length t) refl)
    (ap (before t) (split_joined (suc index) ts rest a.1 ∙ ap (λ (n : ℕ). befores ts (triplets_from n rest)) i)))

befores_whole : (ts : List (List ℕ)) → befores ts (whole []) ≡ whole ts
befores_whole [] = refl
befores_whole (t ∷ ts) = ap (before t) (befores_whole ts)

befores_broken : (ts : List (List ℕ)) (i : ℕ) → befores ts (broken i) ≡ broken i
befores_broken [] i = refl
befores_broken (t ∷ ts) i = ap (before t) (befores_broken ts i)

pub split_whole : (feed : List ℕ) (ts : List (List ℕ)) → AllTriplets ts → joined ts ≡ feed → triplets feed ≡ whole ts
split_whole feed ts a e =
    let z : joined ts ++ [] ≡ feed = append-nil (joined ts) ∙ e in
    rw (← z) (split_joined 0 ts [] a ∙ ap (befores ts) (split_done (length ts + 0) [] (omega arith)) ∙ befores_whole ts)

pub split_first : (feed : List ℕ) (i : ℕ) → FirstNone feed i → triplets feed ≡ broken i
split_first feed i n =
    let z : length n.before + 0 ≡ i = omega (arith, n.index) in
    rw (← n.feed_is)
    (split_joined 0 n.before n.rest n.all
    ∙ ap (befores n.before) (split_stops (length n.before + 0) n.rest n.some_left (size_none n.rest n.none))
    ∙ befores_broken n.before (length n.before + 0) ∙ ap broken z)

-- ---- split and joined

-- what the triplets of a list tell of it, the next at `index`
abbrev Told : ℕ → List ℕ → Split → Type 0
Told index l (whole ts) = AllTriplets ts × (joined ts ≡ l)
Told index l (broken i) = (j : ℕ) × (index + j ≡ i) × FirstNone l j

told_none : (index : ℕ) → Told index [] (whole [])
unfolding joined
told_none index = (tt, refl)

told_more : (index n : ℕ) (l : List ℕ) → TripletAt l n → (x : Split) → Told (suc index) (drop n l) x → Told index l (before (take n l) x)
told_more index n l t (whole ts) a = ((triplet_own l n t, a.0), joined_more (take n l) ts ∙ ap (λ (r : List ℕ). take n l ++ r) a.1 ∙ take-append-drop n l)
told_more index n l t (broken i) a =
    let f : FirstNone (drop n l) a.0 = a.2 in (
      suc a.0,
      omega (arith, a.1),
      record {
        before = take n l ∷ f.before;
        rest = f.rest;
        all = (triplet_own l n t, f.all);
        feed_is = rw (joined_more (take n l) f.before) (append_assoc (take n l) (joined f.before) f.rest ∙ ap (λ (r : List ℕ). take n l ++ r) f.feed_is ∙ take-append-drop n l);
        index = ap suc f.index;
        some_left = f.some_left;
        none = f.none;
      },
    )

told_next : (index : ℕ) (l : List ℕ) (o : Option ℕ) (go : ℕ → Split) → 0 < length l → triplet_size l ≡ o
    → ((n : ℕ) → TripletAt l n → Told (suc index) (drop n l) (go n)) → Told index l (next index l o go)
told_next index l none go h e k =
    (0, omega arith, record { before = []; rest = l; all = tt; feed_is = rw joined_none; index = refl; some_left = h; none = none_told l e })
told_next index l (some n) go h e k = told_more index n l (size_told l n e) (go n) (k n (size_told l n e))

split_tells : (m index : ℕ) (l : List ℕ) → length l ≤ m → Told index l (split m index l)
unfolding split
split_tells zero index [] h = told_none index
split_tells zero index (b ∷ bs) h = absurd (let z : ⊥ = omega arith in z)
split_tells (suc m) index [] h = told_none index
split_tells (suc m) index (b ∷ bs) h =
    told_next index (b ∷ bs) (triplet_size (b ∷ bs)) _ (omega arith) refl
    (λ n t. split_tells m (suc index) (drop n (b ∷ bs)) (omega (arith, length-drop n (b ∷ bs), triplet_long (b ∷ bs) n t)))

pub from_tells : (index : ℕ) (l : List ℕ) (ts : List (List ℕ)) → triplets_from index l ≡ whole ts → AllTriplets ts × (joined ts ≡ l)
from_tells index l ts e = let t : Told index l (triplets_from index l) = split_tells (length l) index l (omega arith) in rw e at t

pub whole_tells : (feed : List ℕ) (ts : List (List ℕ)) → triplets feed ≡ whole ts → AllTriplets ts × (joined ts ≡ feed)
whole_tells feed ts e = from_tells 0 feed ts e

pub broken_tells : (feed : List ℕ) (i : ℕ) → triplets feed ≡ broken i → FirstNone feed i
broken_tells feed i e =
    let t : Told 0 feed (triplets feed) = split_tells (length feed) 0 feed (omega arith) in
    let u : Told 0 feed (broken i) = rw e at t in
    let z : u.0 ≡ i = omega (arith, u.1) in
    rw z at u.2
