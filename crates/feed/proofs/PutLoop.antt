-- The loop that writes the feed: what holds before each triplet, and each fact in the shape of its need.
use mathlib.Core.Path.{◌≡◌, refl, sym, ap, ◌∙◌}
use mathlib.Core.Bool.{true}
use mathlib.Core.List.{List, [], ◌∷◌, ◌++◌, append_assoc}
use mathlib.Core.Option.{some}
use Prim.Native.Nat.{ℕ, ◌+◌, ◌-◌, ◌^◌, ◌<◌, ◌≤◌}
use native.Mathlib.Omega.{arith}
use native.Mathlib.Decide.{dec_le}
use mir.Val.{Fits}
use mir.Syntax.{w64}
use lib.ListN.{length, take, drop, length-append, length-drop, take-append-drop}
use lib.Seq.{take_all, take-add, take-take, take-append-le, length-take-le, drop-drop, drop_at}
use Rattle.std.specs.Prelude.{Option, Some, None, IsSome}
use Rattle.klv.specs.Bytes.{pasted}
use Rattle.klv.specs.Placed.{Placed}
use Rattle.klv.proofs.Cases.{absurd_number, test_cases}
use Rattle.klv.proofs.Paste.{pasted_is, pasted_none, length_pasted, pasted_pasted}
use Rattle.klv.proofs.PlacedLaws.{put_bytes}
use Rattle.groups.specs.Arrays.{Put}
use Rattle.feed.specs.Triplets.{triplet_size, Split, whole, broken, before, triplets, joined}
use Rattle.feed.specs.Feed.{Setting, is_regrouped, image, images, those}
use Rattle.feed.specs.FeedText.{TripletAt}
use Rattle.feed.specs.Walk.{or_none, one, is_whole, triplets_of, if_regrouped}
use Rattle.feed.proofs.TripletLaws.{size_told, size_by_value, none_by_value, triplet_long}
use Rattle.feed.proofs.SplitLaws.{triplets_from, split_done, split_stops, split_at}
use Rattle.feed.proofs.SplitBack.{joined_more, joined_none, from_tells}
use Rattle.feed.proofs.TallyLaws.{image_kept, regrouped_long, images_more, images_none, count_more, count_none}

-- a part written before one that stands already
pasted_before : (d a b : List ℕ) (at : ℕ) → at + length a + length b ≤ length d → pasted (pasted d (at + length a) b) at a ≡ pasted d at (a ++ b)
pasted_before d a b at h =
    let l : length (take (at + length a) d) ≡ at + length a = length-take-le (at + length a) d (omega arith) in
    let x : pasted d (at + length a) b ≡ take (at + length a) d ++ (b ++ drop (at + length a + length b) d) = pasted_is d (at + length a) b in
    let u : take at (pasted d (at + length a) b) ≡ take at d =
    rw x (take-append-le at (take (at + length a) d) (b ++ drop (at + length a + length b) d) (omega arith) ∙ take-take at (at + length a) d (omega arith)) in
    let v : drop (at + length a) (pasted d (at + length a) b) ≡ b ++ drop (at + length a + length b) d =
    rw x (drop_at (take (at + length a) d) (b ++ drop (at + length a + length b) d) (at + length a) l) in
    let z : at + length (a ++ b) ≡ at + length a + length b = omega (arith, length-append a b) in
    pasted_is (pasted d (at + length a) b) at a ∙ rw (u, v) (sym (pasted_is d at (a ++ b) ∙ rw z (ap (λ (r : List ℕ). take at d ++ r) (append_assoc a b (drop (at + length a + length b) d)))))

-- ---- triplets that go out as they came

-- what goes out where none is regrouped
none_regrouped : (s : Setting) (ts : List (List ℕ)) → length (those (is_regrouped s) ts) ≤ 0 → images s ts ≡ joined ts
none_regrouped s [] h = rw (images_none s) (sym joined_none)
none_regrouped s (t ∷ ts) h =
    let c : length (those (is_regrouped s) (t ∷ ts)) ≡ one (is_regrouped s t) + length (those (is_regrouped s) ts) = count_more (is_regrouped s) t ts in
    test_cases (is_regrouped s t)
    (λ e. let z : one (is_regrouped s t) ≡ 1 = rw e in absurd (let x : ⊥ = omega arith in x))
    (λ e. rw (images_more s t ts, image_kept s t e, none_regrouped s ts (omega arith)) (sym (joined_more t ts)))

-- ---- one after the other

-- what goes out for the triplets before `from` is written, up to `at`; those from there to `next` go out as they came, and of
-- those after them so many are regrouped as are left
pub record Putting (s : Setting) (feed d out : List ℕ) (at from next left : ℕ) : Type 0 where
  pub index : ℕ
  pub ordered : from ≤ next
  pub within : next ≤ length feed
  pub rest_whole : is_whole (triplets_from index (drop next feed)) ≡ true
  pub count : left ≡ length (those (is_regrouped s) (triplets_of (triplets_from index (drop next feed))))
  pub size : length out ≡ length d
  pub last : at + (next - from) + length (images s (triplets_of (triplets_from index (drop next feed)))) ≡ length (images s (triplets_of (triplets feed)))
  pub bytes : pasted out at (take (next - from) (drop from feed) ++ images s (triplets_of (triplets_from index (drop next feed)))) ≡ pasted d 0 (images s (triplets_of (triplets feed)))

whole_before : (t : List ℕ) (x : Split) → is_whole (before t x) ≡ true → (is_whole x ≡ true) × (triplets_of (before t x) ≡ t ∷ triplets_of x)
whole_before t (whole ts) e = (refl, refl)
whole_before t (broken i) e = absurd_number (cc)

whole_told : {P : Type 0} (x : Split) → is_whole x ≡ true → ((ts : List (List ℕ)) → x ≡ whole ts → P) → P
whole_told (whole ts) e k = k ts refl
whole_told (broken i) e k = absurd_number (cc)

-- a part of a list, and what follows it
run_on : (l : List ℕ) (from next n : ℕ) → from ≤ next → take (next - from) (drop from l) ++ take n (drop next l) ≡ take (next + n - from) (drop from l)
run_on l from next n h =
    let z : next + n - from ≡ (next - from) + n = omega arith in
    let y : from + (next - from) ≡ next = omega arith in
    rw (z, take-add (next - from) n (drop from l), drop-drop (next - from) from l, y)

run_end : (l : List ℕ) (from next : ℕ) → from ≤ next → take (next - from) (drop from l) ++ drop next l ≡ drop from l
run_end l from next h =
    let y : from + (next - from) ≡ next = omega arith in
    let e : drop (next - from) (drop from l) ≡ drop next l = drop-drop (next - from) from l ∙ ap (λ (n : ℕ). drop n l) y in
    rw (← e) (take-append-drop (next - from) (drop from l))

module _ (s : Setting) (feed d out : List ℕ) (at from next left : ℕ) (q : Putting s feed d out at from next left) where
  abbrev rest : Split
  rest = triplets_from q.index (drop next feed)

  abbrev run : List ℕ
  run = take (next - from) (drop from feed)

  run_long : length run ≡ next - from
  run_long = length-take-le (next - from) (drop from feed) (simp length-drop (omega (arith, q.ordered, q.within)))

  -- all that is regrouped is written
  pub putting_end : left ≤ 0 → length (images s (triplets_of (triplets feed))) ≤ length d → (x : List ℕ) (m : ℕ) → Placed out at (take (length feed - from) (drop from feed)) x m
      → x ≡ pasted d 0 (images s (triplets_of (triplets feed)))
  putting_end h l x m p =
      whole_told rest q.rest_whole
      (λ ts e.
      let k : images s (triplets_of rest) ≡ drop next feed =
      rw e (none_regrouped s ts (omega (arith, q.count, ap (λ (y : Split). length (those (is_regrouped s) (triplets_of y))) e)) ∙ (from_tells q.index (drop next feed) ts e).1) in
      let w : take (length feed - from) (drop from feed) ≡ drop from feed = take_all (length feed - from) (drop from feed) (omega (arith, length-drop from feed)) in
      let y : run ++ images s (triplets_of rest) ≡ drop from feed = rw k (run_end feed from next q.ordered) in
      let o : at + length (drop from feed) ≤ length out = omega (arith, q.last, q.size, ap length k, length-drop next feed, length-drop from feed, q.ordered, q.within) in
      let z : x ≡ pasted out at (drop from feed) = put_bytes out at (drop from feed) o x m (rw w at p) in
      z ∙ sym (ap (pasted out at) y) ∙ q.bytes)

  module _ (v : Option ℕ) (e : v ≡ or_none (triplet_size (drop next feed))) (h : 0 < left) where
    -- a triplet is left
    some_left : next < length feed
    some_left = elim (dec_le (length feed) next) [
      | yes z ↦
          let x : rest ≡ whole [] = split_done q.index (drop next feed) (omega (arith, length-drop next feed)) in
          let c : left ≡ 0 = q.count ∙ rw x (count_none (is_regrouped s)) in
          absurd (let y : ⊥ = omega arith in y)
      | no z ↦ omega arith
    ]

    pub size_there : IsSome v
    size_there = size_of v refl
      where
        size_of : (o : Option ℕ) → v ≡ o → IsSome v
        size_of None f =
            let x : rest ≡ broken q.index = split_stops q.index (drop next feed) (omega (arith, length-drop next feed, some_left)) (none_by_value (drop next feed) v e f) in
            let z : is_whole (broken q.index) ≡ true = rw x at q.rest_whole in
            absurd_number (cc)
        size_of (Some m) f = rw f refl

    module _ (n : ℕ) (f : v ≡ Some n) where
      sized : triplet_size (drop next feed) ≡ some n
      sized = size_by_value (drop next feed) v n e f

      triplet : TripletAt (drop next feed) n
      triplet = size_told (drop next feed) n sized

      long : 17 ≤ n
      long = triplet_long (drop next feed) n triplet

      pub stop_within : next + n ≤ length feed
      stop_within = omega (arith, triplet.there, length-drop next feed)

      pub stop_fits : length feed < 2 ^ 64 → Fits w64 (next + n)
      stop_fits l = omega (arith, stop_within)

      pub stop_less : length feed - (next + n) < length feed - next
      stop_less = omega (arith, stop_within, long)

      abbrev part : List ℕ
      part = take (next + n - next) (drop next feed)

      part_is : part ≡ take n (drop next feed)
      part_is = let p : next + n - next ≡ n = omega arith in rw p

      pub key_there : 16 ≤ length part
      key_there = rw part_is (omega (arith, length-take-le n (drop next feed) triplet.there, long))

      abbrev after : Split
      after = triplets_from (q.index + 1) (drop (next + n) feed)

      step : (is_whole after ≡ true) × (triplets_of rest ≡ part ∷ triplets_of after)
      step =
          let x : rest ≡ before part after = split_at feed next q.index n sized in
          let y = whole_before part after (rw x at q.rest_whole) in
          (y.0, ap triplets_of x ∙ y.1)

      images_are : images s (triplets_of rest) ≡ image s part ++ images s (triplets_of after)
      images_are = ap (images s) step.1 ∙ images_more s part (triplets_of after)

      images_long : length (images s (triplets_of rest)) ≡ length (image s part) + length (images s (triplets_of after))
      images_long = ap length images_are ∙ length-append (image s part) (images s (triplets_of after))

      count_is : left ≡ one (is_regrouped s part) + length (those (is_regrouped s) (triplets_of after))
      count_is = q.count ∙ ap (λ (ts : List (List ℕ)). length (those (is_regrouped s) ts)) step.1 ∙ count_more (is_regrouped s) part (triplets_of after)

      module _ (l : length (images s (triplets_of (triplets feed))) ≤ length d) where
        pub image_room : at + (next - from) + length (image s part) ≤ length out
        image_room = omega (arith, q.last, q.size, images_long)

        module _ (x : List ℕ) (r : ℕ) (p : Put out (at + (next - from)) (if_regrouped s part) x r) where
          -- the triplet goes out as it came
          pub putting_kept : r ≤ at + (next - from) → Putting s feed d x at from (next + n) left
          putting_kept g =
              test_cases (is_regrouped s part)
              (λ t.
              let z : r ≡ at + (next - from) + length (image s part) = rw t at p.end in
              absurd (let y : ⊥ = omega (arith, regrouped_long s part t) in y))
              (λ t.
              let o : x ≡ out = (rw t at p.bytes) ∙ pasted_none out (at + (next - from)) in
              let i : image s part ≡ part = image_kept s part t in
              let c : left ≡ 0 + length (those (is_regrouped s) (triplets_of after)) = rw t at count_is in
              let j : length (image s part) ≡ n = ap length (i ∙ part_is) ∙ length-take-le n (drop next feed) triplet.there in
              let u : run ++ (image s part ++ images s (triplets_of after)) ≡ take (next + n - from) (drop from feed) ++ images s (triplets_of after) =
              rw (i, part_is, ← append_assoc run (take n (drop next feed)) (images s (triplets_of after)), run_on feed from next n q.ordered) in
              rw o
              (record {
                index = q.index + 1;
                ordered = omega (arith, q.ordered);
                within = stop_within;
                rest_whole = step.0;
                count = omega arith;
                size = q.size;
                last = omega (arith, q.last, images_long, q.ordered);
                bytes = ap (pasted out at) (sym (ap (λ (y : List ℕ). run ++ y) images_are ∙ u)) ∙ q.bytes;
              }))

          -- it is regrouped: what stands before it is written too
          pub putting_again : at + (next - from) < r → (y : List ℕ) (m : ℕ) → Placed x at run y m → Putting s feed d y r (next + n) (next + n) (left - 1)
          putting_again g y m w =
              test_cases (is_regrouped s part)
              (λ t.
              let pe : r ≡ at + (next - from) + length (image s part) = rw t at p.end in
              let pb : x ≡ pasted out (at + (next - from)) (image s part) = rw t at p.bytes in
              let c : left ≡ 1 + length (those (is_regrouped s) (triplets_of after)) = rw t at count_is in
              let rl : next - from ≡ length run = sym run_long in
              let xl : length x ≡ length out = ap length pb ∙ length_pasted out (at + (next - from)) (image s part) image_room in
              let yb : y ≡ pasted x at run = put_bytes x at run (omega (arith, image_room)) y m w in
              let yr : y ≡ pasted out at (run ++ image s part) =
              yb ∙ ap (λ (z : List ℕ). pasted z at run) (rw rl at pb) ∙ pasted_before out run (image s part) at (omega (arith, image_room)) in
              let both : length (run ++ image s part) ≡ length run + length (image s part) = length-append run (image s part) in
              let yl : length y ≡ length out = ap length yr ∙ length_pasted out at (run ++ image s part) (omega (arith, image_room)) in
              let none : next + n - (next + n) ≡ 0 = omega arith in
              let re : r ≡ at + length (run ++ image s part) = omega arith in
              record {
                index = q.index + 1;
                ordered = omega arith;
                within = stop_within;
                rest_whole = step.0;
                count = omega arith;
                size = yl ∙ q.size;
                last = omega (arith, q.last, images_long);
                bytes = rw (none, yr, re)
                    (pasted_pasted out at (run ++ image s part) (images s (triplets_of after)) (omega (arith, image_room))
                    ∙ ap (pasted out at) (append_assoc run (image s part) (images s (triplets_of after)) ∙ sym (ap (λ (z : List ℕ). run ++ z) images_are))
                    ∙ q.bytes);
              })
              (λ t.
              let z : r ≡ at + (next - from) + 0 = rw t at p.end in
              absurd (let u : ⊥ = omega arith in u))
