-- One triplet, written if it is regrouped: each fact in the shape of its need.
use mathlib.Core.Path.{◌≡◌, refl, sym, ap, ◌∙◌}
use mathlib.Core.Bool.{Bool, true, false}
use mathlib.Core.List.{List, [], ◌++◌, append-nil}
use Prim.Native.Nat.{ℕ, ◌+◌, ◌-◌, ◌^◌, ◌<◌, ◌≤◌}
use native.Mathlib.Omega.{arith}
use native.Mathlib.Nat.{zero-add}
use mir.Val.{Fits}
use mir.Syntax.{w64}
use lib.ListN.{length, take, drop, length-drop, drop_of_length-le, take-append-drop}
use lib.Seq.{take_all, drop-drop}
use borrow.Author.Tests.{le-leb}
use Rattle.std.specs.Prelude.{Result, Ok, Err}
use Rattle.klv.specs.Bytes.{same, pasted}
use Rattle.klv.proofs.Cases.{absurd_number}
use Rattle.klv.proofs.Paste.{pasted_is, pasted_none}
use Rattle.groups.specs.declared.refusal.Refusal.{Refusal}
use Rattle.groups.specs.declared.refusal.Refused.{Refused}
use Rattle.groups.specs.Arrays.{Put}
use Rattle.groups.specs.Refusal.{Answer, ok, refused, and_then}
use Rattle.groups.specs.Regroup.{Regroups, regroup_of, regrouped, room_for}
use Rattle.groups.proofs.regroup.RoomLaws.{regroup_room}
use Rattle.feed.specs.Feed.{Setting, has_source, plainly, or_same, image}
use Rattle.feed.specs.Walk.{if_regrouped}
use Rattle.feed.proofs.TallyLaws.{image_own}

-- ---- one triplet

put_nothing : (d : List ℕ) (at : ℕ) → Put d at [] d at
put_nothing d at = record { end = omega arith; bytes = sym (pasted_none d at) }

-- what the plain call answers with a slice that has room for what it writes
own_length : {P : Type 0} (a : Answer (List ℕ)) (room n : ℕ) → ((w : List ℕ) → a ≡ ok w → length w ≤ room) → regrouped (and_then a (room_for room)) ≡ Ok n
    → ((w : List ℕ) → a ≡ ok w → length w ≡ n → P) → P
own_length (ok w) room n l g k = let z : ◌≡◌ {A = Result ℕ (Refused Refusal)} (Ok (length w)) (Ok n) = rw (le-leb (length w) room (l w refl)) at g in k w refl (cc)
own_length (refused r p) room n l g k = absurd_number (cc)

own_refused : {P : Type 0} (a : Answer (List ℕ)) (room : ℕ) (v : Refused Refusal) → ((w : List ℕ) → a ≡ ok w → length w ≤ room) → regrouped (and_then a (room_for room)) ≡ Err v
    → ((r : Refusal) (m : ℕ) → a ≡ refused r m → P) → P
own_refused (ok w) room v l g k = let z : Ok (length w) ≡ Err v = rw (le-leb (length w) room (l w refl)) at g in absurd_number (cc)
own_refused (refused r m) room v l g k = k r m refl

-- a part from a position to the end, given back
part_back : (d x y : List ℕ) (at : ℕ) → at ≤ length d → x ≡ take at d ++ (y ++ drop (length d - at) (drop at d)) → x ≡ take at d ++ y
part_back d x y at h e =
    let z : drop (length d - at) (drop at d) ≡ [] = drop_of_length-le (drop at d) {i = length d - at} (omega (arith, length-drop at d)) in
    e ∙ rw z (ap (λ (l : List ℕ). take at d ++ l) (append-nil y))

module _ (s : Setting) (t d : List ℕ) (at : ℕ) (b : Bool) (e : b ≡ same (take 16 t) s.source) (h : at + length (image s t) ≤ length d) where
  pub other_put : b ≡ false → Put d at (if_regrouped s t) d at
  other_put f = let i : has_source s t ≡ false = sym e ∙ f in rw i (put_nothing d at)

  pub part_start : at ≤ length d
  part_start = omega arith

  module _ (f : b ≡ true) (y : List ℕ) (r : Result ℕ (Refused Refusal)) (o : Regroups s.tags s.packs s.target t (take (length d - at) (drop at d)) y r) where
    abbrev room : ℕ
    room = length (take (length d - at) (drop at d))

    part_all : take (length d - at) (drop at d) ≡ drop at d
    part_all = take_all (length d - at) (drop at d) (omega (arith, length-drop at d))

    room_is : room ≡ length d - at
    room_is = ap length part_all ∙ length-drop at d

    answer_is : (a : Answer (List ℕ)) → plainly s t ≡ a → regroup_of s.tags s.packs s.target t room ≡ and_then a (room_for room)
    answer_is a q = regroup_room s.tags s.packs s.target t room ∙ ap (λ (x : Answer (List ℕ)). and_then x (room_for room)) q

    image_is : (a : Answer (List ℕ)) → plainly s t ≡ a → image s t ≡ or_same t a
    image_is a q = image_own s t (sym e ∙ f) ∙ ap (or_same t) q

    -- the slice has room
    accepted_is : (w : List ℕ) → plainly s t ≡ ok w → regroup_of s.tags s.packs s.target t room ≡ ok w
    accepted_is w q =
        let l : length w ≤ room = omega (arith, room_is, ap length (image_is (ok w) q)) in
        answer_is (ok w) q ∙ rw (le-leb (length w) room l)

    fits : (w : List ℕ) → plainly s t ≡ ok w → length w ≤ room
    fits w q = omega (arith, room_is, ap length (image_is (ok w) q))

    length_told : {P : Type 0} (n : ℕ) → r ≡ Ok n → ((w : List ℕ) → plainly s t ≡ ok w → length w ≡ n → P) → P
    length_told n g k = own_length (plainly s t) room n fits (sym (ap regrouped (answer_is (plainly s t) refl)) ∙ sym o.answer ∙ g) k

    pub next_fits : (n : ℕ) → r ≡ Ok n → length d < 2 ^ 64 → Fits w64 (at + n)
    next_fits n g l = length_told n g (λ w q z. omega (arith, fits w q, room_is))

    module _ (x : List ℕ) (g : x ≡ take at d ++ (y ++ drop (length d - at) (drop at d))) where
      pub regrouped_put : (n : ℕ) → r ≡ Ok n → Put d at (if_regrouped s t) x (at + n)
      regrouped_put n k =
          length_told n k
          (λ w q z.
          let i : has_source s t ≡ true = sym e ∙ f in
          let c : y ≡ pasted (drop at d) 0 w = rw (accepted_is w q, part_all) at o.bytes in
          let u : y ≡ w ++ drop (0 + length w) (drop at d) = c ∙ pasted_is (drop at d) 0 w in
          let v : drop (0 + length w) (drop at d) ≡ drop (at + length w) d = rw (zero-add (length w)) (drop-drop (length w) at d) in
          rw (i, q, image_is (ok w) q)
          (record { end = rw z; bytes = part_back d x y at part_start g ∙ rw (u, v) (sym (pasted_is d at w)) }))

      pub refused_put : (v : Refused Refusal) → r ≡ Err v → Put d at (if_regrouped s t) x at
      refused_put v k =
          own_refused (plainly s t) room v fits (sym (ap regrouped (answer_is (plainly s t) refl)) ∙ sym o.answer ∙ k)
          (λ u n q.
          let i : has_source s t ≡ true = sym e ∙ f in
          let c : y ≡ drop at d = rw (answer_is (refused u n) q, part_all) at o.bytes in
          let a : x ≡ d = part_back d x y at part_start g ∙ rw c (take-append-drop at d) in
          rw (i, q, a) (put_nothing d at))
