-- A copy of at most n bytes, as many as there are: each fact in the shape of its need.
use mathlib.Core.Path.{◌≡◌, refl, sym, ◌∙◌}
use mathlib.Core.List.{List, [], ◌++◌, append-nil}
use Prim.Native.Nat.{ℕ, ◌+◌, ◌-◌, ◌<◌, ◌≤◌, min}
use native.Mathlib.Omega.{arith}
use native.Mathlib.Decide.{dec_le}
use lib.ListN.{length, take, drop, length-take, length-drop, drop_of_length-le}
use lib.Seq.{take_all, length-take-le, drop-drop}
use Rattle.klv.specs.Pick.{pick}
use Rattle.klv.specs.Bytes.{pasted}
use Rattle.klv.specs.Placed.{fits, Placed}
use Rattle.klv.proofs.Paste.{pasted_is, pasted_none}
use Rattle.klv.proofs.PlacedLaws.{put_made, put_kept, put_none}

-- m is how many of n bytes there are
module _ (s : List ℕ) (from n x m : ℕ) (f : x ≡ length s - from) (e : m ≡ min n x) where
  part_size : length (take n (drop from s)) ≡ m
  part_size = rw (length-take, length-drop, ← f, ← e)

  part_same : take m (drop from s) ≡ take n (drop from s)
  part_same = elim (dec_le n x) [
    | yes h ↦ let q : m ≡ n = omega arith in rw q
    | no h ↦
        let a : length (drop from s) ≤ m = simp length-drop (omega arith) in
        let b : length (drop from s) ≤ n = simp length-drop (omega arith) in
        take_all m (drop from s) a ∙ sym (take_all n (drop from s) b)
  ]

  -- room is how many bytes d has from `at` on
  module _ (d : List ℕ) (at room : ℕ) (g : room ≡ length d - at) where
    pub copy_put : (y : List ℕ) → m ≤ room → y ≡ pasted d at (take m (drop from s)) → Placed d at (take n (drop from s)) y (at + m)
    copy_put y h b = elim (dec_le 1 m) [
      | yes k ↦ put_made d at (take n (drop from s)) (omega (arith, part_size)) y (at + m) (rw part_size) (rw (← part_same) b)
      | no k ↦
          let z : m ≡ 0 = omega arith in
          let l : take n (drop from s) ≡ [] = sym part_same ∙ rw z in
          let q : at + m ≡ at = omega arith in
          let c : y ≡ d = b ∙ rw z (pasted_none d at) in
          rw (l, q, c) (put_none d at)
    ]

-- ---- over sixteen bytes

module _ (d s : List ℕ) (at from n x m room : ℕ) (f : x ≡ length s - from) (e : m ≡ min n x) (g : room ≡ 16 - at) (z : length d ≡ 16) where
  pub key_put : (y : List ℕ) → y ≡ pasted d at (take m (drop from s)) → m ≤ room → y ≡ pick (fits d at (take n (drop from s))) (pasted d at (take n (drop from s))) d
  key_put y h k = (copy_put s from n x m f e d at room (omega arith) y k h).bytes

-- ---- over a slice at a position

module _ (d s : List ℕ) (at : ℕ) where
  pub put_past : length d < at → Placed d at s d at
  put_past h = put_kept d at s (omega arith)

  pub put_short : at ≤ length d → length d - at < length s → Placed d at s d at
  put_short h k = put_kept d at s (omega arith)

  pub put_over : (x y : List ℕ) → y ≡ pasted (take (at + length s - at) (drop at d)) 0 (take (length s) s) → x ≡ take at d ++ (y ++ drop (at + length s - at) (drop at d))
      → at ≤ length d → length s ≤ length d - at → Placed d at s x (at + length s)
  put_over x y e f h k =
      let p : at + length s - at ≡ length s = omega arith in
      let lu : length (take (length s) (drop at d)) ≡ length s = length-take-le (length s) (drop at d) (simp length-drop k) in
      let g : y ≡ pasted (take (length s) (drop at d)) 0 s = rw (p, take_all (length s) s (omega arith)) at e in
      let z : drop (0 + length s) (take (length s) (drop at d)) ≡ [] = drop_of_length-le (take (length s) (drop at d)) {i = 0 + length s} (omega arith) in
      let u : y ≡ s = g ∙ pasted_is (take (length s) (drop at d)) 0 s ∙ rw z (append-nil s) in
      put_made d at s (omega arith) x (at + length s) refl (f ∙ rw (p, u, drop-drop (length s) at d) (sym (pasted_is d at s)))
