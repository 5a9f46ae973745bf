-- Module `write`: key, outer length and items make the output; each fact in the shape of its need.
use mathlib.Core.Path.{◌≡◌, sym, ap, ◌∙◌}
use mathlib.Core.List.{List, ◌++◌, append_assoc}
use mathlib.Core.Bool.{true}
use Prim.Native.Nat.{ℕ, ◌+◌, ◌<◌, ◌≤◌}
use native.Mathlib.Omega.{arith}
use mir.Val.{Fits}
use mir.Syntax.{w64}
use lib.Dec.{leb}
use lib.ListN.{length, take, drop, length-append}
use lib.Seq.{take_all}
use borrow.Author.Tests.{leb-true, le-leb, lt-leb}
use Rattle.std.specs.Prelude.{Ok, Err}
use Rattle.klv.specs.Bytes.{pasted}
use Rattle.klv.specs.Layout.{written, held_bytes}
use Rattle.klv.specs.Placed.{Placed}
use Rattle.klv.specs.declared.layout.Form.TheVariants.{Ber}
use Rattle.klv.proofs.Cases.{absurd_number, pick_cases}
use Rattle.klv.proofs.LayoutLaws.{written_most, held_written}
use Rattle.klv.proofs.LargestLaws.{largest_ber}
use Rattle.klv.proofs.PlacedLaws.{put_end, put_bytes}
use Rattle.klv.proofs.Paste.{length_pasted}
use Rattle.groups.specs.declared.refusal.Refusal.TheVariants.{LongOutput, ShortSlice}
use Rattle.groups.specs.Write.{group}
use Rattle.groups.specs.Arrays.{Put, length_within}
use Rattle.groups.specs.Regroup.{sized, Outcome}
use Rattle.groups.proofs.write.Totals.{put_then}

-- ---- sixteen bytes, a BER length, and so many bytes

pub total_fits : (size w : ℕ) → w ≡ length (written Ber size) → size ≤ 16783616 → Fits w64 (16 + w + size)
total_fits size w e h = omega (arith, written_most Ber size)

-- ---- the length of an output

pub length_long : (size w room : ℕ) → w ≡ length (written Ber size) → 65536 < 16 + w + size
    → Err (record { why = LongOutput; place = 0 }) ≡ length_within (16 + length (written Ber size) + size) room
length_long size w room e h = rw (← e, lt-leb (16 + w + size) 65536 h)

pub length_short : (size w room : ℕ) → w ≡ length (written Ber size) → 16 + w + size ≤ 65536 → room < 16 + w + size
    → Err (record { why = ShortSlice; place = 0 }) ≡ length_within (16 + length (written Ber size) + size) room
length_short size w room e h l = rw (← e, le-leb (16 + w + size) 65536 h, lt-leb (16 + w + size) room l)

pub length_fine : (size w room : ℕ) → w ≡ length (written Ber size) → 16 + w + size ≤ 65536 → 16 + w + size ≤ room
    → Ok (16 + w + size) ≡ length_within (16 + length (written Ber size) + size) room
length_fine size w room e h l = rw (← e, le-leb (16 + w + size) 65536 h, le-leb (16 + w + size) room l)

-- ---- key and outer length

pub key_room_law : (l w : ℕ) → 16 + w ≤ l → 0 + 16 ≤ l
key_room_law l w h = omega arith

pub key_there : (target : List ℕ) → length target ≡ 16 → 0 + 16 ≤ length target
key_there target h = omega arith

module _ (target d : List ℕ) (size : ℕ) (sixteen : length target ≡ 16) (small : size ≤ 65536) (room : 16 + length (written Ber size) ≤ length d) where
  pub front_put : (x y : List ℕ) (a b : ℕ) → Put d 0 (take 16 (drop 0 target)) x a → Placed x a (held_bytes Ber size) y b → Put d 0 (target ++ written Ber size) y b
  front_put x y a b p q =
      let w : take 16 (drop 0 target) ≡ target = take_all 16 target (omega arith) in
      let k : Put d 0 target x a = rw w at p in
      let f : length x ≡ length d = ap length k.bytes ∙ length_pasted d 0 target (omega arith) in
      let h : a + length (written Ber size) ≤ length x = omega (arith, k.end) in
      let o : Placed x a (written Ber size) y b = rw (held_written Ber size (omega (arith, largest_ber))) at q in
      put_then d x y target (written Ber size) 0 a b k
      (record { end = put_end x a (written Ber size) h y b o; bytes = put_bytes x a (written Ber size) h y b o })
      (omega arith)

-- ---- and the items after them: their bytes are `body`

length_told : {P : Type 0} (total room n : ℕ) → length_within total room ≡ Ok n → (total ≤ 65536 → total ≤ room → total ≡ n → P) → P
length_told total room n e f =
    pick_cases (leb total 65536) _ _ (Ok n) e
    (λ t g. pick_cases (leb total room) _ _ (Ok n) g (λ u h. f (leb-true total 65536 t) (leb-true total room u) (cc)) (λ u h. absurd_number (cc)))
    (λ t g. absurd_number (cc))

module _ (target body d : List ℕ) (size total : ℕ) (e : size ≡ length body) (h : Ok total ≡ length_within (16 + length (written Ber size) + size) (length d)) where
  module _ (sixteen : length target ≡ 16) (y : List ℕ) (b : ℕ) (p : Put d 0 (target ++ written Ber size) y b) where
    front_length : length (target ++ written Ber size) ≡ 16 + length (written Ber size)
    front_length = length-append target (written Ber size) ∙ ap (λ (x : ℕ). x + length (written Ber size)) sixteen

    pub group_put : (z : List ℕ) (c : ℕ) → Put y b body z c → Outcome (sized (length d) (group target body)) d z (Ok total)
    group_put z c q =
        length_told (16 + length (written Ber size) + size) (length d) total (sym h)
        (λ a u o.
        let w : z ≡ pasted d 0 (target ++ (written Ber size ++ body)) =
        (put_then d y z (target ++ written Ber size) body 0 b c p q (omega (arith, front_length))).bytes ∙ ap (pasted d 0) (append_assoc target (written Ber size) body) in
        let gl : length (group target body) ≡ 16 + length (written Ber size) + size = rw (length-append, length-append, ← e, sixteen) (omega arith) in
        let big : leb (length (group target body)) 65536 ≡ true = le-leb (length (group target body)) 65536 (omega arith) in
        let fit : leb (length (group target body)) (length d) ≡ true = le-leb (length (group target body)) (length d) (omega arith) in
        record { answer = rw (big, fit) (ap Ok (sym o ∙ sym gl)); bytes = rw (big, fit) (rw e at w) })
