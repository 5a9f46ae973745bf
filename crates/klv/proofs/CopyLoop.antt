-- Bytes of a slice copied over others, i of n of them: each fact in the shape of its need.
use mathlib.Core.Path.{◌≡◌, refl, sym, ◌∙◌}
use mathlib.Core.List.{List}
use Prim.Native.Nat.{ℕ, ◌+◌, ◌-◌, ◌<◌, ◌≤◌}
use native.Mathlib.Omega.{arith}
use native.Mathlib.Numerals.{add-one}
use lib.ListN.{length, get_or, take, drop, set, length-set, length-drop}
use lib.Seq.{take-suc, get_or-drop, length-take-le}
use Rattle.klv.specs.Bytes.{pasted}
use Rattle.klv.proofs.Paste.{pasted_none, set_after}

pub record Copied (d : List ℕ) (at : ℕ) (s : List ℕ) (from n : ℕ) (out : List ℕ) (i : ℕ) : Type 0 where
  pub within : i ≤ n
  pub size : length out ≡ length d
  pub copied : out ≡ pasted d at (take i (drop from s))

pub copied_start : (d : List ℕ) (at : ℕ) (s : List ℕ) (from n : ℕ) → Copied d at s from n d 0
copied_start d at s from n = record { within = omega arith; size = refl; copied = sym (pasted_none d at) }

pub copied_again : (d : List ℕ) (at : ℕ) (s : List ℕ) (from n : ℕ) (out : List ℕ) (i : ℕ) → Copied d at s from n out i → i < n → n ≤ length d - at → n ≤ length s - from
    → Copied d at s from n (set out (at + i) (get_or s (from + i) 0)) (i + 1)
copied_again d at s from n out i c h a b =
    let lv : length (take i (drop from s)) ≡ i = length-take-le i (drop from s) (simp length-drop (omega arith)) in
    let e : at + i ≡ at + length (take i (drop from s)) = omega arith in
    record {
      within = omega arith;
      size = length-set out (at + i) (get_or s (from + i) 0) ∙ c.size;
      copied = rw (c.copied, e, set_after d at (take i (drop from s)) (get_or s (from + i) 0) (omega arith), add-one i, take-suc (drop from s) i 0 (simp length-drop (omega arith)), get_or-drop from s i 0);
    }
