-- Laws of `Put`: one part written after another, and a loop that writes part after part.
use mathlib.Core.Path.{◌≡◌, refl, sym, ap, ◌∙◌, subst}
use mathlib.Core.List.{List, [], ◌∷◌, ◌++◌, append_assoc, append-nil}
use Prim.Native.Nat.{ℕ, ◌+◌, ◌<◌, ◌≤◌}
use native.Mathlib.Omega.{arith}
use lib.ListN.{length, set, length-append}
use Rattle.klv.proofs.Paste.{length_pasted, set_is_pasted}
use Rattle.groups.proofs.write.Totals.{put_then, put_none}
use Rattle.groups.specs.Arrays.{Put}

pub wrote_byte : (d : List ℕ) (at v : ℕ) → at < length d → Put d at (v ∷ []) (set d at v) (at + 1)
wrote_byte d at v h = record { end = refl; bytes = set_is_pasted d at v h }

pub wrote_length : {d x l : List ℕ} {at next : ℕ} → Put d at l x next → at + length l ≤ length d → length x ≡ length d
wrote_length {d} {x} {l} {at} p h = ap length p.bytes ∙ length_pasted d at l h

pub wrote_then : {d x z a b : List ℕ} {at y w : ℕ} → Put d at a x y → Put x y b z w → at + length a ≤ length d → Put d at (a ++ b) z w
wrote_then {d} {x} {z} {a} {b} {at} {y} {w} p q h = put_then d x z a b at y w p q h

-- one byte more
pub wrote_more : {d x l : List ℕ} {at next : ℕ} (v : ℕ) → Put d at l x next → next < length d → Put d at (l ++ (v ∷ [])) (set x next v) (next + 1)
wrote_more {d} {x} {l} {at} {next} v p h =
    let e : next ≡ at + length l = p.end in
    let s : length x ≡ length d = wrote_length p (omega arith) in
    wrote_then p (wrote_byte x next v (omega arith)) (omega arith)

pub wrote_as : {d x l m : List ℕ} {at next : ℕ} → l ≡ m → Put d at l x next → Put d at m x next
wrote_as {d} {x} {l} {m} {at} {next} e p = subst (λ (k : List ℕ). Put d at k x next) e p

-- ---- a loop that writes `all` from `from` on: `rest` is still to be written, from `at` on

pub record Going (d : List ℕ) (from : ℕ) (all rest out : List ℕ) (at : ℕ) : Type 0 where
  pub done : List ℕ
  pub whole : done ++ rest ≡ all
  pub put : Put d from done out at
  pub size : length out ≡ length d

pub going_start : (d : List ℕ) (from : ℕ) (all : List ℕ) → Going d from all all d from
going_start d from all = record { done = []; whole = refl; put = put_none d from; size = refl }

module _ {d : List ℕ} {from : ℕ} {all out : List ℕ} {at : ℕ} (a b : List ℕ) (g : Going d from all (a ++ b) out at) (room : from + length all ≤ length d) where
  lengths : length g.done + (length a + length b) ≡ length all
  lengths = rw (length-append, length-append) at (ap length g.whole)

  pub going_room : at + length a ≤ length out
  going_room =
      let e : at ≡ from + length g.done = g.put.end in
      let s : length out ≡ length d = g.size in
      omega (arith, lengths)

  pub going_again : {z : List ℕ} {next : ℕ} → Put out at a z next → Going d from all b z next
  going_again {z} {next} w =
      record {
        done = g.done ++ a;
        whole = append_assoc g.done a b ∙ g.whole;
        put = wrote_then g.put w (omega (arith, lengths));
        size = wrote_length w going_room ∙ g.size;
      }

pub going_end : {d : List ℕ} {from : ℕ} {all out : List ℕ} {at : ℕ} → Going d from all [] out at → Put d from all out at
going_end g = wrote_as (sym (append-nil g.done) ∙ g.whole) g.put
