-- Keys, lengths and bytes put into a slice, and the sizes of nested sets: each fact in the shape of its need.
use mathlib.Core.Path.{◌≡◌, refl, sym, ap, ◌∙◌, subst}
use mathlib.Core.Bool.{Bool, true, false, false≢true}
use mathlib.Core.List.{List, [], ◌∷◌, ◌++◌, append_assoc, append-nil}
use Prim.Native.Nat.{ℕ, ◌+◌, ◌-◌, ◌^◌, ◌<◌, ◌≤◌}
use native.Mathlib.Omega.{arith}
use lib.Dec.{leb}
use lib.ListN.{length, get_or, take, drop, set, length-append, length-set, get_or-append, length-drop, drop_of_length-le}
use lib.Seq.{take_all, get_or-append-add, length-take-le, drop-drop}
use borrow.Author.Tests.{le-leb}
use Rattle.klv.specs.Pick.{pick, both}
use Rattle.klv.specs.Bytes.{pasted}
use Rattle.klv.specs.Layout.{written, held_bytes}
use Rattle.klv.specs.Placed.{Placed}
use Rattle.klv.specs.declared.layout.Form.TheVariants.{Ber}
use Rattle.klv.proofs.KeyLaws.{key_size}
use Rattle.klv.proofs.Paste.{pasted_is}
use Rattle.klv.proofs.LayoutLaws.{held_written}
use Rattle.klv.proofs.LargestLaws.{largest_ber}
use Rattle.klv.proofs.PlacedLaws.{put_end, put_bytes}
use Rattle.groups.specs.declared.kind.Kind.{Kind}
use Rattle.groups.specs.Kind.{kind_of}
use Rattle.groups.specs.Arrays.{Put}
use Rattle.groups.specs.Write.{group as grouped}
use Rattle.groups.proofs.write.Totals.{put_then, put_length}
use Rattle.deep.specs.declared.write.Spot.{Spot}
use Rattle.deep.specs.Tree.{Answer, ok, refused, opens, Tree, closed, too_deep, nested, inside_of}
use Rattle.deep.specs.Deep.{as_universal}
use Rattle.deep.specs.Walk.{set_tree, Noted, sizes_of, reads, inside_sizes, inside_reads, bytes_of, item_bytes, PutSets}
use Rattle.deep.proofs.UniversalKeys.{opens_key}
use Rattle.deep.proofs.TreeLaws.{closed_inside}
use Rattle.deep.proofs.StepLaws.{inside_set, inside_deep, nested_reads}

-- ---- a key, a length and bytes

-- all bytes of a slice over a part of another
over_part : (d x y s : List ℕ) (at n : ℕ) → n ≡ length s
    → y ≡ s → x ≡ take at d ++ (y ++ drop (at + n - at) (drop at d)) → at + n ≤ length d → Put d at s x (at + n)
over_part d x y s at n l e f h =
    let p : at + n - at ≡ n = omega arith in
    let t : at + n ≡ at + length s = omega arith in
    record { end = t; bytes = f ∙ rw (p, e, drop-drop n at d, t) (sym (pasted_is d at s)) }

-- a copy of all bytes of a slice over a part as long leaves these bytes there
copied : (d y s : List ℕ) (at : ℕ)
    → y ≡ pick (both (leb (length s) (length (take (at + length s - at) (drop at d)))) (leb (length s) (length s))) (pasted (take (at + length s - at) (drop at d)) 0 (take (length s) s)) (take (at + length s - at) (drop at d))
    → at + length s ≤ length d → y ≡ s
copied d y s at e h =
    let w : take (length s) s ≡ s = take_all (length s) s (omega arith) in
    let p : at + length s - at ≡ length s = omega arith in
    let lu : length (take (length s) (drop at d)) ≡ length s = length-take-le (length s) (drop at d) (simp length-drop (omega arith)) in
    let g : y ≡ pasted (take (length s) (drop at d)) 0 s =
    rw (le-leb (length s) (length (take (length s) (drop at d))) (omega arith), le-leb (length s) (length s) (omega arith), w) at (rw p at e) in
    let z : drop (0 + length s) (take (length s) (drop at d)) ≡ [] = drop_of_length-le (take (length s) (drop at d)) {i = 0 + length s} (omega arith) in
    g ∙ pasted_is (take (length s) (drop at d)) 0 s ∙ rw z (append-nil s)

pub bytes_over : (d x y s : List ℕ) (at : ℕ)
    → y ≡ pick (both (leb (length s) (length (take (at + length s - at) (drop at d)))) (leb (length s) (length s))) (pasted (take (at + length s - at) (drop at d)) 0 (take (length s) s)) (take (at + length s - at) (drop at d))
    → x ≡ take at d ++ (y ++ drop (at + length s - at) (drop at d)) → at + length s ≤ length d → Put d at s x (at + length s)
bytes_over d x y s at e f h = over_part d x y s at (length s) refl (copied d y s at e h) f h

pub front_over : (d x y z k : List ℕ) (at n r : ℕ) → Placed x (at + 16) (held_bytes Ber n) z r
    → y ≡ k → x ≡ take at d ++ (y ++ drop (at + 16 - at) (drop at d)) → length k ≡ 16 → n < 2 ^ 64 → at + (16 + length (written Ber n)) ≤ length d
    → Put d at (k ++ written Ber n) z r
front_over d x y z k at n r q e f l m h =
    let p : Put d at k x (at + 16) = over_part d x y k at 16 (sym l) e f (omega arith) in
    let g : length x ≡ length d = put_length d x k at (at + 16) p (omega arith) in
    let o : Placed x (at + 16) (written Ber n) z r = rw (held_written Ber n (omega (arith, largest_ber))) at q in
    let i : at + 16 + length (written Ber n) ≤ length x = omega arith in
    put_then d x z k (written Ber n) at (at + 16) r p
    (record { end = put_end x (at + 16) (written Ber n) i z r o; bytes = put_bytes x (at + 16) (written Ber n) i z r o })
    (omega arith)

-- ---- numbers that stand from a place on

pub noted_front : (m : List ℕ) (k : ℕ) (a b : List ℕ) → Noted m k (a ++ b) → Noted m k a
noted_front m k a b n = record { each = λ i h j. n.each i (omega (arith, length-append a b)) j ∙ get_or-append a b 0 i h }

pub noted_back : (m : List ℕ) (k : ℕ) (a b : List ℕ) → Noted m k (a ++ b) → Noted m (k + length a) b
noted_back m k a b n =
    record {
      each = λ i h j.
          let z : k + length a + i ≡ k + (length a + i) = omega arith in
          ap (λ (x : ℕ). get_or m x 0) z ∙ n.each (length a + i) (omega (arith, length-append a b)) (omega arith) ∙ get_or-append-add a b i 0;
    }

pub noted_head : (m : List ℕ) (k x : ℕ) (l : List ℕ) → Noted m k (x ∷ l) → k < length m → get_or m k 0 ≡ x
noted_head m k x l n h =
    let z : k ≡ k + 0 = omega arith in
    ap (λ (y : ℕ). get_or m y 0) z ∙ n.each 0 (omega arith) (omega arith)

pub noted_tail : (m : List ℕ) (k x : ℕ) (l : List ℕ) → Noted m k (x ∷ l) → Noted m (k + 1) l
noted_tail m k x l n = noted_back m k (x ∷ []) l n

-- ---- a nested set that reads

nested_sizes : (a : Answer Tree) → reads a ≡ true → inside_sizes (nested a) ≡ length (bytes_of a) ∷ sizes_of a
nested_sizes (ok t) h = refl
nested_sizes (refused f p) h = absurd (false≢true h)

nested_bytes : (k v : List ℕ) (a : Answer Tree) → reads a ≡ true → item_bytes k v (nested a) ≡ grouped (as_universal k) (bytes_of a)
nested_bytes k v (ok t) h = refl
nested_bytes k v (refused f p) h = absurd (false≢true h)

-- ---- an item that is no set

module _ (deeper : ℕ) (tags key value : List ℕ) (set : ℕ) (out : List ℕ) (at : ℕ) (test : Bool) (eo : test ≡ opens (kind_of key)) (no : test ≡ false) (room : at + length (item_bytes key value (inside_of deeper tags key value)) ≤ length out) where
  shut : inside_of deeper tags key value ≡ closed
  shut = closed_inside deeper tags key value (sym eo ∙ no)

  plain_room : at + length (key ++ (written Ber (length value) ++ value)) ≤ length out
  plain_room = rw shut at room

  plain_length : length (key ++ (written Ber (length value) ++ value)) ≡ length key + (length (written Ber (length value)) + length value)
  plain_length = rw (length-append key (written Ber (length value) ++ value), length-append (written Ber (length value)) value)

  pub plain_front_room : length key ≡ 16 → at + (16 + length (written Ber (length value))) ≤ length out
  plain_front_room k = omega (arith, plain_room, plain_length)

  module _ (k : length key ≡ 16) (x : List ℕ) (from : ℕ) (p : Put out at (key ++ written Ber (length value)) x from) where
    plain_front : length (key ++ written Ber (length value)) ≡ 16 + length (written Ber (length value))
    plain_front = length-append key (written Ber (length value)) ∙ ap (λ (n : ℕ). n + length (written Ber (length value))) k

    front_fits : at + length (key ++ written Ber (length value)) ≤ length out
    front_fits = omega (arith, plain_room, plain_length, plain_front)

    pub plain_value_room : from + length value ≤ length x
    plain_value_room =
        omega (arith, plain_room, plain_length, plain_front, p.end, put_length out x (key ++ written Ber (length value)) at from p front_fits)

    pub plain_put : (y : List ℕ) (last : ℕ) → Put x from value y last
        → PutSets out at (item_bytes key value (inside_of deeper tags key value)) y set (length (inside_sizes (inside_of deeper tags key value))) (record { at = last; set = set })
    plain_put y last q =
        let w = put_then out x y (key ++ written Ber (length value)) value at from last p q front_fits in
        rw shut
        (record {
          put = subst (λ (l : List ℕ). Put out at l y last) (append_assoc key (written Ber (length value)) value) w;
          sets = omega arith;
        })

-- ---- a nested set

pub deep_never : (deeper : ℕ) (tags key value out : List ℕ) (at set : ℕ) (test : Bool) → test ≡ opens (kind_of key) → test ≡ true → deeper ≡ 0
    → inside_reads (inside_of deeper tags key value) ≡ true
    → PutSets out at (item_bytes key value (inside_of deeper tags key value)) out set (length (inside_sizes (inside_of deeper tags key value))) (record { at = at; set = set })
deep_never deeper tags key value out at set test eo y z h =
    let i : inside_of deeper tags key value ≡ too_deep = inside_deep deeper tags key value (sym eo ∙ y) z in
    absurd (false≢true (sym (ap inside_reads i) ∙ h))

module _ (deeper : ℕ) (tags key value : List ℕ) (kind : Kind) (test : Bool) (ek : kind ≡ kind_of key) (eo : test ≡ opens (kind_of key)) (yes : test ≡ true) (more : deeper ≡ 0 → ⊥) (h : inside_reads (inside_of deeper tags key value) ≡ true) where
  inner_is : inside_of deeper tags key value ≡ nested (set_tree (deeper - 1) tags kind value)
  inner_is = inside_set deeper tags key value (sym eo ∙ yes) more ∙ ap (λ (x : Kind). nested (set_tree (deeper - 1) tags x value)) (sym ek)

  pub inner_reads : reads (set_tree (deeper - 1) tags kind value) ≡ true
  inner_reads = nested_reads (set_tree (deeper - 1) tags kind value) (sym (ap inside_reads inner_is) ∙ h)

  inner_sizes : inside_sizes (inside_of deeper tags key value) ≡ length (bytes_of (set_tree (deeper - 1) tags kind value)) ∷ sizes_of (set_tree (deeper - 1) tags kind value)
  inner_sizes = ap inside_sizes inner_is ∙ nested_sizes (set_tree (deeper - 1) tags kind value) inner_reads

  inner_bytes : item_bytes key value (inside_of deeper tags key value) ≡ grouped (as_universal key) (bytes_of (set_tree (deeper - 1) tags kind value))
  inner_bytes = ap (item_bytes key value) inner_is ∙ nested_bytes key value (set_tree (deeper - 1) tags kind value) inner_reads

  pub inner_held : (sizes : List ℕ) (k : ℕ) → Noted sizes k (inside_sizes (inside_of deeper tags key value))
      → k < length sizes → get_or sizes k 0 ≡ length (bytes_of (set_tree (deeper - 1) tags kind value))
  inner_held sizes k n l =
      noted_head sizes k (length (bytes_of (set_tree (deeper - 1) tags kind value))) (sizes_of (set_tree (deeper - 1) tags kind value)) (subst (Noted sizes k) inner_sizes n) l

  pub inner_noted : (sizes : List ℕ) (k : ℕ) → Noted sizes k (inside_sizes (inside_of deeper tags key value)) → Noted sizes (k + 1) (sizes_of (set_tree (deeper - 1) tags kind value))
  inner_noted sizes k n =
      noted_tail sizes k (length (bytes_of (set_tree (deeper - 1) tags kind value))) (sizes_of (set_tree (deeper - 1) tags kind value)) (subst (Noted sizes k) inner_sizes n)

  module _ (size : ℕ) (es : size ≡ length (bytes_of (set_tree (deeper - 1) tags kind value))) (out : List ℕ) (at : ℕ) (room : at + length (item_bytes key value (inside_of deeper tags key value)) ≤ length out) where
    key_length : length (as_universal key) ≡ 16
    key_length = length-set key 5 1 ∙ key_size key (opens_key key (sym eo ∙ yes))

    set_length : length (item_bytes key value (inside_of deeper tags key value)) ≡ 16 + (length (written Ber size) + size)
    set_length =
        ap length inner_bytes
        ∙ length-append (as_universal key) (written Ber (length (bytes_of (set_tree (deeper - 1) tags kind value))) ++ bytes_of (set_tree (deeper - 1) tags kind value))
        ∙ rw (key_length, length-append (written Ber (length (bytes_of (set_tree (deeper - 1) tags kind value)))) (bytes_of (set_tree (deeper - 1) tags kind value)), ← es)

    pub set_front_room : at + (16 + length (written Ber size)) ≤ length out
    set_front_room = omega (arith, set_length)

    module _ (uk : List ℕ) (eu : uk ≡ as_universal key) (x : List ℕ) (from : ℕ) (p : Put out at (uk ++ written Ber size) x from) where
      set_front : length (uk ++ written Ber size) ≡ 16 + length (written Ber size)
      set_front = length-append uk (written Ber size) ∙ ap (λ (n : ℕ). n + length (written Ber size)) (ap length eu ∙ key_length)

      pub set_items_room : from + length (bytes_of (set_tree (deeper - 1) tags kind value)) ≤ length x
      set_items_room =
          omega (arith, set_length, set_front, es, p.end, put_length out x (uk ++ written Ber size) at from p (omega (arith, set_length, set_front)))

      pub set_put : (y : List ℕ) (n : ℕ) (r : Spot) → PutSets x from (bytes_of (set_tree (deeper - 1) tags kind value)) y (n + 1) (length (sizes_of (set_tree (deeper - 1) tags kind value))) r
          → PutSets out at (item_bytes key value (inside_of deeper tags key value)) y n (length (inside_sizes (inside_of deeper tags key value))) r
      set_put y n r q =
          let w = put_then out x y (uk ++ written Ber size) (bytes_of (set_tree (deeper - 1) tags kind value)) at from r.at p q.put (omega (arith, set_length, set_front)) in
          let g : (uk ++ written Ber size) ++ bytes_of (set_tree (deeper - 1) tags kind value) ≡ item_bytes key value (inside_of deeper tags key value) =
          append_assoc uk (written Ber size) (bytes_of (set_tree (deeper - 1) tags kind value)) ∙ rw (eu, es) (sym inner_bytes) in
          record {
            put = subst (λ (l : List ℕ). Put out at l y r.at) g w;
            sets = omega (arith, q.sets, ap length inner_sizes);
          }
