-- Labels measured and put: global tags, local tags, elements and keys; each fact in the shape of its need.
use mathlib.Core.Path.{◌≡◌, refl, sym, ap, ◌∙◌}
use mathlib.Core.List.{List, [], ◌∷◌, ◌++◌, append-nil}
use mathlib.Core.Bool.{Bool, true, false, false≢true}
use mathlib.Core.Option.{none, some}
use Prim.Native.Nat.{ℕ, ◌+◌, ◌-◌, ◌*◌, ◌/◌, ◌^◌, ◌<◌, ◌≤◌}
use native.Mathlib.Omega.{arith}
use mir.Val.{Fits}
use mir.Syntax.{w64}
use lib.Dec.{leb, ltb}
use lib.ListN.{length, take, drop, set, length-set, length-drop, length-append}
use lib.Seq.{take-add, take-take, drop_at, drop-drop, length-take-le}
use borrow.Author.Tests.{lt-ltb, le-ltb}
use Rattle.std.specs.Prelude.{Some, None}
use Rattle.klv.specs.Pick.{pick}
use Rattle.klv.specs.Bytes.{same, common}
use Rattle.klv.specs.Key.{label_length}
use Rattle.klv.proofs.BytesLaws.{common_same}
use Rattle.klv.proofs.KeyLabel.{label_most}
use Rattle.klv.proofs.Paste.{set_after, length_pasted}
use Rattle.groups.specs.declared.kind.Kind.{Kind}
use Rattle.groups.specs.declared.kind.Kind.TheVariants.{Universal, Global, Local, Variable, Defined, NoGroup}
use Rattle.groups.specs.declared.root.Root.{Root}
use Rattle.groups.specs.Kind.{is_global}
use Rattle.groups.specs.Root.{root_bytes, tag_of, closed_tag, global_tag}
use Rattle.groups.specs.Tables.{table_of}
use Rattle.groups.specs.Label.{element_label}
use Rattle.groups.specs.Arrays.{wide, part_of, is_other, label_bytes, Put}
use Rattle.groups.proofs.root.RootFacts.{root_small}
use Rattle.groups.proofs.tables.TableLaws.{table_count}
use Rattle.groups.proofs.write.Totals.{put_none}

-- ---- a key begins with a root

pub root_begins : (key : List ℕ) (r : Root) (n : ℕ) → n ≡ common key r.bytes → length key ≡ 16 → length r.bytes ≡ 16
    → leb r.length n ≡ same (take r.length key) (root_bytes r)
root_begins key r n e l m =
    let z : r.length ≤ 16 = root_small r m in
    rw e (common_same r.length key r.bytes (omega arith) (omega arith))

-- ---- the tag of a key

drop_take : (m n : ℕ) (l : List ℕ) → m ≤ n → n ≤ length l → drop m (take n l) ≡ take (n - m) (drop m l)
drop_take m n l h k =
    let e : n ≡ m + (n - m) = omega arith in
    let s : take n l ≡ take m l ++ take (n - m) (drop m l) = ap (λ (x : ℕ). take x l) e ∙ take-add m (n - m) l in
    rw s (drop_at (take m l) (take (n - m) (drop m l)) m (length-take-le m l (omega arith)))

tag_part : (r : Root) (k : List ℕ) (n m : ℕ) → m ≡ r.length → n ≡ label_length k → m < n → length k ≡ 16 → tag_of (root_bytes r) k ≡ take (n - m) (drop m k)
tag_part r k n m e f h l =
    rw (← r.sized, ← e, ← f) (drop_take m n k (omega arith) (omega (arith, label_most k l)))

tag_length : (r : Root) (k : List ℕ) (n m : ℕ) → m ≡ r.length → n ≡ label_length k → m < n → length k ≡ 16 → length (tag_of (root_bytes r) k) ≡ n - m
tag_length r k n m e f h l =
    rw (tag_part r k n m e f h l) (length-take-le (n - m) (drop m k) (simp length-drop (omega (arith, label_most k l))))

tag_is : (r : Root) (k : List ℕ) (n m : ℕ) (t : Bool) → t ≡ same (take r.length k) (root_bytes r) → t ≡ true → m ≡ r.length → n ≡ label_length k → m < n
    → global_tag (root_bytes r) k ≡ some (tag_of (root_bytes r) k ++ pick (ltb (length (tag_of (root_bytes r) k)) 12) (0x00 ∷ []) [])
unfolding global_tag
tag_is r k n m t p q e f h =
    let a : same (take (length (root_bytes r)) k) (root_bytes r) ≡ true = rw (← r.sized) (sym p ∙ q) in
    let b : ltb (length (root_bytes r)) (label_length k) ≡ true = rw (← r.sized, ← e, ← f) (lt-ltb m n h) in
    rw (a, b)

tag_none : (r : Root) (k : List ℕ) (t : Bool) → t ≡ same (take r.length k) (root_bytes r) → t ≡ false → global_tag (root_bytes r) k ≡ none
unfolding global_tag
tag_none r k t p q =
    let a : same (take (length (root_bytes r)) k) (root_bytes r) ≡ false = rw (← r.sized) (sym p ∙ q) in
    rw a

tag_over : (r : Root) (k : List ℕ) (n m : ℕ) (t : Bool) → t ≡ same (take r.length k) (root_bytes r) → t ≡ true → m ≡ r.length → n ≡ label_length k → n ≤ m
    → global_tag (root_bytes r) k ≡ none
unfolding global_tag
tag_over r k n m t p q e f h =
    let a : same (take (length (root_bytes r)) k) (root_bytes r) ≡ true = rw (← r.sized) (sym p ∙ q) in
    let b : ltb (length (root_bytes r)) (label_length k) ≡ false = rw (← r.sized, ← e, ← f) (le-ltb m n h) in
    rw (a, b)

closed : (tag : List ℕ) (w : ℕ) → length tag ≡ w → length (tag ++ pick (ltb (length tag) 12) (0x00 ∷ []) []) ≡ pick (ltb w 12) (w + 1) w
closed tag w e = rw (length-append tag (pick (ltb (length tag) 12) (0x00 ∷ []) []), e) (by_test (ltb w 12))
  where
    by_test : (t : Bool) → w + length {A = ℕ} (pick t (0x00 ∷ []) []) ≡ pick t (w + 1) w
    by_test true = refl
    by_test false = omega arith

pub tag_wide : (r : Root) (k : List ℕ) (n m w : ℕ) (t : Bool) → t ≡ same (take r.length k) (root_bytes r) → t ≡ true → m ≡ r.length → n ≡ label_length k → m < n
    → length k ≡ 16 → w ≡ pick (ltb (n - m) 12) (n - m + 1) (n - m) → Some w ≡ wide (global_tag (root_bytes r) k)
tag_wide r k n m w t p q e f h l z =
    rw (tag_is r k n m t p q e f h) (ap Some (z ∙ sym (closed (tag_of (root_bytes r) k) (n - m) (tag_length r k n m e f h l))))

pub tag_narrow : (r : Root) (k : List ℕ) (n m : ℕ) (t : Bool) → t ≡ same (take r.length k) (root_bytes r) → t ≡ true → m ≡ r.length → n ≡ label_length k → n ≤ m
    → None ≡ wide (global_tag (root_bytes r) k)
tag_narrow r k n m t p q e f h = rw (tag_over r k n m t p q e f h)

pub tag_other : (r : Root) (k : List ℕ) (t : Bool) → t ≡ same (take r.length k) (root_bytes r) → t ≡ false → None ≡ wide (global_tag (root_bytes r) k)
tag_other r k t p q = rw (tag_none r k t p q)

pub tag_small : (k : List ℕ) (n m : ℕ) → n ≡ label_length k → m < n → length k ≡ 16 → n - m ≤ 16
tag_small k n m e h l = omega (arith, label_most k l)

pub tag_start : (k : List ℕ) (place n m : ℕ) → n ≡ label_length k → m < n → length k ≡ 16 → place ≤ 255 → Fits w64 (16 * place + m)
tag_start k place n m e h l p = omega (arith, label_most k l)

pub tag_from : (k keys : List ℕ) (place n m : ℕ) → n ≡ label_length k → m < n → length k ≡ 16 → 16 * place + 16 ≤ length keys → 16 * place + m + (n - m) ≤ length keys
tag_from k keys place n m e h l r = omega (arith, label_most k l)

tag_room : (r : Root) (k : List ℕ) (n m at l : ℕ) (t : Bool) → t ≡ same (take r.length k) (root_bytes r) → t ≡ true → m ≡ r.length → n ≡ label_length k → m < n
    → length k ≡ 16 → at + length (part_of (global_tag (root_bytes r) k)) ≤ l → at + pick (ltb (n - m) 12) (n - m + 1) (n - m) ≤ l
tag_room r k n m at l t p q e f h z g =
    rw (tag_is r k n m t p q e f h, closed (tag_of (root_bytes r) k) (n - m) (tag_length r k n m e f h z)) at g

pub tag_fits : (r : Root) (k x : List ℕ) (n m at l : ℕ) (t : Bool) → t ≡ same (take r.length k) (root_bytes r) → t ≡ true → m ≡ r.length → n ≡ label_length k → m < n
    → length k ≡ 16 → k ≡ x → at + length (part_of (global_tag (root_bytes r) x)) ≤ l → at + pick (ltb (n - m) 12) (n - m + 1) (n - m) ≤ l
tag_fits r k x n m at l t p q e f h z c g = tag_room r k n m at l t p q e f h z (rw (← c) at g)

-- the part of a key is a part of the array that holds it
part_held : (k keys : List ℕ) (place n m : ℕ) → k ≡ take 16 (drop (16 * place) keys) → 16 * place + 16 ≤ length keys → m + n ≤ 16
    → take n (drop m k) ≡ take n (drop (16 * place + m) keys)
part_held k keys place n m e h l =
    rw (
      e,
      drop_take m 16 (drop (16 * place) keys) (omega arith) (simp length-drop (omega arith)),
      take-take n (16 - m) (drop m (drop (16 * place) keys)) (omega arith),
      drop-drop m (16 * place) keys,
    )

pub tag_put : (r : Root) (k keys d x : List ℕ) (place n m at next : ℕ) (t : Bool) → t ≡ same (take r.length k) (root_bytes r) → t ≡ true → m ≡ r.length
    → n ≡ label_length k → m < n → length k ≡ 16 → k ≡ take 16 (drop (16 * place) keys) → 16 * place + 16 ≤ length keys
    → Put d at (closed_tag (take (n - m) (drop (16 * place + m) keys))) x next → Put d at (part_of (global_tag (root_bytes r) (take 16 (drop (16 * place) keys)))) x next
tag_put r k keys d x place n m at next t p q e f h z c s y =
    let tp : tag_of (root_bytes r) k ≡ take (n - m) (drop (16 * place + m) keys) =
    tag_part r k n m e f h z ∙ part_held k keys place (n - m) m c s (omega (arith, label_most k z)) in
    rw (← c, tag_is r k n m t p q e f h, tp) y

-- the bytes of a tag copied, and closed

part_size : (k : List ℕ) (from n : ℕ) → from + n ≤ length k → length (take n (drop from k)) ≡ n
part_size k from n h = length-take-le n (drop from k) (simp length-drop (omega arith))

least : (t : Bool) (at n l : ℕ) → at + pick t (n + 1) n ≤ l → at + n ≤ l
least true at n l h = omega arith
least false at n l h = h

pub part_fits : (at n l : ℕ) → at + pick (ltb n 12) (n + 1) n ≤ l → at + n ≤ l
part_fits at n l h = least (ltb n 12) at n l h

-- x is left, and the next position is `end`, once n bytes are put
module _ (k d x : List ℕ) (from n at end : ℕ) (p : Put d at (take n (drop from k)) x end) (f : from + n ≤ length k) (h : at + pick (ltb n 12) (n + 1) n ≤ length d) where
  tag_end : end ≡ at + n
  tag_end = p.end ∙ ap (λ (m : ℕ). at + m) (part_size k from n f)

  part_room : at + length (take n (drop from k)) ≤ length d
  part_room = omega (arith, part_size k from n f, part_fits at n (length d) h)

  pub zero_in : n < 12 → end < length x
  zero_in s =
      let w : at + (n + 1) ≤ length d = rw (lt-ltb n 12 s) at h in
      let b : length x ≡ length d = ap length p.bytes ∙ length_pasted d at (take n (drop from k)) part_room in
      omega (arith, tag_end)

  pub next_fits : length d < 2 ^ 64 → n < 12 → Fits w64 (end + 1)
  next_fits b s = let w : at + (n + 1) ≤ length d = rw (lt-ltb n 12 s) at h in omega (arith, tag_end)

  pub put_short : n < 12 → Put d at (closed_tag (take n (drop from k))) (set x end 0x00) (end + 1)
  put_short s =
      let w : at + (n + 1) ≤ length d = rw (lt-ltb n 12 s) at h in
      let lt : length (take n (drop from k)) ≡ n = part_size k from n f in
      let c : closed_tag (take n (drop from k)) ≡ take n (drop from k) ++ (0x00 ∷ []) = rw (lt, lt-ltb n 12 s) in
      let a : end ≡ at + length (take n (drop from k)) = p.end in
      rw c
      (record {
        end = rw (length-append (take n (drop from k)) (0x00 ∷ []), lt) (omega (arith, tag_end));
        bytes = rw (p.bytes, a) (set_after d at (take n (drop from k)) 0x00 (omega arith));
      })

  pub put_long : 12 ≤ n → Put d at (closed_tag (take n (drop from k))) x end
  put_long s =
      let c : closed_tag (take n (drop from k)) ≡ take n (drop from k) = rw (part_size k from n f, le-ltb n 12 s) (append-nil (take n (drop from k))) in
      rw c p

pub tag_put_over : (r : Root) (k x d : List ℕ) (n m at : ℕ) (t : Bool) → t ≡ same (take r.length k) (root_bytes r) → t ≡ true → m ≡ r.length → n ≡ label_length k
    → n ≤ m → k ≡ x → Put d at (part_of (global_tag (root_bytes r) x)) d at
tag_put_over r k x d n m at t p q e f h c = rw (← c, tag_over r k n m t p q e f h) (put_none d at)

pub tag_put_none : (r : Root) (k x d : List ℕ) (at : ℕ) (t : Bool) → t ≡ same (take r.length k) (root_bytes r) → t ≡ false
    → k ≡ x → Put d at (part_of (global_tag (root_bytes r) x)) d at
tag_put_none r k x d at t p q c = rw (← c, tag_none r k t p q) (put_none d at)

pub same_length_zero : (d x : List ℕ) (i v : ℕ) → length x ≡ length d → length (set x i v) ≡ length d
same_length_zero d x i v e = length-set x i v ∙ e

-- ---- elements

pub element_wide : (t k x : List ℕ) (place : ℕ) (b : Bool) → place < length t / 20 → x ≡ ((table_of t).row place).key → b ≡ same x k → b ≡ true
    → Some 0 ≡ wide (element_label (table_of t) place k)
element_wide t k x place b h e f g =
    let q : same ((table_of t).row place).key k ≡ true = cc in
    rw (table_count t, lt-ltb place (length t / 20) h, q)

pub element_other : (t k x : List ℕ) (place : ℕ) (b : Bool) → place < length t / 20 → x ≡ ((table_of t).row place).key → b ≡ same x k → b ≡ false
    → None ≡ wide (element_label (table_of t) place k)
element_other t k x place b h e f g =
    let q : same ((table_of t).row place).key k ≡ false = cc in
    rw (table_count t, lt-ltb place (length t / 20) h, q)

pub element_past : (t k : List ℕ) (place : ℕ) → length t / 20 ≤ place → None ≡ wide (element_label (table_of t) place k)
element_past t k place h = rw (table_count t, le-ltb place (length t / 20) h)

-- ---- keys

pub key_long : (keys : List ℕ) (place : ℕ) → 16 * place + 16 ≤ length keys → length (take 16 (drop (16 * place) keys)) ≡ 16
key_long keys place h = length-take-le 16 (drop (16 * place) keys) (simp length-drop (omega arith))

-- ---- global sets and packs

module _ (kd : Kind) (root k : List ℕ) (b : Bool) (e : b ≡ is_global kd) where
  global_bytes : b ≡ true → label_bytes kd root k 0 ≡ part_of (global_tag root k)
  unfolding label_bytes
  global_bytes f = by_kind kd (sym e ∙ f)
    where
      by_kind : (x : Kind) → is_global x ≡ true → label_bytes x root k 0 ≡ part_of (global_tag root k)
      by_kind Universal h = absurd (false≢true h)
      by_kind (Global y) h = refl
      by_kind (Local z y) h = absurd (false≢true h)
      by_kind (Variable y) h = absurd (false≢true h)
      by_kind Defined h = absurd (false≢true h)
      by_kind NoGroup h = absurd (false≢true h)

  pub global_room : (at l : ℕ) → b ≡ true → at + length (label_bytes kd root k 0) ≤ l → at + length (part_of (global_tag root k)) ≤ l
  global_room at l f r = rw (global_bytes f) at r

  pub global_put : (d x : List ℕ) (at next : ℕ) → b ≡ true → Put d at (part_of (global_tag root k)) x next → Put d at (label_bytes kd root k 0) x next
  global_put d x at next f p = rw (global_bytes f) p

  -- the elements of a pack have no label
  no_bytes : b ≡ false → is_other kd ≡ true → label_bytes kd root k 0 ≡ []
  unfolding label_bytes
  no_bytes f o = by_kind kd (sym e ∙ f) o
    where
      by_kind : (x : Kind) → is_global x ≡ false → is_other x ≡ true → label_bytes x root k 0 ≡ []
      by_kind Universal h q = absurd (false≢true q)
      by_kind (Global y) h q = absurd (false≢true (sym h))
      by_kind (Local z y) h q = absurd (false≢true q)
      by_kind (Variable y) h q = refl
      by_kind Defined h q = refl
      by_kind NoGroup h q = absurd (false≢true q)

  pub element_put : (d : List ℕ) (at : ℕ) → b ≡ false → is_other kd ≡ true → Put d at (label_bytes kd root k 0) d at
  element_put d at f o = rw (no_bytes f o) (put_none d at)
