-- Module `root`: roots by value, a tag joined with its root; each fact in the shape of its need.
use mathlib.Core.Path.{◌≡◌, refl, sym, ap, subst, ◌∙◌}
use mathlib.Core.List.{List, [], ◌++◌, is_set}
use mathlib.Core.Bool.{Bool, true, false, false≢true}
use Prim.Native.Nat.{ℕ, zero, suc, ◌+◌, ◌-◌, ◌<◌, ◌≤◌, min}
use native.Mathlib.Omega.{arith}
use mir.Val.{Fits}
use mir.Syntax.{w64}
use lib.Dec.{leb}
use lib.ListN.{length, take, drop, replicate, length-replicate, length-append, length-take, length-drop}
use lib.Seq.{take_at, drop-append-add, length-take-le}
use borrow.Author.Tests.{le-leb, lt-leb, lt-ltb, le-ltb, eq-eqb, ne_eqb}
use Rattle.std.specs.Prelude.{Result, Err}
use Rattle.std.proofs.Math.Nat.{ℕ_set}
use Rattle.klv.specs.Bytes.{pasted}
use Rattle.klv.specs.Pick.{pick}
use Rattle.klv.specs.Placed.{fits}
use Rattle.klv.proofs.PlacedLaws.{fits_room}
use Rattle.klv.specs.Key.{is_key, before_zero}
use Rattle.klv.proofs.Paste.{pasted_is, pasted_pasted, length_pasted}
use Rattle.klv.proofs.KeyLabel.{label_most}
use Rattle.klv.proofs.LabelLaws.{before_most}
use Rattle.groups.specs.declared.kind.Kind.{Kind}
use Rattle.groups.specs.declared.kind.Kind.TheVariants.{Universal, Global, Local, Variable, Defined, NoGroup}
use Rattle.groups.specs.declared.label.Label.{Label}
use Rattle.groups.specs.declared.label.LabelError.{LabelError}
use Rattle.groups.specs.declared.label.LabelError.TheVariants.{CutOff, Malformed}
use Rattle.groups.specs.declared.root.Root.{Root}
use Rattle.groups.specs.Kind.{leading, designator_length, kind_of, is_global}
use Rattle.groups.proofs.kind.KindLaws.{global_told}
use Rattle.groups.specs.Root.{label_of, root_of, root_for, by_value, root_taken, root_bytes, group_of, join, global_label}

-- ---- zeros after what was copied

drop_replicate : (n m : ℕ) → ◌≡◌ {A = List ℕ} (drop n (replicate m 0x00)) (replicate (m - n) 0x00)
drop_replicate zero m = let e : m - 0 ≡ m = omega arith in rw e
drop_replicate (suc n) zero = let e : 0 - suc n ≡ 0 = omega arith in rw e
drop_replicate (suc n) (suc m) = let e : suc m - suc n ≡ m - n = omega arith in rw e (drop_replicate n m)

-- bytes over sixteen, where they fit
key_pasted : (b r l : List ℕ) (at : ℕ) → r ≡ pick (fits b at l) (pasted b at l) b → at + length l ≤ length b → r ≡ pasted b at l
key_pasted b r l at e h = e ∙ rw (fits_room b at l h)

pasted_zeros : (l : List ℕ) → pasted (replicate 16 0x00) 0 l ≡ l ++ replicate (16 - length l) 0x00
pasted_zeros l = rw (pasted_is (replicate 16 0x00) 0 l, drop_replicate (0 + length l) 16, zero-add)
  where
    zero-add : 0 + length l ≡ length l
    zero-add = omega arith

-- a tag over the zeros after a root
pasted_root : (r tag : List ℕ) (m : ℕ) → m ≡ length r → pasted (r ++ replicate (16 - length r) 0x00) m tag ≡ r ++ (tag ++ replicate (16 - (length r + length tag)) 0x00)
pasted_root r tag m e =
    let f : 16 - length r - length tag ≡ 16 - (length r + length tag) = omega arith in
    rw (
      e,
      pasted_is (r ++ replicate (16 - length r) 0x00) (length r) tag,
      take_at r (replicate (16 - length r) 0x00) (length r) refl,
      drop-append-add r (replicate (16 - length r) 0x00) (length tag),
      drop_replicate (length tag) (16 - length r),
      f,
    )

-- ---- a root by value

leading_part : (k : List ℕ) → leading k + designator_length k ≤ 16 → length k ≡ 16 → length (take (leading k) k) ≡ leading k
leading_part k h l = length-take-le (leading k) k (omega arith)

designator_part : (k : List ℕ) → length k ≡ 16 → length (take (designator_length k) (drop 8 k)) ≡ designator_length k
designator_part k l = length-take-le (designator_length k) (drop 8 k) (simp length-drop (omega (arith, label_most k l)))

root_length : (k : List ℕ) → leading k + designator_length k ≤ 16 → length k ≡ 16 → length (root_of k) ≡ leading k + designator_length k
unfolding root_of
root_length k h l = simp (length-append, leading_part k h l, designator_part k l)

-- with these fields a root by value is this one: its facts have one proof each
pub root_same : (r : Root) (n : ℕ) → n ≡ r.length → (b : List ℕ) → b ≡ r.bytes → (h : n ≡ length (take n b)) (i : b ≡ take n b ++ replicate (16 - n) 0x00)
    → record { length = n; bytes = b; sized = h; filled = i } ≡ r
root_same r n e =
    subst
    (λ (m : ℕ). (b : List ℕ) → b ≡ r.bytes → (h : m ≡ length (take m b)) (i : b ≡ take m b ++ replicate (16 - m) 0x00) → record { length = m; bytes = b; sized = h; filled = i } ≡ r)
    (sym e)
    (λ b f.
    subst
    (λ (c : List ℕ). (h : r.length ≡ length (take r.length c)) (i : c ≡ take r.length c ++ replicate (16 - r.length) 0x00)
    → record { length = r.length; bytes = c; sized = h; filled = i } ≡ r)
    (sym f)
    (λ h i.
    ap (λ (x : r.length ≡ length (take r.length r.bytes)). record { length = r.length; bytes = r.bytes; sized = x; filled = i }) (one_size h r.sized)
    ∙ ap (λ (x : r.bytes ≡ take r.length r.bytes ++ replicate (16 - r.length) 0x00). record { length = r.length; bytes = r.bytes; sized = r.sized; filled = x }) (one_fill i r.filled)))
  where
    one_size : IsProp (◌≡◌ {A = ℕ} r.length (length (take r.length r.bytes)))
    one_size = hlevel ℕ_set

    one_fill : IsProp (◌≡◌ {A = List ℕ} r.bytes (take r.length r.bytes ++ replicate (16 - r.length) 0x00))
    one_fill = hlevel (is_set ℕ_set)

module _ (k front bytes : List ℕ) (c g : ℕ) (e' : front ≡ pick (fits (replicate 16 0x00) 0 (take c (drop 0 k))) (pasted (replicate 16 0x00) 0 (take c (drop 0 k))) (replicate 16 0x00))
    (f' : bytes ≡ pick (fits front c (take g (drop 8 k))) (pasted front c (take g (drop 8 k))) front) (p : c ≡ leading k)
    (q : g ≡ designator_length k) (h : leading k + designator_length k ≤ 16) (l : length k ≡ 16) where
  root_long : c + g ≡ length (root_of k)
  root_long = omega (arith, root_length k h l)

  root_whole : bytes ≡ root_of k ++ replicate (16 - length (root_of k)) 0x00
  unfolding root_of
  root_whole =
      let v : ℕ = 0 in
      let r : 0 + length (take c (drop 0 k)) ≤ length (replicate 16 v) = rw (length-replicate 16 v) (omega (arith, length-take c (drop 0 k))) in
      let e : front ≡ pasted (replicate 16 0x00) 0 (take c (drop 0 k)) = key_pasted (replicate 16 0x00) front (take c (drop 0 k)) 0 e' r in
      let lf : length front ≡ 16 = ap length e ∙ length_pasted (replicate 16 0x00) 0 (take c (drop 0 k)) r ∙ length-replicate 16 v in
      let f : bytes ≡ pasted front c (take g (drop 8 k)) = key_pasted front bytes (take g (drop 8 k)) c f' (omega (arith, length-take g (drop 8 k))) in
      let a : List ℕ = take (leading k) k in
      let b : List ℕ = take (designator_length k) (drop 8 k) in
      let la : length (take (leading k) k) ≡ leading k = leading_part k h l in
      let z : 0 + length (take (leading k) k) ≡ leading k = omega arith in
      let w : pasted (pasted (replicate 16 0x00) 0 (take (leading k) k)) (0 + length (take (leading k) k)) (take (designator_length k) (drop 8 k))
      ≡ pasted (replicate 16 0x00) 0 (take (leading k) k ++ take (designator_length k) (drop 8 k)) =
      pasted_pasted (replicate 16 0x00) 0 (take (leading k) k) (take (designator_length k) (drop 8 k)) (simp length-replicate (omega arith)) in
      let y : bytes ≡ pasted (replicate 16 0x00) 0 (root_of k) = rw (f, e, p, q) (rw z at w) in
      y ∙ pasted_zeros (root_of k)

  root_front : take (c + g) bytes ≡ root_of k
  root_front = rw (root_whole, root_long) (root_taken (root_of k))

  pub root_sized : c + g ≡ length (take (c + g) bytes)
  root_sized = root_long ∙ sym (ap length root_front)

  pub root_filled : bytes ≡ take (c + g) bytes ++ replicate (16 - (c + g)) 0x00
  root_filled = rw (root_front, root_long) root_whole

  pub root_is : (s : c + g ≡ length (take (c + g) bytes)) (f : bytes ≡ take (c + g) bytes ++ replicate (16 - (c + g)) 0x00)
      → record { length = c + g; bytes = bytes; sized = s; filled = f } ≡ by_value (root_of k)
  root_is s f = root_same (by_value (root_of k)) (c + g) root_long bytes root_whole s f

pub sum_fits : (k : List ℕ) (c g : ℕ) → c ≡ leading k → g ≡ designator_length k → leading k + designator_length k ≤ 16 → Fits w64 (c + g)
sum_fits k c g e f h = omega arith

-- ---- a group by value

sum_most : (kd : Kind) (k : List ℕ) → kind_of k ≡ kd → is_global kd ≡ true → leading k + designator_length k ≤ 15
sum_most Universal k e g = absurd (false≢true g)
sum_most (Global y) k e g = (global_told k y e).1.sum_most
sum_most (Local s y) k e g = absurd (false≢true g)
sum_most (Variable y) k e g = absurd (false≢true g)
sum_most Defined k e g = absurd (false≢true g)
sum_most NoGroup k e g = absurd (false≢true g)

pub root_asked : (k : List ℕ) (kd : Kind) (t : Bool) → kd ≡ kind_of k → t ≡ is_global kd → t ≡ true → leading k + designator_length k ≤ 16
root_asked k kd t e f g = omega (arith, sum_most kd k (sym e) (sym f ∙ g))

rooted : (kd : Kind) (k : List ℕ) → is_global kd ≡ true → root_for kd k ≡ root_of k
rooted Universal k g = absurd (false≢true g)
rooted (Global y) k g = refl
rooted (Local s y) k g = absurd (false≢true g)
rooted (Variable y) k g = absurd (false≢true g)
rooted Defined k g = absurd (false≢true g)
rooted NoGroup k g = absurd (false≢true g)

rootless : (kd : Kind) (k : List ℕ) → is_global kd ≡ false → root_for kd k ≡ []
rootless Universal k g = refl
rootless (Global y) k g = absurd (false≢true (sym g))
rootless (Local s y) k g = refl
rootless (Variable y) k g = refl
rootless Defined k g = refl
rootless NoGroup k g = refl

pub group_global : (k : List ℕ) (kd : Kind) (t : Bool) (r : Root) → kd ≡ kind_of k → t ≡ is_global kd → t ≡ true → r ≡ by_value (root_of k)
    → record { kind = kd; root = r } ≡ group_of k
unfolding group_of
group_global k kd t r e f g h = rw (← e, rooted kd k (sym f ∙ g)) (ap (λ (x : Root). record { kind = kd; root = x }) h)

pub group_other : (k : List ℕ) (kd : Kind) (t : Bool) (s : 0 ≡ length {A = ℕ} (take 0 (replicate 16 0x00))) (f : ◌≡◌ {A = List ℕ} (replicate 16 0x00) (take 0 (replicate 16 0x00) ++ replicate (16 - 0) 0x00))
    → kd ≡ kind_of k → t ≡ is_global kd → t ≡ false
    → record { kind = kd; root = record { length = 0; bytes = replicate 16 0x00; sized = s; filled = f } } ≡ group_of k
unfolding group_of
group_other k kd t s f e g h =
    rw (← e, rootless kd k (sym g ∙ h)) (ap (λ (x : Root). record { kind = kd; root = x }) (root_same (by_value []) 0 refl (replicate 16 0x00) refl s f))

-- ---- a tag joined with its root

pub root_small : (r : Root) → length r.bytes ≡ 16 → r.length ≤ 16
root_small r b = omega (arith, r.sized, length-take r.length r.bytes)

bytes_split : (r : Root) → r.bytes ≡ root_bytes r ++ replicate (16 - length (root_bytes r)) 0x00
bytes_split r = rw (← r.sized) r.filled

tag_size : (s : List ℕ) (n : ℕ) → n ≤ length s → length (take n s) ≡ n
tag_size s n h = length-take-le n s (omega arith)

pub join_long : (r : Root) (s : List ℕ) (n w : ℕ) (x : Result Label LabelError) → length r.bytes ≡ 16 → n ≤ length s → 16 - r.length < n → x ≡ Err Malformed
    → x ≡ join (root_bytes r) (take n s) w
unfolding join
join_long r s n w x b h l e =
    let p : r.length ≡ length (root_bytes r) = r.sized in
    let q : length (take n s) ≡ n = tag_size s n h in
    let z : r.length ≤ 16 = root_small r b in
    rw (lt-leb (length (root_bytes r) + length (take n s)) 16 (omega arith)) e

joined : (r : Root) (s : List ℕ) (n : ℕ) (front bytes : List ℕ) → bytes ≡ pasted front r.length (take n s) → front ≡ r.bytes
    → bytes ≡ root_bytes r ++ (take n s ++ replicate (16 - (length (root_bytes r) + length (take n s))) 0x00)
joined r s n front bytes e f =
    e ∙ ap (λ (x : List ℕ). pasted x r.length (take n s)) (f ∙ bytes_split r) ∙ pasted_root (root_bytes r) (take n s) r.length (r.sized)

room : (r : Root) (s : List ℕ) (n : ℕ) → length r.bytes ≡ 16 → n ≤ length s → n ≤ 16 - r.length → leb (length (root_bytes r) + length (take n s)) 16 ≡ true
room r s n b h l =
    let p : r.length ≡ length (root_bytes r) = r.sized in
    let q : length (take n s) ≡ n = tag_size s n h in
    let z : r.length ≤ 16 = root_small r b in
    le-leb (length (root_bytes r) + length (take n s)) 16 (omega arith)

pub join_key : (r : Root) (s : List ℕ) (n w : ℕ) (bytes : List ℕ) (t : Bool) → n ≤ length s → n ≤ 16 - r.length
    → bytes ≡ pick (fits r.bytes r.length (take n s)) (pasted r.bytes r.length (take n s)) r.bytes → length r.bytes ≡ 16 → t ≡ is_key bytes → t ≡ true
    → label_of w bytes ≡ join (root_bytes r) (take n s) w
unfolding join
join_key r s n w bytes t h l e' b f g =
    let e : bytes ≡ pasted r.bytes r.length (take n s) = key_pasted r.bytes bytes (take n s) r.length e' (omega (arith, tag_size s n h, root_small r b)) in
    let j : bytes ≡ root_bytes r ++ (take n s ++ replicate (16 - (length (root_bytes r) + length (take n s))) 0x00) = joined r s n r.bytes bytes e refl in
    let k : is_key (root_bytes r ++ (take n s ++ replicate (16 - (length (root_bytes r) + length (take n s))) 0x00)) ≡ true = rw j at (sym f ∙ g) in
    rw (room r s n b h l, k) (ap (λ (x : List ℕ). label_of w x) j)

pub join_no_key : (r : Root) (s : List ℕ) (n w : ℕ) (bytes : List ℕ) (t : Bool) (x : Result Label LabelError) → n ≤ length s → n ≤ 16 - r.length
    → bytes ≡ pick (fits r.bytes r.length (take n s)) (pasted r.bytes r.length (take n s)) r.bytes → length r.bytes ≡ 16 → t ≡ is_key bytes → t ≡ false → x ≡ Err Malformed → x ≡ join (root_bytes r) (take n s) w
unfolding join
join_no_key r s n w bytes t x h l e' b f g z =
    let e : bytes ≡ pasted r.bytes r.length (take n s) = key_pasted r.bytes bytes (take n s) r.length e' (omega (arith, tag_size s n h, root_small r b)) in
    let j : bytes ≡ root_bytes r ++ (take n s ++ replicate (16 - (length (root_bytes r) + length (take n s))) 0x00) = joined r s n r.bytes bytes e refl in
    let k : is_key (root_bytes r ++ (take n s ++ replicate (16 - (length (root_bytes r) + length (take n s))) 0x00)) ≡ false = rw j at (sym f ∙ g) in
    rw (room r s n b h l, k) z

-- ---- a global set's tag

module _ (root s : List ℕ) (n : ℕ) (x : Result Label LabelError) (e : n ≡ before_zero false (take 12 s)) where
  window : length (take 12 s) ≡ min 12 (length s)
  window = length-take 12 s

  pub tag_empty : n < length s → n < 12 → n ≡ 0 → x ≡ Err Malformed → x ≡ global_label root s
  unfolding global_label
  tag_empty h l z g = rw (← e, lt-ltb n (length (take 12 s)) (omega (arith, window)), eq-eqb n 0 z) g

  pub tag_ended : n < length s → n < 12 → (n ≡ 0 → ⊥) → x ≡ join root (take n s) (n + 1) → x ≡ global_label root s
  unfolding global_label
  tag_ended h l z g = rw (← e, lt-ltb n (length (take 12 s)) (omega (arith, window)), ne_eqb n 0 z) g

  pub tag_cut : n < 12 → length s ≤ n → x ≡ Err CutOff → x ≡ global_label root s
  unfolding global_label
  tag_cut h l g = rw (← e, le-ltb n (length (take 12 s)) (omega (arith, window)), lt-ltb (length s) 12 (omega arith)) g

  pub tag_full : 12 ≤ n → x ≡ join root (take 12 s) 12 → x ≡ global_label root s
  unfolding global_label
  tag_full h g =
      let m : before_zero false (take 12 s) ≤ length (take 12 s) = before_most false (take 12 s) in
      rw (← e, le-ltb n (length (take 12 s)) (omega (arith, window)), le-ltb (length s) 12 (omega (arith, window))) g

pub full_in : (s : List ℕ) (n : ℕ) → n ≡ before_zero false (take 12 s) → 12 ≤ n → 12 ≤ length s
full_in s n e h = omega (arith, length-take 12 s, before_most false (take 12 s))
