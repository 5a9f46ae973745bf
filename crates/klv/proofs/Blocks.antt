-- A copy as parts that meet or overlap is a copy of the whole: from the laws of `pasted`. Then each fact in the shape of its
-- need.
use mathlib.Core.Path.{◌≡◌, refl, sym, ap, ◌∙◌}
use mathlib.Core.List.{List, ◌++◌}
use Prim.Native.Nat.{ℕ, ◌+◌, ◌-◌, ◌*◌, ◌/◌, ◌%◌, ◌<◌, ◌≤◌}
use native.Mathlib.Omega.{arith}
use native.Mathlib.Nat.{zero-add}
use borrow.Rule.Slice.PartMut.{put_mid}
use lib.ListN.{length, take, drop, length-drop}
use lib.Seq.{take_at, drop_at, take-add, drop-drop, length-take-le, drop-append-add}
use Rattle.klv.specs.Bytes.{pasted}
use Rattle.klv.proofs.Paste.{pasted_is, pasted_none, pasted_pasted, length_pasted}

-- what is written over a part that is no longer, from the same position on, covers it
covered : (d : List ℕ) (p : ℕ) (us vs : List ℕ) → p + length us ≤ length d → length us ≤ length vs → pasted (pasted d p us) p vs ≡ pasted d p vs
covered d p us vs h m =
    let lt : length (take p d) ≡ p = length-take-le p d (omega arith) in
    let r : List ℕ = drop (p + length us) d in
    let more : ℕ = length vs - length us in
    let e : length vs ≡ length us + more = omega arith in
    let front : take p (pasted d p us) ≡ take p d = rw (pasted_is d p us) (take_at (take p d) (us ++ r) p lt) in
    let after : drop p (pasted d p us) ≡ us ++ r = rw (pasted_is d p us) (drop_at (take p d) (us ++ r) p lt) in
    let a : drop (p + length vs) (pasted d p us) ≡ drop (length vs) (us ++ r) = sym (drop-drop (length vs) p (pasted d p us)) ∙ ap (drop (length vs)) after in
    let b : drop (length vs) (us ++ r) ≡ drop more r = ap (λ (x : ℕ). drop x (us ++ r)) e ∙ drop-append-add us r more in
    let f : p + length us + more ≡ p + length vs = omega arith in
    let g : drop more r ≡ drop (p + length vs) d = drop-drop more (p + length us) d ∙ ap (λ (x : ℕ). drop x d) f in
    pasted_is (pasted d p us) p vs
    ∙ ap (λ (x : List ℕ). x ++ (vs ++ drop (p + length vs) (pasted d p us))) front
    ∙ ap (λ (x : List ℕ). take p d ++ (vs ++ x)) (a ∙ b ∙ g)
    ∙ sym (pasted_is d p vs)

-- a block of m elements, and one of k from r on, where they meet or overlap: the first r + k
pub overlapping : (d l : List ℕ) (at m r k : ℕ) → r ≤ m → m ≤ r + k → r + k ≤ length l → at + (r + k) ≤ length d
    → pasted (pasted d at (take m l)) (at + r) (take k (drop r l)) ≡ pasted d at (take (r + k) l)
overlapping d l at m r k h g b c =
    let us : List ℕ = take r l in
    let ms : List ℕ = take (m - r) (drop r l) in
    let vs : List ℕ = take k (drop r l) in
    let lu : length us ≡ r = length-take-le r l (omega arith) in
    let lm : length ms ≡ m - r = length-take-le (m - r) (drop r l) (simp length-drop (omega arith)) in
    let lv : length vs ≡ k = length-take-le k (drop r l) (simp length-drop (omega arith)) in
    let e : m ≡ r + (m - r) = omega arith in
    let q : at + r ≡ at + length us = omega arith in
    let s : take m l ≡ us ++ ms = ap (λ (x : ℕ). take x l) e ∙ take-add r (m - r) l in
    let first : pasted d at (take m l) ≡ pasted (pasted d at us) (at + r) ms =
    ap (pasted d at) s ∙ sym (pasted_pasted d at us ms (omega arith)) ∙ ap (λ (x : ℕ). pasted (pasted d at us) x ms) (sym q) in
    let lp : length (pasted d at us) ≡ length d = length_pasted d at us (omega arith) in
    ap (λ (x : List ℕ). pasted x (at + r) vs) first
    ∙ covered (pasted d at us) (at + r) ms vs (omega arith) (omega arith)
    ∙ ap (λ (x : ℕ). pasted (pasted d at us) x vs) q
    ∙ pasted_pasted d at us vs (omega arith)
    ∙ ap (pasted d at) (sym (take-add r k l))

-- ---- parts of a slice

-- the part from a to b, as the library writes it
part_over : (d s x y : List ℕ) (a b : ℕ) → y ≡ take (b - a) (drop a s) → x ≡ take a d ++ (y ++ drop (b - a) (drop a d)) → a ≤ b → b ≤ length s
    → x ≡ pasted d a (take (b - a) (drop a s))
part_over d s x y a b e f h g =
    let l : length (take (b - a) (drop a s)) ≡ b - a = length-take-le (b - a) (drop a s) (simp length-drop (omega arith)) in
    let i : pasted d a (take (b - a) (drop a s)) ≡ take a d ++ (take (b - a) (drop a s) ++ drop (a + (b - a)) d) = rw l at (pasted_is d a (take (b - a) (drop a s))) in
    f ∙ rw (e, drop-drop (b - a) a d) (sym i)

-- a part after those before it
part_after : (d s x y z : List ℕ) (a b : ℕ) → x ≡ pasted d 0 (take a s) → z ≡ take (b - a) (drop a s) → y ≡ take a x ++ (z ++ drop (b - a) (drop a x)) → a ≤ b → b ≤ length s
    → b ≤ length d → y ≡ pasted d 0 (take b s)
part_after d s x y z a b p e f h g k =
    let la : length (take a s) ≡ a = length-take-le a s (omega arith) in
    let q : a + (b - a) ≡ b = omega arith in
    let j : pasted (pasted d 0 (take a s)) (0 + length (take a s)) (take (b - a) (drop a s)) ≡ pasted d 0 (take a s ++ take (b - a) (drop a s)) =
    pasted_pasted d 0 (take a s) (take (b - a) (drop a s)) (omega arith) in
    let u : take a s ++ take (b - a) (drop a s) ≡ take b s = sym (take-add a (b - a) s) ∙ ap (λ (n : ℕ). take n s) q in
    part_over x s y z a b e f h g
    ∙ ap (λ (w : List ℕ). pasted w a (take (b - a) (drop a s))) p
    ∙ (rw (zero-add, la, u) at j)

-- ---- blocks of 1,024

pub blocks_start : (d s : List ℕ) → d ≡ pasted d 0 (take 0 s)
blocks_start d s = sym (pasted_none d 0)

pub blocks_again : (d s x y z : List ℕ) (n i : ℕ) → x ≡ pasted d 0 (take (i * 1024) s) → z ≡ take (i * 1024 + 1024 - i * 1024) (drop (i * 1024) s)
    → y ≡ take (i * 1024) x ++ (z ++ drop (i * 1024 + 1024 - i * 1024) (drop (i * 1024) x)) → i < n / 1024 → n ≤ length s → n ≤ length d → y ≡ pasted d 0 (take ((i + 1) * 1024) s)
blocks_again d s x y z n i p e f h g k =
    let q : i * 1024 + 1024 ≡ (i + 1) * 1024 = omega arith in
    rw q at (part_after d s x y z (i * 1024) (i * 1024 + 1024) p e f (omega arith) (omega arith) (omega arith))

pub blocks_end : (d s x y z : List ℕ) (n i : ℕ) → x ≡ pasted d 0 (take (i * 1024) s) → z ≡ take (n - (n - n % 1024)) (drop (n - n % 1024) s)
    → y ≡ take (n - n % 1024) x ++ (z ++ drop (n - (n - n % 1024)) (drop (n - n % 1024) x)) → n / 1024 ≤ i → i ≤ n / 1024 → n ≤ length s → n ≤ length d → y ≡ pasted d 0 (take n s)
blocks_end d s x y z n i p e f h u g k =
    let q : i * 1024 ≡ n - n % 1024 = omega arith in
    part_after d s x y z (n - n % 1024) n (rw q at p) e f (omega arith) g k

-- ---- two ends

pub ends_copied : (d s x y : List ℕ) (n k : ℕ) → x ≡ pasted d 0 (take k (drop 0 s)) → y ≡ pasted x (n - k) (take k (drop (n - k) s)) → k ≤ n → n ≤ 2 * k → n ≤ length d → n ≤ length s
    → y ≡ pasted d 0 (take n s)
ends_copied d s x y n k e f a b c l =
    let r : n - k + k ≡ n = omega arith in
    let o : pasted (pasted d 0 (take k s)) (n - k) (take k (drop (n - k) s)) ≡ pasted d 0 (take n s) =
    rw (r, zero-add) at (overlapping d s 0 k (n - k) k (omega arith) (omega arith) (omega arith) (omega arith)) in
    f ∙ rw e o

-- ---- a block by way of an array

pub block_copied : (z d s u v : List ℕ) (at n : ℕ) → u ≡ take (at + n - at) (drop at s) → v ≡ take n (u ++ drop n z) → at + n ≤ length s
    → put_mid at (at + n - at) d v ≡ pasted d at (take n (drop at s))
block_copied z d s u v at n e f h =
    let q : at + n - at ≡ n = omega arith in
    let l : length (take n (drop at s)) ≡ n = length-take-le n (drop at s) (simp length-drop (omega arith)) in
    let g : u ≡ take n (drop at s) = rw q at e in
    let w : v ≡ take n (drop at s) = f ∙ rw g (take_at (take n (drop at s)) (drop n z) n l) in
    let i : v ≡ take (at + n - at) (drop at s) = rw q w in
    part_over d s (put_mid at (at + n - at) d v) v at (at + n) i refl (omega arith) h ∙ ap (λ (m : ℕ). pasted d at (take m (drop at s))) q
