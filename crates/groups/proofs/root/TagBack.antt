-- A tag that was cut from a key is read back: joined with the root it is that key, whatever follows it. From klv's laws of
-- labels: the words of a key go on after the root with no word open, and have no word 00 before the label's end.
use mathlib.Core.Path.{◌≡◌, refl, sym, ap, ◌∙◌}
use mathlib.Core.Bool.{Bool, true, false}
use mathlib.Core.List.{List, [], ◌∷◌, ◌++◌, append_assoc, append-nil}
use mathlib.Core.Option.{none, some}
use Prim.Native.Nat.{ℕ, suc, ◌+◌, ◌-◌, ◌<◌, ◌≤◌}
use native.Mathlib.Omega.{arith}
use lib.Dec.{ltb}
use lib.ListN.{length, take, drop, replicate, length-append, length-drop, take-append-drop}
use lib.Seq.{length-take-le, take_at, take-take, take-append-add}
use borrow.Author.Tests.{le-leb, lt-ltb, le-ltb, ltb-true, ltb-false, ne_eqb}
use Rattle.klv.specs.Pick.{pick, both}
use Rattle.klv.specs.Bytes.{same}
use Rattle.klv.specs.Key.{is_key, before_zero, label_length}
use Rattle.klv.specs.KeyText.{inside_after}
use Rattle.klv.specs.declared.layout.Layout.{Layout}
use Rattle.klv.proofs.Cases.{pick_cases, both_true, absurd_number}
use Rattle.klv.proofs.BytesLaws.{same_true}
use Rattle.klv.proofs.KeyLaws.{key_size}
use Rattle.klv.proofs.KeyLabel.{label_most, label_fill, label_front, label_closed}
use Rattle.klv.proofs.LabelLaws.{after_join, before_join, before_zero_law, before_split}
use Rattle.groups.specs.declared.kind.Kind.TheVariants.{Global}
use Rattle.groups.specs.Kind.{kind_of}
use Rattle.groups.specs.Root.{label_of, root_of, join, global_label, tag_of, global_tag}
use Rattle.groups.proofs.root.RootLaws.{RootFit, root_fit}

-- ---- reading a tag

-- so many zeros fill root and tag up to 16 bytes
abbrev fill : List ℕ → List ℕ → List ℕ
fill root tag = replicate (16 - (length root + length tag)) 0x00

-- root and tag are the key's label: filled, they are the key
filled : (root tag k : List ℕ) → is_key k ≡ true → root ++ tag ≡ take (label_length k) k → length root + length tag ≡ label_length k
    → root ++ (tag ++ fill root tag) ≡ k
filled root tag k e q s =
    sym (append_assoc root tag (fill root tag))
    ∙ ap (λ (l : List ℕ). l ++ fill root tag) q
    ∙ ap (λ (n : ℕ). take (label_length k) k ++ replicate (16 - n) 0x00) s
    ∙ label_fill k e

-- joined with the root, a tag is the key that it was cut from
pub join_key : (root tag k : List ℕ) (w : ℕ) → is_key k ≡ true → root ++ tag ≡ take (label_length k) k → join root tag w ≡ label_of w k
unfolding join
join_key root tag k w e q =
    let m : label_length k ≤ 16 = label_most k (key_size k e) in
    let n : length (take (label_length k) k) ≡ label_length k = length-take-le (label_length k) k (omega (arith, key_size k e)) in
    let s : length root + length tag ≡ label_length k = sym (length-append root tag) ∙ ap length q ∙ n in
    rw (filled root tag k e q s, e, le-leb (length root + length tag) 16 (omega arith))

-- the first 12 bytes of a shorter tag, 00 and what follows
first_twelve : (tag rest : List ℕ) → length tag < 12 → take 12 (tag ++ (0x00 ∷ rest)) ≡ tag ++ (0x00 ∷ take (11 - length tag) rest)
first_twelve tag rest h =
    let n : 12 ≡ length tag + suc (11 - length tag) = omega arith in
    ap (λ (m : ℕ). take m (tag ++ (0x00 ∷ rest))) n ∙ take-append-add tag (0x00 ∷ rest) (suc (11 - length tag))

-- behind closed words the first 00 stops the count
before_ending : (tag rest : List ℕ) → before_zero false tag ≡ length tag → inside_after false tag ≡ false → before_zero false (tag ++ (0x00 ∷ rest)) ≡ length tag
before_ending tag rest b c = omega (arith, (rw (c, before_zero_law) at (before_join false tag (0x00 ∷ rest) b)))

-- fewer than 12 bytes of closed words, and then 00
pub label_short : (root tag rest : List ℕ) → 0 < length tag → length tag < 12 → before_zero false tag ≡ length tag → inside_after false tag ≡ false
    → global_label root (tag ++ (0x00 ∷ rest)) ≡ join root tag (length tag + 1)
unfolding global_label
label_short root tag rest p h b c =
    let r : List ℕ = take (11 - length tag) rest in
    let n : length tag < length (tag ++ (0x00 ∷ r)) = omega (arith, length-append tag (0x00 ∷ r)) in
    rw (
      first_twelve tag rest h,
      before_ending tag r b c,
      lt-ltb (length tag) (length (tag ++ (0x00 ∷ r))) n,
      ne_eqb (length tag) 0 (λ e. omega arith),
      take_at tag (0x00 ∷ rest) (length tag) refl,
    )

-- 12 bytes with no word 00 among them
pub label_long : (root tag rest : List ℕ) → length tag ≡ 12 → before_zero false tag ≡ length tag → global_label root (tag ++ rest) ≡ join root tag 12
unfolding global_label
label_long root tag rest h b =
    let t : take 12 (tag ++ rest) ≡ tag = take_at tag rest 12 h in
    let n : 12 ≤ length (tag ++ rest) = omega (arith, length-append tag rest) in
    rw (t, b, le-ltb (length tag) (length tag) (omega arith), le-ltb (length (tag ++ rest)) 12 n)

-- ---- cutting a tag from a key

-- the bytes of a key's label after a root
pub record Cut (root k tag : List ℕ) : Type 0 where
  pub joined : root ++ tag ≡ take (label_length k) k
  pub sizes : length root + length tag ≡ label_length k
  pub whole : before_zero false tag ≡ length tag
  pub closed : inside_after false tag ≡ false

-- they have no word 00 among them and leave no word open
pub tag_cut : (root k : List ℕ) → is_key k ≡ true → inside_after false root ≡ false → take (length root) k ≡ root → length root < label_length k
    → Cut root k (tag_of root k)
tag_cut root k e c t h =
    let m : ℕ = length root in
    let w : List ℕ = take (label_length k) k in
    let s : length w ≡ label_length k = length-take-le (label_length k) k (omega (arith, key_size k e, label_most k (key_size k e))) in
    let f : take m w ≡ root = take-take m (label_length k) k (omega arith) ∙ t in
    let j : root ++ drop m w ≡ w = rw f at (take-append-drop m w) in
    let n : length root + length (drop m w) ≡ label_length k = omega (arith, length-drop m w) in
    let b : before_zero false w ≡ m + before_zero (inside_after false (take m w)) (drop m w) = before_split false w m (omega (arith, label_front k e)) in
    let b' : before_zero false w ≡ m + before_zero false (drop m w) = rw (f, c) at b in
    record {
      joined = j;
      sizes = n;
      whole = omega (arith, label_front k e);
      closed = sym (rw (j, c) at (after_join false root (drop m w))) ∙ label_closed k e;
    }

-- what a tag that was written tells
pub tag_told_law : (root k a : List ℕ) → global_tag root k ≡ some a
    → (take (length root) k ≡ root) × (length root < label_length k) × (a ≡ tag_of root k ++ pick (ltb (length (tag_of root k)) 12) (0x00 ∷ []) [])
unfolding global_tag
tag_told_law root k a e =
    pick_cases (both (same (take (length root) k) root) (ltb (length root) (label_length k))) _ none (some a) e
    (λ h q.
    let p = both_true (same (take (length root) k) root) (ltb (length root) (label_length k)) h in
    (same_true (take (length root) k) root p.0, ltb-true (length root) (label_length k) p.1, cc))
    (λ h q. absurd_number (cc))

-- a tag with its ending, whatever follows it, is read as the key
cut_back : (root k tag rest : List ℕ) → RootFit root → is_key k ≡ true → length root < label_length k → Cut root k tag → (t : Bool) → ltb (length tag) 12 ≡ t
    → global_label root ((tag ++ pick t (0x00 ∷ []) []) ++ rest) ≡ label_of (length (tag ++ pick t (0x00 ∷ []) [])) k
cut_back root k tag rest f e h c true q =
    let p : length tag < 12 = ltb-true (length tag) 12 q in
    rw (append_assoc tag (0x00 ∷ []) rest, length-append tag (0x00 ∷ []))
    (label_short root tag rest (omega (arith, c.sizes)) p c.whole c.closed ∙ join_key root tag k (length tag + 1) e c.joined)
cut_back root k tag rest f e h c false q =
    let p : length tag ≡ 12 = omega (arith, c.sizes, ltb-false (length tag) 12 q, label_most k (key_size k e)) in
    rw (append-nil tag, p) (label_long root tag rest p c.whole ∙ join_key root tag k 12 e c.joined)

-- a tag, whatever follows it, is read as the key that it was cut from
pub tag_back : (root k a rest : List ℕ) → RootFit root → is_key k ≡ true → global_tag root k ≡ some a
    → global_label root (a ++ rest) ≡ label_of (length a) k
tag_back root k a rest f e g =
    let p = tag_told_law root k a g in
    let c = tag_cut root k e f.closed p.0 p.1 in
    rw p.2 (cut_back root k (tag_of root k) rest f e p.1 c (ltb (length (tag_of root k)) 12) refl)

-- the same of the root of a global set's key
pub global_back : (t k a : List ℕ) (y : Layout) → kind_of t ≡ Global y → is_key k ≡ true → global_tag (root_of t) k ≡ some a → (rest : List ℕ)
    → global_label (root_of t) (a ++ rest) ≡ label_of (length a) k
global_back t k a y e i g rest = tag_back (root_of t) k a rest (root_fit t y e) i g
