-- The label of a key: how long it is, that 00 fills the rest, and that the whole key is words.
use mathlib.Core.Path.{◌≡◌, refl, sym, ap, ◌∙◌, subst}
use mathlib.Core.Bool.{Bool, true, false}
use mathlib.Core.List.{List, [], ◌∷◌, ◌++◌}
use Prim.Native.Nat.{ℕ, suc, ◌+◌, ◌-◌, ◌<◌, ◌≤◌}
use native.Mathlib.Omega.{arith}
use lib.Dec.{leb}
use lib.ListN.{length, get_or, take, drop, replicate, length-drop, take-append-drop}
use lib.Seq.{length-take-le, get_or-take, drop-drop}
use borrow.Author.Tests.{ne_eqb, lt-leb}
use Rattle.klv.specs.Key.{words, is_key, before_zero, label_length}
use Rattle.klv.specs.KeyText.{Ranged, inside_after}
use Rattle.klv.proofs.BytesLaws.{all_zero_law}
use Rattle.klv.proofs.LabelLaws.{before_none, before_other, before_most, before_join, before_front}
use Rattle.klv.proofs.LabelWords.{words_none, words_step, words_rest, words_closed, words_join}
use Rattle.klv.proofs.KeyLaws.{ranged, range_cons, range_iff, key_size, key_words, key_front}

-- ---- how long it is

-- bytes 1 to 8 are part of the label
pub label_least : (k : List ℕ) → 8 ≤ label_length k
unfolding label_length
label_least k = omega arith

-- the label ends by byte 16
pub label_most : (k : List ℕ) → length k ≡ 16 → label_length k ≤ 16
unfolding label_length
label_most k l = omega (arith, before_most false (drop 8 k), length-drop 8 k)

-- ---- 00 fills the rest

-- all bytes behind the label are 00
pub label_rest : (k : List ℕ) → is_key k ≡ true → drop (label_length k) k ≡ replicate (16 - label_length k) 0x00
unfolding label_length
label_rest k e =
    let n : ℕ = before_zero false (drop 8 k) in
    let z = words_rest false (drop 8 k) (key_words k e) in
    rw (drop-drop n 8 k, length-drop (8 + n) k, key_size k e) at (all_zero_law (drop n (drop 8 k)) z)

-- a key is its label, filled with 00
pub label_fill : (k : List ℕ) → is_key k ≡ true → take (label_length k) k ++ replicate (16 - label_length k) 0x00 ≡ k
label_fill k e = rw (← label_rest k e) (take-append-drop (label_length k) k)

-- ---- the whole key as words

-- bytes in 01..7F have no word 00 among them
pub range_before : (l : List ℕ) → ranged l ≡ true → before_zero false l ≡ length l
range_before [] e = before_none false
range_before (b ∷ bs) e =
    let p = range_cons b bs e in
    let c : leb 0x80 b ≡ false = lt-leb 0x80 b (omega arith) in
    rw (before_other false b bs (λ q. omega arith), c) (ap suc (range_before bs p.1))

-- bytes in 01..7F leave no word open
pub range_closed : (l : List ℕ) → ranged l ≡ true → inside_after false l ≡ false
unfolding inside_after
range_closed [] e = refl
range_closed (b ∷ bs) e =
    let p = range_cons b bs e in
    let c : leb 0x80 b ≡ false = lt-leb 0x80 b (omega arith) in
    subst (λ (t : Bool). inside_after t bs ≡ false) (sym c) (range_closed bs p.1)

-- bytes in 01..7F are words of one byte
pub range_words : (l : List ℕ) → ranged l ≡ true → words false l ≡ true
range_words [] e = words_none false
range_words (b ∷ bs) e =
    let p = range_cons b bs e in
    let z : b ≡ 0x00 → ⊥ = λ q. omega arith in
    let h : b ≡ 0x80 → ⊥ = λ q. omega arith in
    rw (words_step false b bs, ne_eqb b 0x00 z, ne_eqb b 0x80 h, lt-leb 0x80 b (omega arith)) (range_words bs p.1)

-- bytes 1 to 8 as a part of the key
front_size : (k : List ℕ) → is_key k ≡ true → length (take 8 k) ≡ 8
front_size k e = length-take-le 8 k (omega (arith, key_size k e))

front_each : (k : List ℕ) → is_key k ≡ true → (i : ℕ) → i < length (take 8 k) → Ranged (get_or (take 8 k) i 0)
front_each k e i h =
    let g : i < 8 = omega (arith, front_size k e) in
    rw (get_or-take 8 k i 0 g) (key_front k i e g)

front_range : (k : List ℕ) → is_key k ≡ true → ranged (take 8 k) ≡ true
front_range k e = (range_iff (take 8 k)).1 (front_each k e)

-- all sixteen bytes are words, and then 00
pub key_all_words : (k : List ℕ) → is_key k ≡ true → words false k ≡ true
key_all_words k e =
    let r = front_range k e in
    let j = words_join false (take 8 k) (drop 8 k) (range_before (take 8 k) r) (range_words (take 8 k) r) in
    (rw (take-append-drop 8 k) at j) ∙ key_words k e

-- counting from byte 1 finds the same end
pub label_whole : (k : List ℕ) → is_key k ≡ true → before_zero false k ≡ label_length k
unfolding label_length
label_whole k e =
    let r = front_range k e in
    let j = before_join false (take 8 k) (drop 8 k) (range_before (take 8 k) r) in
    rw (take-append-drop 8 k, range_closed (take 8 k) r, front_size k e) at j

-- the label has no word 00 in it
pub label_front : (k : List ℕ) → is_key k ≡ true → before_zero false (take (label_length k) k) ≡ label_length k
label_front k e = rw (← label_whole k e) (before_front false k)

-- the label leaves no word open
pub label_closed : (k : List ℕ) → is_key k ≡ true → inside_after false (take (label_length k) k) ≡ false
label_closed k e = rw (← label_whole k e) (words_closed false k (key_all_words k e))
