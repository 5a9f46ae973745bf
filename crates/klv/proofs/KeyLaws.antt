-- Laws of keys for callers: what `is_key` says of the sixteen bytes, what `key_at` takes from the front of a list, and that
-- keys are equal if the numbers of their halves are.
use mathlib.Core.Path.{◌≡◌, refl, sym, ◌∙◌}
use mathlib.Core.Logic.{◌↔◌}
use mathlib.Core.Bool.{Bool, true, false, false≢true}
use mathlib.Core.List.{List, [], ◌∷◌, ◌++◌}
use Prim.Native.Nat.{ℕ, zero, suc, ◌<◌, ◌≤◌}
use native.Mathlib.Omega.{arith}
use native.Mathlib.Decide.{dec_le}
use lib.Dec.{leb, eqb}
use lib.ListN.{length, get_or, take, drop, replicate, length-append, length-drop, length-take, take-append-drop}
use lib.Seq.{length-take-le, take_at}
use borrow.Author.Tests.{eqb-true, eq-eqb, leb-true, le-leb, lt-ltb, le-ltb}
use Rattle.klv.specs.Pick.{pick, both}
use Rattle.klv.specs.Bytes.{Bytes}
use Rattle.std.specs.Prelude.{Some, None}
use Rattle.klv.specs.Key.{in_range, words, is_key, key_at, key_or_zeros}
use Rattle.klv.specs.KeyText.{Label, Ranged, Key}
use Rattle.klv.specs.Number.{little}
use Rattle.klv.proofs.Cases.{both_true, passed, test_cases}
use Rattle.klv.proofs.BytesLaws.{bytes_take, bytes_drop}
use Rattle.klv.proofs.LittleLaws.{little_same}
use Rattle.klv.proofs.LabelWords.{words_iff}

-- ---- bytes in 01..7F

-- the test says that a byte lies in 01..7F
pub in_range_iff : (b : ℕ) → (in_range b ≡ true) ↔ Ranged b
unfolding in_range
in_range_iff b = (
  λ e. let p = both_true (leb 0x01 b) (leb b 0x7F) e in (leb-true 0x01 b p.0, leb-true b 0x7F p.1),
  λ p. rw (le-leb 0x01 b p.0, le-leb b 0x7F p.1),
)

-- each byte lies in 01..7F
pub ranged : List ℕ → Bool
ranged [] = true
ranged (b ∷ bs) = both (in_range b) (ranged bs)

-- of bytes in 01..7F, the first and the rest
pub range_cons : (b : ℕ) (bs : List ℕ) → ranged (b ∷ bs) ≡ true → Ranged b × (ranged bs ≡ true)
unfolding ranged
range_cons b bs e = let p = both_true (in_range b) (ranged bs) e in ((in_range_iff b).0 p.0, p.1)

range_each : (l : List ℕ) → ranged l ≡ true → (i : ℕ) → i < length l → Ranged (get_or l i 0)
range_each [] e i h = absurd (let f : ⊥ = omega arith in f)
range_each (b ∷ bs) e zero h = (range_cons b bs e).0
range_each (b ∷ bs) e (suc i) h = range_each bs (range_cons b bs e).1 i (omega arith)

each_range : (l : List ℕ) → ((i : ℕ) → i < length l → Ranged (get_or l i 0)) → ranged l ≡ true
unfolding ranged
each_range [] p = refl
each_range (b ∷ bs) p = rw ((in_range_iff b).1 (p 0 (omega arith))) (each_range bs (λ i h. p (suc i) (omega arith)))

-- the test says that each byte lies in 01..7F
pub range_iff : (l : List ℕ) → (ranged l ≡ true) ↔ ((i : ℕ) → i < length l → Ranged (get_or l i 0))
range_iff l = (range_each l, each_range l)

-- ---- the key test

-- byte 5 = 02 with byte 6 = 06
abbrev reserved : List ℕ → Bool
reserved k = both (eqb (get_or k 4 0) 0x02) (eqb (get_or k 5 0) 0x06)

to_key : (k : List ℕ) → is_key k ≡ true → Key k
unfolding is_key
to_key k e =
    let p₀ = both_true (eqb (length k) 16) _ e in
    let p₁ = both_true (eqb (get_or k 0 0) 0x06) _ p₀.1 in
    let p₂ = both_true (eqb (get_or k 1 0) 0x0E) _ p₁.1 in
    let p₃ = both_true (eqb (get_or k 2 0) 0x2B) _ p₂.1 in
    let p₄ = both_true (eqb (get_or k 3 0) 0x34) _ p₃.1 in
    let p₅ = both_true (in_range (get_or k 4 0)) _ p₄.1 in
    let p₆ = both_true (pick (reserved k) false (in_range (get_or k 5 0))) _ p₅.1 in
    let p₇ = both_true (in_range (get_or k 6 0)) _ p₆.1 in
    let p₈ = both_true (in_range (get_or k 7 0)) _ p₇.1 in
    let r = passed (reserved k) (in_range (get_or k 5 0)) p₆.0 in
    record {
      size = eqb-true (length k) 16 p₀.0;
      byte_1 = eqb-true (get_or k 0 0) 0x06 p₁.0;
      byte_2 = eqb-true (get_or k 1 0) 0x0E p₂.0;
      byte_3 = eqb-true (get_or k 2 0) 0x2B p₃.0;
      byte_4 = eqb-true (get_or k 3 0) 0x34 p₄.0;
      byte_5 = (in_range_iff (get_or k 4 0)).0 p₅.0;
      byte_6 = ((in_range_iff (get_or k 5 0)).0 r.1, λ a b. false≢true (sym r.0 ∙ rw (eq-eqb (get_or k 4 0) 0x02 a, eq-eqb (get_or k 5 0) 0x06 b)));
      byte_7 = (in_range_iff (get_or k 6 0)).0 p₇.0;
      byte_8 = (in_range_iff (get_or k 7 0)).0 p₈.0;
      bytes_9_to_16 = (words_iff (drop 8 k)).0 p₈.1;
    }

not_reserved : (k : List ℕ) → (get_or k 4 0 ≡ 0x02 → get_or k 5 0 ≡ 0x06 → ⊥) → (t : Bool) → reserved k ≡ t → t ≡ false
not_reserved k n true e =
    let p = both_true (eqb (get_or k 4 0) 0x02) (eqb (get_or k 5 0) 0x06) e in
    absurd (n (eqb-true (get_or k 4 0) 0x02 p.0) (eqb-true (get_or k 5 0) 0x06 p.1))
not_reserved k n false e = refl

of_key : (k : List ℕ) → Key k → is_key k ≡ true
unfolding is_key
of_key k p =
    rw (
      eq-eqb (length k) 16 p.size,
      eq-eqb (get_or k 0 0) 0x06 p.byte_1,
      eq-eqb (get_or k 1 0) 0x0E p.byte_2,
      eq-eqb (get_or k 2 0) 0x2B p.byte_3,
      eq-eqb (get_or k 3 0) 0x34 p.byte_4,
      (in_range_iff (get_or k 4 0)).1 p.byte_5,
      not_reserved k p.byte_6.1 (reserved k) refl,
      (in_range_iff (get_or k 5 0)).1 p.byte_6.0,
      (in_range_iff (get_or k 6 0)).1 p.byte_7,
      (in_range_iff (get_or k 7 0)).1 p.byte_8,
    ) ((words_iff (drop 8 k)).1 p.bytes_9_to_16)

-- the key test says what 01 says
pub is_key_iff : (k : List ℕ) → (is_key k ≡ true) ↔ Key k
is_key_iff k = (to_key k, of_key k)

-- ---- what the test tells, one by one

-- a key has sixteen bytes
pub key_size : (k : List ℕ) → is_key k ≡ true → length k ≡ 16
key_size k e = ((is_key_iff k).0 e).size

-- its bytes 1 to 4
pub key_first_four : (k : List ℕ) → is_key k ≡ true → (get_or k 0 0 ≡ 0x06) × (get_or k 1 0 ≡ 0x0E) × (get_or k 2 0 ≡ 0x2B) × (get_or k 3 0 ≡ 0x34)
key_first_four k e = let p = (is_key_iff k).0 e in (p.byte_1, p.byte_2, p.byte_3, p.byte_4)

-- its bytes 5 to 8
pub key_range : (k : List ℕ) (i : ℕ) → is_key k ≡ true → 4 ≤ i → i < 8 → Ranged (get_or k i 0)
key_range k i e g h =
    let p = (is_key_iff k).0 e in
    elim (dec_le i 4) [
      | yes a ↦ let q : i ≡ 4 = omega arith in rw q p.byte_5
      | no a ↦
          elim (dec_le i 5) [
            | yes b ↦ let q : i ≡ 5 = omega arith in rw q p.byte_6.0
            | no b ↦
                elim (dec_le i 6) [
                  | yes c ↦ let q : i ≡ 6 = omega arith in rw q p.byte_7
                  | no c ↦ let q : i ≡ 7 = omega arith in rw q p.byte_8
                ]
          ]
    ]

-- its bytes 9 to 16
pub key_label_law : (k : List ℕ) → is_key k ≡ true → Label (drop 8 k)
key_label_law k e = ((is_key_iff k).0 e).bytes_9_to_16

-- the same, by the test
pub key_words : (k : List ℕ) → is_key k ≡ true → words false (drop 8 k) ≡ true
key_words k e = (words_iff (drop 8 k)).1 (key_label_law k e)

-- byte 5 = 02 with byte 6 = 06 is no key
pub key_not_excluded : (k : List ℕ) → is_key k ≡ true → get_or k 4 0 ≡ 0x02 → get_or k 5 0 ≡ 0x06 → ⊥
key_not_excluded k e = ((is_key_iff k).0 e).byte_6.1

-- bytes 1 to 8 all lie in 01..7F
pub key_front : (k : List ℕ) (i : ℕ) → is_key k ≡ true → i < 8 → Ranged (get_or k i 0)
key_front k zero e h = omega (arith, key_first_four k e)
key_front k (suc zero) e h = omega (arith, key_first_four k e)
key_front k (suc (suc zero)) e h = omega (arith, key_first_four k e)
key_front k (suc (suc (suc zero))) e h = omega (arith, key_first_four k e)
key_front k (suc (suc (suc (suc i)))) e h = key_range k (suc (suc (suc (suc i)))) e (omega arith) h

-- ---- the key at the front of a list

-- sixteen bytes are there
pub key_at_whole : (l : List ℕ) → 16 ≤ length l → key_at l ≡ Some (take 16 l)
unfolding key_at
key_at_whole l h = rw (le-ltb (length l) 16 h)

-- fewer are there
pub key_at_cut : (l : List ℕ) → length l < 16 → key_at l ≡ None
unfolding key_at
key_at_cut l h = rw (lt-ltb (length l) 16 h)

-- a key in front of other bytes
pub key_at_front : (k rest : List ℕ) → length k ≡ 16 → key_at (k ++ rest) ≡ Some k
key_at_front k rest l =
    rw (take_at k rest 16 l) at (key_at_whole (k ++ rest) (simp length-append (omega arith)))

-- fewer bytes are no key, nor are the zeros that stand for them
pub zeros_no_key : is_key (replicate 16 0x00) ≡ false
zeros_no_key =
    test_cases (is_key (replicate 16 0x00))
    (λ t. let f : ◌≡◌ {A = ℕ} 0 0x06 = (key_first_four (replicate 16 0x00) t).0 in absurd (let z : ⊥ = omega arith in z))
    (λ t. t)

pub short_no_key : (l : List ℕ) → length l < 16 → is_key (take 16 l) ≡ false
short_no_key l h =
    test_cases (is_key (take 16 l))
    (λ t. absurd (let z : ⊥ = omega (arith, key_size (take 16 l) t, length-take 16 l) in z))
    (λ t. t)

-- the sixteen bytes, or zeros for them
pub key_or_zeros_whole : (l : List ℕ) → 16 ≤ length l → key_or_zeros l ≡ take 16 l
unfolding key_or_zeros
key_or_zeros_whole l h = rw (key_at_whole l h)

pub key_or_zeros_cut : (l : List ℕ) → length l < 16 → key_or_zeros l ≡ replicate 16 0x00
unfolding key_or_zeros
key_or_zeros_cut l h = rw (key_at_cut l h)

-- so the test of what is there, or of zeros for it, is the test of the sixteen bytes
pub key_at_tested : (l : List ℕ) → is_key (key_or_zeros l) ≡ is_key (take 16 l)
key_at_tested l =
    elim (dec_le 16 (length l)) [
      | yes h ↦ rw (key_or_zeros_whole l h)
      | no h ↦ rw (key_or_zeros_cut l (omega arith)) (zeros_no_key ∙ sym (short_no_key l (omega arith)))
    ]

-- ---- two keys by their halves

-- bytes that spell the same numbers, the first eight and the last, are equal
pub halves_same : (a b : List ℕ) → length a ≡ 16 → length b ≡ 16 → Bytes a → Bytes b → little (take 8 a) ≡ little (take 8 b)
    → little (drop 8 a) ≡ little (drop 8 b) → a ≡ b
halves_same a b l m p q e f =
    let u : take 8 a ≡ take 8 b = little_same (take 8 a) (take 8 b) (length-take-le 8 a (omega arith) ∙ sym (length-take-le 8 b (omega arith))) (bytes_take 8 a p) (bytes_take 8 b q) e in
    let v : drop 8 a ≡ drop 8 b = little_same (drop 8 a) (drop 8 b) (simp (length-drop, l, m)) (bytes_drop 8 a p) (bytes_drop 8 b q) f in
    sym (take-append-drop 8 a) ∙ rw (u, v) (take-append-drop 8 b)
