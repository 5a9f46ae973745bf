-- The key test over numbers: bytes 1 to 4, 5 to 8 and 9 to 16 are one number each, the first of them the least. Each fact
-- in the shape of its need.
use mathlib.Core.Path.{◌≡◌, refl, sym, ap, ◌∙◌}
use mathlib.Core.List.{List, [], ◌∷◌, ◌++◌}
use mathlib.Core.Bool.{Bool, true, false, false≢true, not}
use Prim.Native.Nat.{ℕ, ◌+◌, ◌*◌, ◌/◌, ◌%◌, ◌^◌, ◌<◌, ◌≤◌}
use native.Mathlib.Omega.{arith}
use mir.Val.{Fits}
use mir.Syntax.{w8, w32}
use lib.Dec.{eqb}
use lib.ListN.{length, get_or, take, drop, replicate, length-drop, take-append-drop}
use lib.Seq.{length-take-le}
use borrow.Author.Tests.{eq-eqb, eqb-true}
use Rattle.klv.specs.Pick.{pick, both}
use Rattle.klv.specs.Bytes.{all_zero, same}
use Rattle.klv.specs.Key.{in_range, words, is_key, key_or_zeros}
use Rattle.klv.specs.KeyText.{Ranged, Key}
use Rattle.klv.specs.Number.{little, spread}
use Rattle.klv.proofs.Cases.{test_cases, both_true}
use Rattle.klv.proofs.BytesLaws.{bytes_take}
use Rattle.klv.proofs.LittleLaws.{spread_little, spread_low}
use Rattle.klv.proofs.HalfLoops.{last_spread}
use Rattle.klv.proofs.KeyLaws.{is_key_iff, key_at_tested}
use Rattle.klv.proofs.LabelWords.{words_iff}

-- ---- bytes 1 to 4

-- 06 0E 2B 34
abbrev always : List ℕ
always = 0x06 ∷ 0x0E ∷ 0x2B ∷ 0x34 ∷ []

shift_two : (a : ℕ) → a / 256 / 256 ≡ a / 0x1_0000
shift_two a = omega arith

shift_three : (a : ℕ) → a / 256 / 256 / 256 ≡ a / 0x100_0000
shift_three a = omega arith

-- the four bytes of a number, each where it is
abbrev Four : ℕ → Type 0
Four a = (a % 256 ≡ 0x06) × (a / 256 % 256 ≡ 0x0E) × (a / 256 / 256 % 256 ≡ 0x2B) × (a / 256 / 256 / 256 % 256 ≡ 0x34)

four_bytes_law : (a : ℕ) → same (spread 4 a) always ≡ true → Four a
unfolding spread same
four_bytes_law a e =
    let p = both_true (eqb (a % 256) 0x06) _ e in
    let q = both_true (eqb (a / 256 % 256) 0x0E) _ p.1 in
    let r = both_true (eqb (a / 256 / 256 % 256) 0x2B) _ q.1 in
    let s = both_true (eqb (a / 256 / 256 / 256 % 256) 0x34) _ r.1 in
    (eqb-true _ _ p.0, eqb-true _ _ q.0, eqb-true _ _ r.0, eqb-true _ _ s.0)

bytes_four : (a : ℕ) → Four a → same (spread 4 a) always ≡ true
unfolding spread same
bytes_four a p = rw (eq-eqb _ _ p.0, eq-eqb _ _ p.1, eq-eqb _ _ p.2, eq-eqb _ _ p.3)

four_not : (a : ℕ) → (Four a → ⊥) → false ≡ same (spread 4 a) always
four_not a n = test_cases (same (spread 4 a) always) (λ t. absurd (n (four_bytes_law a t))) (λ t. sym t)

pub not_oid : (a : ℕ) → (a % 0x100 ≡ 0x06 → ⊥) → false ≡ same (spread 4 a) always
not_oid a n = four_not a (λ p. n p.0)

pub not_size : (a : ℕ) → (a / 0x100 % 0x100 ≡ 0x0E → ⊥) → false ≡ same (spread 4 a) always
not_size a n = four_not a (λ p. n p.1)

pub not_code : (a : ℕ) → (a / 0x1_0000 % 0x100 ≡ 0x2B → ⊥) → false ≡ same (spread 4 a) always
not_code a n = four_not a (λ p. n (omega (arith, p.2)))

pub designator_told : (a : ℕ) → a % 0x100 ≡ 0x06 → a / 0x100 % 0x100 ≡ 0x0E → a / 0x1_0000 % 0x100 ≡ 0x2B → Fits w32 a
    → eqb (a / 0x100_0000) 0x34 ≡ same (spread 4 a) always
designator_told a p q r f =
    let last : a / 0x100_0000 ≡ 0x34 → a / 256 / 256 / 256 % 256 ≡ 0x34 = λ s. rw (shift_three a, s) in
    test_cases (eqb (a / 0x100_0000) 0x34)
    (λ t. t ∙ sym (bytes_four a (p, q, rw (shift_two a) r, last (eqb-true (a / 0x100_0000) 0x34 t))))
    (λ t. t ∙ four_not a (λ s. let z : a / 0x100_0000 % 256 ≡ 0x34 = rw (shift_three a) at s.3 in false≢true (sym t ∙ eq-eqb (a / 0x100_0000) 0x34 (omega arith))))

-- ---- bytes 1 to 8, with bytes 9 to 16 all 00

abbrev front : ℕ → ℕ → List ℕ
front a b = spread 4 a ++ (spread 4 b ++ replicate 8 0x00)

front_not : (a b : ℕ) → (Key (front a b) → ⊥) → false ≡ is_key (front a b)
front_not a b n = test_cases (is_key (front a b)) (λ t. absurd (n ((is_key_iff (front a b)).0 t))) (λ t. sym t)

pub not_always : (a b : ℕ) (r : Bool) → r ≡ same (spread 4 a) always → not r ≡ true → false ≡ is_key (front a b)
unfolding spread
not_always a b true e f = absurd (false≢true f)
not_always a b false e f = front_not a b (λ p. false≢true (e ∙ bytes_four a (p.byte_1, p.byte_2, p.byte_3, p.byte_4)))

-- a byte of 80 or more, or with seven low bits of 0, is not in 01..7F; another is
high_out : (c : ℕ) → 0x80 ≤ c % 0x100 → Ranged (c % 256) → ⊥
high_out c h p = omega (arith, p)

zero_out : (c : ℕ) → c % 0x80 ≡ 0 → Ranged (c % 256) → ⊥
zero_out c h p = omega (arith, p)

others_in : (c : ℕ) → c % 0x100 < 0x80 → (c % 0x80 ≡ 0 → ⊥) → Ranged (c % 256)
others_in c h n = (omega arith, omega arith)

pub category_high : (a b : ℕ) → 0x80 ≤ b % 0x100 → false ≡ is_key (front a b)
unfolding spread
category_high a b h = front_not a b (λ p. high_out b h p.byte_5)

pub category_zero : (a b : ℕ) → b % 0x80 ≡ 0 → false ≡ is_key (front a b)
unfolding spread
category_zero a b h = front_not a b (λ p. zero_out b h p.byte_5)

pub registry_high : (a b : ℕ) → 0x80 ≤ b / 0x100 % 0x100 → false ≡ is_key (front a b)
unfolding spread
registry_high a b h = front_not a b (λ p. high_out (b / 0x100) h p.byte_6.0)

pub registry_zero : (a b : ℕ) → b / 0x100 % 0x80 ≡ 0 → false ≡ is_key (front a b)
unfolding spread
registry_zero a b h = front_not a b (λ p. zero_out (b / 0x100) h p.byte_6.0)

pub registry_reserved : (a b : ℕ) → b % 0x1_0000 ≡ 0x0602 → false ≡ is_key (front a b)
unfolding spread
registry_reserved a b h = front_not a b (λ p. p.byte_6.1 (omega arith) (omega arith))

pub structure_high : (a b : ℕ) → 0x80 ≤ b / 0x1_0000 % 0x100 → false ≡ is_key (front a b)
unfolding spread
structure_high a b h = front_not a b (λ p. high_out (b / 0x1_0000) h (rw (shift_two b) at p.byte_7))

pub structure_zero : (a b : ℕ) → b / 0x1_0000 % 0x80 ≡ 0 → false ≡ is_key (front a b)
unfolding spread
structure_zero a b h = front_not a b (λ p. zero_out (b / 0x1_0000) h (rw (shift_two b) at p.byte_7))

pub version_high : (a b : ℕ) → 0x80 ≤ b / 0x100_0000 % 0x100 → false ≡ is_key (front a b)
unfolding spread
version_high a b h = front_not a b (λ p. high_out (b / 0x100_0000) h (rw (shift_three b) at p.byte_8))

version_zero : (a b : ℕ) → b / 0x100_0000 % 0x80 ≡ 0 → false ≡ is_key (front a b)
unfolding spread
version_zero a b h = front_not a b (λ p. zero_out (b / 0x100_0000) h (rw (shift_three b) at p.byte_8))

low_two : (b : ℕ) → b % 0x1_0000 ≡ b % 256 + 256 * (b / 256 % 256)
low_two b = omega arith

pub version_told : (a b : ℕ) (r : Bool) → r ≡ same (spread 4 a) always → not r ≡ false
    → b % 0x100 < 0x80 → (b % 0x80 ≡ 0 → ⊥)
    → b / 0x100 % 0x100 < 0x80 → (b / 0x100 % 0x80 ≡ 0 → ⊥) → (b % 0x1_0000 ≡ 0x0602 → ⊥)
    → b / 0x1_0000 % 0x100 < 0x80 → (b / 0x1_0000 % 0x80 ≡ 0 → ⊥)
    → b / 0x100_0000 % 0x100 < 0x80 → not (eqb (b / 0x100_0000 % 0x80) 0) ≡ is_key (front a b)
unfolding spread words all_zero
version_told a b false e f h₅ n₅ h₆ n₆ o h₇ n₇ h₈ = absurd (false≢true (sym f))
version_told a b true e f h₅ n₅ h₆ n₆ o h₇ n₇ h₈ =
    let q = four_bytes_law a (sym e) in
    test_cases (eqb (b / 0x100_0000 % 0x80) 0)
    (λ t. rw t (version_zero a b (eqb-true _ _ t)))
    (λ t.
    rw t
    (sym ((is_key_iff (front a b)).1
    (record {
      size = refl;
      byte_1 = q.0;
      byte_2 = q.1;
      byte_3 = q.2;
      byte_4 = q.3;
      byte_5 = others_in b h₅ n₅;
      byte_6 = (others_in (b / 256) h₆ n₆, λ c d. o (omega (arith, low_two b, c, d)));
      byte_7 = rw (shift_two b) (others_in (b / 0x1_0000) h₇ n₇);
      byte_8 = rw (shift_three b) (others_in (b / 0x100_0000) h₈ (λ z. false≢true (sym t ∙ eq-eqb _ _ z)));
      bytes_9_to_16 = (words_iff (replicate 8 0x00)).0 refl;
    }))))

-- ---- all sixteen bytes

both_in : (a x y w : Bool) → x ≡ both y w → both a x ≡ both (both a y) w
both_in true x y w e = e
both_in false x y w e = refl

eight_in : (a b c d e f g h w : Bool) → both a (both b (both c (both d (both e (both f (both g (both h w)))))))
    ≡ both (both a (both b (both c (both d (both e (both f (both g (both h true)))))))) w
eight_in a b c d e f g h w =
    both_in a _ _ w (both_in b _ _ w (both_in c _ _ w (both_in d _ _ w (both_in e _ _ w (both_in f _ _ w (both_in g _ _ w (both_in h w true w refl)))))))

-- bytes 9 to 16 are words, and with 00 in their place the bytes are a key
key_front : (n : ℕ) (l : List ℕ) → length l ≡ 8 → is_key (spread 8 n ++ l) ≡ both (is_key (spread 8 n ++ replicate 8 0x00)) (words false l)
unfolding is_key spread words all_zero
key_front n l h =
    let m : ℕ = n / 256 / 256 / 256 / 256 in
    rw h
    (eight_in (eqb (n % 256) 0x06) (eqb (n / 256 % 256) 0x0E) (eqb (n / 256 / 256 % 256) 0x2B) (eqb (n / 256 / 256 / 256 % 256) 0x34) (in_range (m % 256))
    (pick (both (eqb (m % 256) 0x02) (eqb (m / 256 % 256) 0x06)) false (in_range (m / 256 % 256)))
    (in_range (m / 256 / 256 % 256)) (in_range (m / 256 / 256 / 256 % 256)) (words false l))

-- eight bytes as two numbers
two_numbers : (n : ℕ) → spread 8 n ≡ spread 4 (n % 0x1_0000_0000) ++ spread 4 (n / 0x1_0000_0000)
unfolding spread
two_numbers n =
    let e : n / 0x1_0000_0000 * 256 ^ 4 + n % 0x1_0000_0000 ≡ n = omega arith in
    let f : n / 0x1_0000_0000 ≡ n / 256 / 256 / 256 / 256 = omega arith in
    let g : spread 4 n ≡ spread 4 (n % 0x1_0000_0000) = rw e at (spread_low 4 (n / 0x1_0000_0000) (n % 0x1_0000_0000)) in
    rw f (ap (λ (l : List ℕ). l ++ spread 4 (n / 256 / 256 / 256 / 256)) g)

front_bytes : (n : ℕ) → spread 8 n ++ replicate 8 0x00 ≡ front (n % 0x1_0000_0000) (n / 0x1_0000_0000)
unfolding spread
front_bytes n = ap (λ (l : List ℕ). l ++ replicate 8 0x00) (two_numbers n)

first_eight : (k : List ℕ) → length k ≡ 16 → ((i : ℕ) → Fits w8 (get_or k i 0)) → spread 8 (little (take 8 k)) ≡ take 8 k
first_eight k l b =
    let t : length (take 8 k) ≡ 8 = length-take-le 8 k (omega arith) in
    rw t at (spread_little (take 8 k) (bytes_take 8 k (λ i. (b i).fits)))

pub begins_told : (k : List ℕ) (x : ℕ) (r : Bool) → x ≡ little (take 8 k) → r ≡ is_key (front (x % 0x1_0000_0000) (x / 0x1_0000_0000)) → length k ≡ 16
    → ((i : ℕ) → Fits w8 (get_or k i 0)) → r ≡ is_key (take 8 k ++ replicate 8 0x00)
begins_told k x r e f l b =
    let p : spread 8 x ≡ take 8 k = rw e (first_eight k l b) in
    f ∙ ap is_key (sym (front_bytes x) ∙ ap (λ (h : List ℕ). h ++ replicate 8 0x00) p)

-- the key test by bytes 1 to 8 and bytes 9 to 16
halves : (k : List ℕ) → length k ≡ 16 → ((i : ℕ) → Fits w8 (get_or k i 0)) → is_key k ≡ both (is_key (take 8 k ++ replicate 8 0x00)) (words false (drop 8 k))
halves k l b =
    ap is_key (sym (take-append-drop 8 k)) ∙ rw (first_eight k l b) at (key_front (little (take 8 k)) (drop 8 k) (simp (length-drop, l)))

pub key_words_told : (k : List ℕ) (y : ℕ) (r w : Bool) → r ≡ is_key (take 8 k ++ replicate 8 0x00) → r ≡ true → y ≡ little (drop 8 k)
    → w ≡ words false (spread 8 y) → length k ≡ 16 → ((i : ℕ) → Fits w8 (get_or k i 0)) → w ≡ is_key k
key_words_told k y r w e f h u l b = u ∙ rw (h, last_spread k l b, halves k l b, ← e, f)

pub key_front_told : (k : List ℕ) (r : Bool) → r ≡ is_key (take 8 k ++ replicate 8 0x00) → r ≡ false → length k ≡ 16 → ((i : ℕ) → Fits w8 (get_or k i 0))
    → false ≡ is_key k
key_front_told k r e f l b = rw (halves k l b, ← e, f)

-- the same of the sixteen bytes of a list, or of fewer
pub found_words_told : (l k : List ℕ) (y : ℕ) (r w : Bool) → k ≡ key_or_zeros l → r ≡ is_key (take 8 k ++ replicate 8 0x00) → r ≡ true → y ≡ little (drop 8 k)
    → w ≡ words false (spread 8 y) → length k ≡ 16 → ((i : ℕ) → Fits w8 (get_or k i 0)) → w ≡ is_key (take 16 l)
found_words_told l k y r w q e h z u n b = key_words_told k y r w e h z u n b ∙ ap is_key q ∙ key_at_tested l

pub found_front_told : (l k : List ℕ) (r : Bool) → k ≡ key_or_zeros l → r ≡ is_key (take 8 k ++ replicate 8 0x00) → r ≡ false → length k ≡ 16
    → ((i : ℕ) → Fits w8 (get_or k i 0)) → false ≡ is_key (take 16 l)
found_front_told l k r q e h n b = key_front_told k r e h n b ∙ ap is_key q ∙ key_at_tested l
