-- Compact numbers, for callers: for the compact numbers of a layout, what is read is what the layout reads, and what is
-- written is what it writes, each law over the form. And the number of four bytes.
use mathlib.Core.Path.{◌≡◌, refl, sym, ap, ◌∙◌}
use mathlib.Core.List.{List, [], ◌∷◌}
use mathlib.Core.Bool.{true}
use Prim.Native.Nat.{ℕ, ◌+◌, ◌*◌, ◌/◌, ◌%◌, ◌<◌, ◌≤◌}
use native.Mathlib.Omega.{arith}
use lib.Dec.{leb}
use lib.ListN.{length, take}
use borrow.Author.Tests.{lt-ltb, le-leb, leb-true}
use Rattle.std.specs.Prelude.{Some, None}
use Rattle.klv.specs.Pick.{pick, both}
use Rattle.klv.specs.Number.{number, digits, fewest, fixed_read}
use Rattle.klv.specs.Ber.{ber_write}
use Rattle.klv.specs.Word.{word_write}
use Rattle.klv.specs.Layout.{read_as, written, largest_of, plain}
use Rattle.klv.specs.Compact.{compact_of, least_width, is_compact, compact_read, compact_bytes, holds, value_of, four_bytes}
use Rattle.klv.specs.declared.compact.Compact.{Compact}
use Rattle.klv.specs.declared.layout.Form.{Form}
use Rattle.klv.specs.declared.layout.Form.TheVariants.{Ber, Word, One, Two, Four}
use Rattle.klv.specs.Number.{Value}
use Rattle.klv.proofs.Cases.{test_cases, both_true}
use Rattle.klv.proofs.FixedLaws.{fixed_read_law}
use Rattle.klv.proofs.LayoutFacts.{plain_read}

pub compact_form : (f : Form) → (compact_of f).layout.form ≡ f
unfolding compact_of
compact_form Ber = refl
compact_form Word = refl
compact_form One = refl
compact_form Two = refl
compact_form Four = refl

-- ---- read

-- a first byte that is a number by itself
first_read : (f : Form) (l : List ℕ) → plain f ≡ true → 1 ≤ length l → number 256 0 (take 1 l) ≤ 0x7F → Value (number 256 0 (take 1 l)) 1 ≡ read_as f l
first_read f [] e h k = absurd (let z : ⊥ = omega arith in z)
first_read f (b ∷ bs) e h k =
    let q : 0 * 256 + b ≡ b = omega arith in
    ap (λ (x : ℕ). Value x 1) q ∙ sym (plain_read f b bs e (omega arith))

-- bytes that spell a compact number are read as it
read_least : (f : Form) (l : List ℕ) → least_width (compact_of f) ≤ length l → number 256 0 (take (least_width (compact_of f)) l) ≤ (compact_of f).most
    → Value (number 256 0 (take (least_width (compact_of f)) l)) (least_width (compact_of f)) ≡ read_as f l
unfolding compact_of least_width read_as plain largest_of
read_least Ber l h k = first_read Ber l refl h k
read_least Word l h k = first_read Word l refl h k
read_least One l h k = sym (fixed_read_law 1 l h)
read_least Two l h k = sym (fixed_read_law 2 l h)
read_least Four l h k = sym (fixed_read_law 4 l h)

read_own : (f : Form) (l : List ℕ) → compact_read (compact_of f) l ≡ read_as f l
unfolding compact_read is_compact
read_own f l =
    test_cases (both (leb (least_width (compact_of f)) (length l)) (leb (number 256 0 (take (least_width (compact_of f)) l)) (compact_of f).most))
    (λ t.
    let b = both_true (leb (least_width (compact_of f)) (length l)) (leb (number 256 0 (take (least_width (compact_of f)) l)) (compact_of f).most) t in
    rw t (read_least f l (leb-true _ _ b.0) (leb-true _ _ b.1)))
    (λ t. rw (t, compact_form f))

pub compact_read_law : (f : Form) (c : Compact) (l : List ℕ) → c ≡ compact_of f → compact_read c l ≡ read_as f l
compact_read_law f c l e = rw e (read_own f l)

-- ---- written

held : (f : Form) (n : ℕ) → n ≤ (compact_of f).most → n ≤ largest_of f
unfolding compact_of largest_of
held Ber n h = omega arith
held Word n h = omega arith
held One n h = omega arith
held Two n h = omega arith
held Four n h = omega arith

-- a compact number is written as its last bytes
write_least : (f : Form) (n : ℕ) → n ≤ (compact_of f).most → digits 256 (least_width (compact_of f)) n ≡ written f n
unfolding compact_of least_width written ber_write word_write fewest largest_of
write_least Ber n h = rw (lt-ltb n 0x80 (omega arith)) (ap (λ (x : ℕ). x ∷ []) (let q : n / 1 % 256 ≡ n = omega arith in q))
write_least Word n h = rw (lt-ltb n 128 (omega arith)) (ap (λ (x : ℕ). x ∷ []) (let q : n / 1 % 256 ≡ n / 1 % 128 = omega arith in q))
write_least One n h = refl
write_least Two n h = refl
write_least Four n h = refl

bytes_own : (f : Form) (n : ℕ) → compact_bytes (compact_of f) n ≡ pick (leb n (largest_of f)) (written f n) []
unfolding compact_bytes
bytes_own f n =
    test_cases (leb n (compact_of f).most)
    (λ t.
    let h : n ≤ (compact_of f).most = leb-true n (compact_of f).most t in
    rw (t, le-leb n (largest_of f) (held f n h)) (write_least f n h))
    (λ t. rw (t, compact_form f))

pub compact_bytes_law : (f : Form) (c : Compact) (n : ℕ) → c ≡ compact_of f → compact_bytes c n ≡ pick (leb n (largest_of f)) (written f n) []
compact_bytes_law f c n e = rw e (bytes_own f n)

holds_own : (f : Form) (n : ℕ) → holds (compact_of f) n ≡ leb n (largest_of f)
unfolding holds
holds_own f n =
    test_cases (leb n (compact_of f).most)
    (λ t. rw (t, le-leb n (largest_of f) (held f n (leb-true n (compact_of f).most t))))
    (λ t. rw (t, compact_form f))

pub compact_width : (f : Form) (c : Compact) (n : ℕ) → c ≡ compact_of f → length (compact_bytes c n) ≡ pick (leb n (largest_of f)) (length (written f n)) 0
compact_width f c n e =
    rw (compact_bytes_law f c n e) (test_cases (leb n (largest_of f)) (λ t. rw t) (λ t. rw t))

pub compact_held_width : (f : Form) (c : Compact) (n : ℕ) → c ≡ compact_of f
    → pick (holds c n) (Some (length (compact_bytes c n))) None ≡ pick (leb n (largest_of f)) (Some (length (written f n))) None
compact_held_width f c n e =
    rw (compact_bytes_law f c n e, e, holds_own f n) (test_cases (leb n (largest_of f)) (λ t. rw t) (λ t. rw t))

-- ---- four bytes

pub four_bytes_law : (l : List ℕ) → 4 ≤ length l → four_bytes l ≡ number 256 0 (take 4 l)
unfolding four_bytes read_as
four_bytes_law l h = ap value_of (fixed_read_law 4 l h)

pub four_none : (l : List ℕ) → length l < 4 → four_bytes l ≡ 0
unfolding four_bytes read_as fixed_read
four_none l h = rw (lt-ltb (length l) 4 h)
