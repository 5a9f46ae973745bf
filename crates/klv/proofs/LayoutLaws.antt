-- The laws of layouts that callers use, each over the form: what is written is read back; how wide it is, and that no
-- form of the number is shorter; what fits.
use mathlib.Core.Path.{◌≡◌, sym, ap, ◌∙◌}
use mathlib.Core.List.{List, [], ◌++◌, append-nil}
use mathlib.Core.Bool.{true}
use mathlib.Core.Logic.{◌↔◌}
use Prim.Native.Nat.{ℕ, ◌^◌, ◌<◌, ◌≤◌}
use native.Mathlib.Omega.{arith}
use native.Mathlib.Nat.{zero-lt-suc, pow-le-pow_right, lt_of_lt_of_le}
use lib.Dec.{leb}
use lib.ListN.{length}
use borrow.Author.Tests.{le-leb, leb-true}
use Rattle.klv.specs.Bytes.{Bytes}
use Rattle.klv.specs.Layout.{read_as, written, largest_of, held_bytes}
use Rattle.klv.specs.declared.layout.Form.{Form}
use Rattle.klv.specs.declared.layout.Form.TheVariants.{Ber, Word, One, Two, Four}
use Rattle.klv.specs.Number.{Value}
use Rattle.klv.proofs.DigitLaws.{digits_below}
use Rattle.klv.proofs.FixedLaws.{fixed_told, fixed_back, fixed_below}
use Rattle.klv.proofs.BerLaws.{ber_back, ber_bytes_law, ber_widest, ber_within, ber_below, ber_shortest}
use Rattle.klv.proofs.WordLaws.{word_back, word_bytes, word_widest, word_within, word_below, word_shortest}
use Rattle.klv.proofs.LayoutFacts.{written_some}

-- ---- what is written

-- what is written is read back, with anything after it
pub read_back : (f : Form) (n : ℕ) (rest : List ℕ) → n ≤ largest_of f → read_as f (written f n ++ rest) ≡ Value n (length (written f n))
unfolding read_as written largest_of
read_back Ber n rest h = ber_back n rest (omega arith)
read_back Word n rest h = word_back n rest (omega arith)
read_back One n rest h = fixed_back 1 n rest (omega arith)
read_back Two n rest h = fixed_back 2 n rest (omega arith)
read_back Four n rest h = fixed_back 4 n rest (omega arith)

-- it is bytes, one at least and nine at most
pub written_bytes : (f : Form) (n : ℕ) → Bytes (written f n)
unfolding written
written_bytes Ber n = ber_bytes_law n
written_bytes Word n = word_bytes n
written_bytes One n = λ i. digits_below 256 1 n i (zero-lt-suc 255)
written_bytes Two n = λ i. digits_below 256 2 n i (zero-lt-suc 255)
written_bytes Four n = λ i. digits_below 256 4 n i (zero-lt-suc 255)

pub written_least : (f : Form) (n : ℕ) → 0 < length (written f n)
written_least f n = written_some f n

pub written_most : (f : Form) (n : ℕ) → length (written f n) ≤ 9
unfolding written
written_most Ber n = ber_widest n
written_most Word n = omega (arith, word_widest n)
written_most One n = omega arith
written_most Two n = omega arith
written_most Four n = omega arith

-- ---- what is read

-- a number that was read stands within the bytes, one byte at least
pub read_within : (f : Form) (l : List ℕ) (v w : ℕ) → read_as f l ≡ Value v w → (0 < w) × (w ≤ length l)
unfolding read_as
read_within Ber l v w e = ber_within l v w e
read_within Word l v w e = let h : (0 < w) × (w ≤ length l) × (w ≤ 4) = word_within l v w e in (h.0, h.1)
read_within One l v w e = fixed_told 1 l v w e (λ h f g. (omega arith, omega arith))
read_within Two l v w e = fixed_told 2 l v w e (λ h f g. (omega arith, omega arith))
read_within Four l v w e = fixed_told 4 l v w e (λ h f g. (omega arith, omega arith))

-- it is at most the largest
pub read_largest : (f : Form) (l : List ℕ) (v w : ℕ) → Bytes l → read_as f l ≡ Value v w → v ≤ largest_of f
unfolding read_as largest_of
read_largest Ber l v w b e = omega (arith, ber_below l v w b e)
read_largest Word l v w b e =
    let s : v < 128 ^ 4 = lt_of_lt_of_le (word_below l v w b e) (pow-le-pow_right {n = 128} (zero-lt-suc 127) {i = w} {j = 4} (word_within l v w e).2) in
    omega arith
read_largest One l v w b e = omega (arith, fixed_below 1 l v w b e)
read_largest Two l v w b e = omega (arith, fixed_below 2 l v w b e)
read_largest Four l v w b e = omega (arith, fixed_below 4 l v w b e)

-- no bytes that read as a number are fewer than those written for it
pub written_shortest : (f : Form) (l : List ℕ) (v w : ℕ) → Bytes l → read_as f l ≡ Value v w → length (written f v) ≤ w
unfolding read_as written
written_shortest Ber l v w b e = ber_shortest l v w b e
written_shortest Word l v w b e = word_shortest l v w b e
written_shortest One l v w b e = fixed_told 1 l v w e (λ h f g. omega arith)
written_shortest Two l v w b e = fixed_told 2 l v w e (λ h f g. omega arith)
written_shortest Four l v w b e = fixed_told 4 l v w e (λ h f g. omega arith)

-- ---- what fits

-- bytes that read as the number and nothing else
pub record ReadsAs (f : Form) (n : ℕ) : Type 0 where
  pub bytes : List ℕ
  pub each : Bytes bytes
  pub reads : read_as f bytes ≡ Value n (length bytes)

-- a number is at most the largest exactly if some bytes read as it
pub largest_iff : (f : Form) (n : ℕ) → (n ≤ largest_of f) ↔ ReadsAs f n
largest_iff f n = (
  λ h. record {
    bytes = written f n;
    each = written_bytes f n;
    reads = ap (read_as f) (sym (append-nil (written f n))) ∙ read_back f n [] h;
  },
  λ r. read_largest f r.bytes n (length r.bytes) r.each r.reads,
)

-- it fits exactly if it is at most the largest
pub fits_iff : (f : Form) (n : ℕ) → (leb n (largest_of f) ≡ true) ↔ (n ≤ largest_of f)
fits_iff f n = (leb-true n (largest_of f), le-leb n (largest_of f))

-- the bytes of a number that the layout holds
pub held_written : (f : Form) (n : ℕ) → n ≤ largest_of f → held_bytes f n ≡ written f n
unfolding held_bytes
held_written f n h = rw (le-leb n (largest_of f) h)
