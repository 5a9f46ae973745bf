-- Modules `fixed` and `layout`: a layout's form decides; each fact in the shape of its need.
use mathlib.Core.Path.{◌≡◌, refl, sym, ap, ◌∙◌}
use mathlib.Core.List.{List, ◌∷◌}
use mathlib.Core.Bool.{Bool, true, false, false≢true}
use Prim.Native.Nat.{ℕ, ◌+◌, ◌-◌, ◌*◌, ◌^◌, ◌<◌, ◌≤◌}
use native.Mathlib.Omega.{arith}
use mir.Val.{Fits}
use mir.Syntax.{w64}
use lib.Dec.{leb}
use lib.ListN.{length, get_or, take, drop, length-drop}
use borrow.Author.Tests.{ne_eqb, lt-ltb, le-ltb, le-leb, lt-leb}
use Rattle.klv.specs.Bytes.{pasted}
use Rattle.klv.specs.Number.{number, digits, fewest, marked, fixed_read}
use Rattle.klv.specs.Ber.{ber_read, ber_write}
use Rattle.klv.specs.Word.{word_from, word_read, word_write}
use Rattle.klv.specs.Layout.{read_as, written, largest_of, plain, writing, Wrote}
use Rattle.klv.specs.declared.layout.Form.{Form}
use Rattle.klv.specs.declared.layout.Form.TheVariants.{Ber, Word, One, Two, Four}
use Rattle.klv.specs.Number.{Read}
use Rattle.klv.specs.Number.{Value}
use Rattle.klv.specs.declared.layout.NumberError.TheVariants.{Missing}
use Rattle.klv.specs.declared.layout.WriteError.TheVariants.{TooLarge, NoRoom}
use Rattle.std.specs.Prelude.{Ok, Err}
use Rattle.klv.proofs.Lists.{drop_step}
use Rattle.klv.proofs.DigitLaws.{marked_none}
use Rattle.klv.proofs.Fewest.{fewest_some}
use Rattle.klv.proofs.BerFacts.{ber_some}
use Rattle.klv.proofs.WordFacts.{length_word}

-- ---- a number of k bytes

pub fixed_missing : (s : List ℕ) (at n k : ℕ) → n ≡ length s - at → n < k → Err Missing ≡ fixed_read k (drop at s)
unfolding fixed_read
fixed_missing s at n k e h = rw (length-drop at s, lt-ltb (length s - at) k (omega arith))

pub fixed_value : (s : List ℕ) (at n k v : ℕ) → v ≡ number 256 0 (take k (drop at s)) → n ≡ length s - at → k ≤ n → Value v k ≡ fixed_read k (drop at s)
unfolding fixed_read
fixed_value s at n k v e f h = rw (length-drop at s, le-ltb (length s - at) k (omega arith), e)

pub fixed_put : (d x : List ℕ) (at n k : ℕ) → x ≡ pasted d at (marked 0 (digits 256 k n)) → x ≡ pasted d at (digits 256 k n)
fixed_put d x at n k e = rw (marked_none (digits 256 k n)) at e

-- ---- what holds of the form g that a `match` found holds of the layout's form

pub read_form : (f g : Form) (l : List ℕ) (r : Read) → f ≡ g → r ≡ read_as g l → r ≡ read_as f l
read_form f g l r h e = rw h e

pub width_form : (f g : Form) (n r : ℕ) → f ≡ g → r ≡ length (written g n) → r ≡ length (written f n)
width_form f g n r h e = rw h e

pub put_form : (f g : Form) (at n : ℕ) (d x : List ℕ) → f ≡ g → x ≡ pasted d at (written g n) → x ≡ pasted d at (written f n)
put_form f g at n d x h e = rw h e

pub ber_room : (f : Form) (at n l : ℕ) → f ≡ Ber → at + length (written f n) ≤ l → at + length (ber_write n) ≤ l
unfolding written
ber_room f at n l h e = rw h at e

pub word_room : (f : Form) (at n l : ℕ) → f ≡ Word → at + length (written f n) ≤ l → at + length (word_write n) ≤ l
unfolding written
word_room f at n l h e = rw h at e

pub one_room : (f : Form) (at n l : ℕ) → f ≡ One → at + length (written f n) ≤ l → at + 1 ≤ l
unfolding written
one_room f at n l h e = rw h at e

pub two_room : (f : Form) (at n l : ℕ) → f ≡ Two → at + length (written f n) ≤ l → at + 2 ≤ l
unfolding written
two_room f at n l h e = rw h at e

pub four_room : (f : Form) (at n l : ℕ) → f ≡ Four → at + length (written f n) ≤ l → at + 4 ≤ l
unfolding written
four_room f at n l h e = rw h at e

-- ---- the write as a whole: t says whether the layout holds n, w how many bytes it takes, r how many are left

pub too_large : (f : Form) (at n : ℕ) (d : List ℕ) (t : Bool) → t ≡ leb n (largest_of f) → t ≡ false → Wrote f at n d d (Err TooLarge)
unfolding writing
too_large f at n d t e h = let z : leb n (largest_of f) ≡ false = sym e ∙ h in record { answer = rw z; bytes = rw z }

pub no_room : (f : Form) (at n : ℕ) (d : List ℕ) (t : Bool) (w r : ℕ) → t ≡ leb n (largest_of f) → t ≡ true → w ≡ length (written f n) → r ≡ length d - at → r < w → Wrote f at n d d (Err NoRoom)
unfolding writing
no_room f at n d t w r e h p q l =
    let z : leb n (largest_of f) ≡ true = sym e ∙ h in
    let y : leb (at + length (written f n)) (length d) ≡ false = lt-leb (at + length (written f n)) (length d) (omega arith) in
    record { answer = rw (z, y); bytes = rw (z, y) }

pub written_some : (f : Form) (n : ℕ) → 0 < length (written f n)
unfolding written
written_some Ber n = ber_some n
written_some Word n = rw (sym (length_word n (fewest 128 4 n) refl)) (fewest_some 128 3 n)
written_some One n = omega arith
written_some Two n = omega arith
written_some Four n = omega arith

pub room_left : (f : Form) (at n l w r : ℕ) → w ≡ length (written f n) → r ≡ l - at → w ≤ r → at + length (written f n) ≤ l
room_left f at n l w r p q h = omega (arith, written_some f n)

pub next_fits : (f : Form) (at n l w r : ℕ) → w ≡ length (written f n) → r ≡ l - at → w ≤ r → l < 2 ^ 64 → Fits w64 (at + w)
next_fits f at n l w r p q h b = omega (arith, written_some f n)

pub wrote : (f : Form) (at n : ℕ) (d x : List ℕ) (t : Bool) (w r : ℕ) → t ≡ leb n (largest_of f) → t ≡ true → w ≡ length (written f n) → r ≡ length d - at → w ≤ r → x ≡ pasted d at (written f n)
    → Wrote f at n d x (Ok (at + w))
unfolding writing
wrote f at n d x t w r e h p q l b =
    let z : leb n (largest_of f) ≡ true = sym e ∙ h in
    let y : leb (at + length (written f n)) (length d) ≡ true = le-leb (at + length (written f n)) (length d) (room_left f at n (length d) w r p q l) in
    record { answer = rw (z, y, p); bytes = rw (z, y) b }

-- ---- a byte below 80 that is a number by itself

pub plain_read : (f : Form) (b : ℕ) (l : List ℕ) → plain f ≡ true → b < 0x80 → read_as f (b ∷ l) ≡ Value b 1
unfolding plain read_as ber_read word_read word_from fixed_read
plain_read Ber b l e h = rw (lt-ltb b 0x80 h)
plain_read Word b l e h = rw (ne_eqb b 0x80 (λ q. omega arith), lt-ltb b 0x80 h) (ap (λ (x : ℕ). Value x 1) (let q : 0 * 128 + b ≡ b = omega arith in q))
plain_read One b l e h = rw (le-ltb (length (b ∷ l)) 1 (omega arith)) (ap (λ (x : ℕ). Value x 1) (let q : 0 * 256 + b ≡ b = omega arith in q))
plain_read Two b l e h = absurd (false≢true e)
plain_read Four b l e h = absurd (false≢true e)

-- a byte that is a number by itself
pub byte_read : (f : Form) (s : List ℕ) (at b : ℕ) (p : Bool) → p ≡ plain f → p ≡ true → at < length s → b ≡ get_or s at 0 → b < 0x80 → Value b 1 ≡ read_as f (drop at s)
byte_read f s at b p e t l q h =
    let d : drop at s ≡ b ∷ drop (at + 1) s = rw q (drop_step s at l) in
    rw d (sym (plain_read f b (drop (at + 1) s) (sym e ∙ t) h))
