-- Module `lines`, but for the loop over items: each fact in the shape of its need.
use mathlib.Core.Path.{◌≡◌, refl, sym, ◌∙◌}
use mathlib.Core.List.{List, [], ◌∷◌, ◌++◌, append_assoc}
use Prim.Native.Nat.{ℕ, ◌+◌, ◌^◌, ◌<◌, ◌≤◌}
use native.Mathlib.Omega.{arith}
use mir.Val.{Fits}
use mir.Syntax.{w64}
use lib.ListN.{length, take, drop, set, length-append, length-set}
use lib.Seq.{drop-drop}
use borrow.Rule.Slice.PartMut.{put_mid}
use Rattle.klv.specs.Bytes.{pasted}
use Rattle.job.specs.Text.{decimal, hex}
use Rattle.groups.specs.Arrays.{Put}
use Rattle.job.specs.Held.{field, numbers, head_line, output_line}
use Rattle.job.proofs.DigitFacts.{decimal_most}
use Rattle.job.proofs.PutLaws.{wrote_byte, wrote_more, wrote_then, wrote_length, wrote_as}

-- ---- bytes as they are: they are copied over a part of e, which may differ from d in this part alone

pub copied : (d e s x : List ℕ) (at k : ℕ) → x ≡ s → k ≡ length s → take at e ≡ take at d → drop (at + k) e ≡ drop (at + k) d → Put d at s (put_mid at k e x) (at + length s)
unfolding pasted
copied d e s x at k f g h i = record { end = refl; bytes = rw (h, f, drop-drop k at e, i, g) refl }

-- ---- the two numbers at the end of a line

pub length_numbers : (a b : ℕ) → length (numbers a b) ≡ 3 + length (decimal a) + length (decimal b)
unfolding numbers
length_numbers a b = rw (length-append (decimal a) (field b ++ (0x0A ∷ [])), length-append (decimal b) (0x0A ∷ [])) (omega arith)

pub numbers_most : (a b : ℕ) → length (numbers a b) ≤ 43
numbers_most a b = omega (arith, length_numbers a b, decimal_most a, decimal_most b)

pub numbers_length_is : (a b x y : ℕ) → x ≡ length (decimal a) → y ≡ length (decimal b) → 3 + x + y ≡ length (numbers a b)
numbers_length_is a b x y e f = rw (e, f) (sym (length_numbers a b))

pub one_number_fits : (a x : ℕ) → x ≡ length (decimal a) → Fits w64 (3 + x)
one_number_fits a x e = omega (arith, decimal_most a)

pub two_numbers_fit : (a b x y : ℕ) → x ≡ length (decimal a) → y ≡ length (decimal b) → Fits w64 (3 + x + y)
two_numbers_fit a b x y e f = omega (arith, decimal_most a, decimal_most b)

-- ---- writing them

pub decimal_in : (d : List ℕ) (at n : ℕ) → at + length (field n) ≤ length d → at + 1 + length (decimal n) ≤ length (set d at 0x20)
decimal_in d at n h = rw (length-set d at 0x20) (omega arith)

pub field_kept : (d x : List ℕ) (at v : ℕ) → length x ≡ length (set d at v) → length x ≡ length d
field_kept d x at v e = e ∙ length-set d at v

pub field_wrote : (d x : List ℕ) (at n next : ℕ) → at + length (field n) ≤ length d → Put (set d at 0x20) (at + 1) (decimal n) x next → Put d at (field n) x next
field_wrote d x at n next h w = wrote_then (wrote_byte d at 0x20 (omega arith)) w (omega arith)

pub numbers_kept : (d x z : List ℕ) (u v : ℕ) → length x ≡ length d → length z ≡ length x → length (set z u v) ≡ length d
numbers_kept d x z u v e f = length-set z u v ∙ f ∙ e

module _ (d : List ℕ) (at a b : ℕ) (room : at + length (numbers a b) ≤ length d) where
  pub first_in : at + length (field a) ≤ length d
  first_in = omega (arith, length_numbers a b)

  pub second_in : (x : List ℕ) (y : ℕ) → Put d at (field a) x y → y + length (field b) ≤ length x
  second_in x y w =
      let e : y ≡ at + length (field a) = w.end in
      let s : length x ≡ length d = wrote_length w first_in in
      omega (arith, length_numbers a b)

  both_wrote : (x z : List ℕ) (y u : ℕ) → Put d at (field a) x y → Put x y (field b) z u → Put d at (field a ++ field b) z u
  both_wrote x z y u w v = wrote_then w v first_in

  after_both : (x z : List ℕ) (y u : ℕ) → Put d at (field a) x y → Put x y (field b) z u → u < length d
  after_both x z y u w v =
      let e : y ≡ at + length (field a) = w.end in
      let f : u ≡ y + length (field b) = v.end in
      omega (arith, length_numbers a b)

  pub newline_in : (x z : List ℕ) (y u : ℕ) → Put d at (field a) x y → Put x y (field b) z u → u < length z
  newline_in x z y u w v =
      let s : length x ≡ length d = wrote_length w first_in in
      let t : length z ≡ length x = wrote_length v (second_in x y w) in
      omega (arith, after_both x z y u w v)

  pub newline_fits : (x z : List ℕ) (y u : ℕ) → Put d at (field a) x y → Put x y (field b) z u → length d < 2 ^ 64 → Fits w64 (u + 1)
  newline_fits x z y u w v l = omega (arith, after_both x z y u w v)

  pub numbers_wrote : (x z : List ℕ) (y u : ℕ) → Put d at (field a) x y → Put x y (field b) z u → Put d at (numbers a b) (set z u 0x0A) (u + 1)
  unfolding numbers
  numbers_wrote x z y u w v =
      wrote_as (append_assoc (field a) (field b) (0x0A ∷ [])) (wrote_more 0x0A (both_wrote x z y u w v) (after_both x z y u w v))

-- ---- the first line

pub head_size : (word : List ℕ) (a b : ℕ) → length (head_line word a b) ≡ length word + length (numbers a b)
unfolding head_line
head_size word a b = length-append word (numbers a b)

module _ (d word : List ℕ) (a b : ℕ) (room : length (head_line word a b) ≤ length d) where
  pub word_in : 0 + length word ≤ length d
  word_in = omega (arith, head_size word a b)

  pub numbers_after : (x : List ℕ) (y : ℕ) → Put d 0 word x y → y + length (numbers a b) ≤ length x
  numbers_after x y w =
      let e : y ≡ 0 + length word = w.end in
      let s : length x ≡ length d = wrote_length w word_in in
      omega (arith, head_size word a b)

  pub head_wrote : (x z : List ℕ) (y u : ℕ) → Put d 0 word x y → Put x y (numbers a b) z u → Put d 0 (head_line word a b) z u
  unfolding head_line
  head_wrote x z y u w v = wrote_then w v word_in

-- ---- the last line

pub output_size : (s : List ℕ) → length (output_line s) ≡ length (hex s) + 1
unfolding output_line
output_size s = length-append (hex s) (0x0A ∷ [])

module _ (d s : List ℕ) (at : ℕ) (room : at + length (output_line s) ≤ length d) where
  pub digits_in : at + length (hex s) ≤ length d
  digits_in = omega (arith, output_size s)

  after_digits : (x : List ℕ) (y : ℕ) → Put d at (hex s) x y → y < length d
  after_digits x y w = let e : y ≡ at + length (hex s) = w.end in omega (arith, output_size s)

  pub end_in : (x : List ℕ) (y : ℕ) → Put d at (hex s) x y → y < length x
  end_in x y w = let l : length x ≡ length d = wrote_length w digits_in in omega (arith, after_digits x y w)

  pub end_fits : (x : List ℕ) (y : ℕ) → Put d at (hex s) x y → length d < 2 ^ 64 → Fits w64 (y + 1)
  end_fits x y w l = omega (arith, after_digits x y w)

  pub output_wrote : (x : List ℕ) (y : ℕ) → Put d at (hex s) x y → Put d at (output_line s) (set x y 0x0A) (y + 1)
  unfolding output_line
  output_wrote x y w = wrote_more 0x0A w (after_digits x y w)
