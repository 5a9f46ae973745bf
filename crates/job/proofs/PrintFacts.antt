-- `print::print_refusal`, `print_listing` and `put_listing`: each fact in the shape of its need.
use mathlib.Core.Path.{◌≡◌, refl, sym, ap, ◌∙◌, subst}
use mathlib.Core.Bool.{true, false}
use mathlib.Core.List.{List, [], ◌++◌, append-nil}
use Prim.Native.Nat.{ℕ, ◌+◌, ◌*◌, ◌<◌, ◌≤◌}
use native.Mathlib.Omega.{arith}
use mir.Val.{Fits}
use mir.Syntax.{w64}
use lib.Dec.{leb}
use lib.ListN.{length, length-append}
use borrow.Author.Tests.{le-leb, lt-leb}
use Rattle.std.specs.Prelude.{Some, None}
use Rattle.klv.specs.Bytes.{pasted}
use Rattle.job.specs.Text.{ok_word, refused_word, refusal_text}
use Rattle.job.specs.Job.{Prints}
use Rattle.groups.specs.Arrays.{Put}
use Rattle.job.specs.Held.{numbers, head_line, held_lines, lines_length, output_line, held_text}
use Rattle.job.proofs.DigitFacts.{length_hex}
use Rattle.job.proofs.LineFacts.{numbers_most, head_size, output_size}
use Rattle.job.proofs.ItemFacts.{length_lines, lines_most}
use Rattle.job.proofs.PutLaws.{Going, going_start, going_room, going_again, going_end}

-- ---- measured: too short, or printed

prints_short : (t d : List ℕ) → length d < length t → Prints t d d None
prints_short t d h = let e : leb (length t) (length d) ≡ false = lt-leb (length t) (length d) h in record { answer = rw e; bytes = rw e }

prints_all : (t d x : List ℕ) (n : ℕ) → n ≡ length t → n ≤ length d → x ≡ pasted d 0 t → Prints t d x (Some n)
prints_all t d x n e h b =
    let l : leb (length t) (length d) ≡ true = le-leb (length t) (length d) (omega arith) in
    record { answer = rw (l, e); bytes = rw l b }

-- ---- a refusal

refusal_is : (n p : ℕ) → head_line refused_word n p ≡ refusal_text n p
unfolding refusal_text head_line numbers
refusal_is n p = refl

pub refusal_size : (n p : ℕ) → length (refusal_text n p) ≡ 7 + length (numbers n p)
refusal_size n p = sym (ap length (refusal_is n p)) ∙ head_size refused_word n p

pub refusal_fits : (n p r : ℕ) → r ≡ length (numbers n p) → Fits w64 (7 + r)
refusal_fits n p r e = omega (arith, numbers_most n p)

pub refusal_short : (n p r : ℕ) (d : List ℕ) → r ≡ length (numbers n p) → length d < 7 + r → Prints (refusal_text n p) d d None
refusal_short n p r d e h = prints_short (refusal_text n p) d (omega (arith, refusal_size n p))

pub refusal_room : (n p r : ℕ) (d : List ℕ) → r ≡ length (numbers n p) → 7 + r ≤ length d → length (head_line refused_word n p) ≤ length d
refusal_room n p r d e h = omega (arith, head_size refused_word n p)

pub refusal_printed : (n p r u : ℕ) (d z : List ℕ) → Put d 0 (head_line refused_word n p) z u → r ≡ length (numbers n p) → 7 + r ≤ length d
    → Prints (refusal_text n p) d z (Some (7 + r))
refusal_printed n p r u d z w e h =
    prints_all (refusal_text n p) d z (7 + r) (omega (arith, refusal_size n p)) h (w.bytes ∙ ap (pasted d 0) (refusal_is n p))

-- ---- a listing

held_is : (w : List ℕ) (n : ℕ) (keys records : List ℕ) → held_text w n keys records ≡ head_line ok_word n (length w) ++ (held_lines n 0 keys records ++ output_line w)
unfolding held_text
held_is w n keys records = refl

length_held : (w : List ℕ) (n : ℕ) (keys records : List ℕ) → 16 * n ≤ length keys
    → length (held_text w n keys records) ≡ 2 + length (numbers n (length w)) + lines_length n 0 records + 2 * length w + 1
length_held w n keys records h =
    ap length (held_is w n keys records)
    ∙ rw (
      length-append (head_line ok_word n (length w)) (held_lines n 0 keys records ++ output_line w),
      length-append (held_lines n 0 keys records) (output_line w),
      head_size ok_word n (length w),
      output_size w,
      length_hex w,
      length_lines n 0 keys records (omega arith),
    ) (omega arith)

module _ (w : List ℕ) (n : ℕ) (records : List ℕ) (r l : ℕ) (e : r ≡ length (numbers n (length w))) where
  pub head_fits : Fits w64 (2 + r)
  head_fits = omega (arith, numbers_most n (length w))

  pub lines_fit : l ≡ lines_length n 0 records → n ≤ 256 → Fits w64 (2 + r + l)
  lines_fit f h = omega (arith, numbers_most n (length w), lines_most n 0 records)

  pub digits_fit : l ≡ lines_length n 0 records → n ≤ 256 → length w ≤ 65536 → Fits w64 (2 + r + l + 2 * length w)
  digits_fit f h k = omega (arith, numbers_most n (length w), lines_most n 0 records)

  pub text_fits : l ≡ lines_length n 0 records → n ≤ 256 → length w ≤ 65536 → Fits w64 (2 + r + l + 2 * length w + 1)
  text_fits f h k = omega (arith, numbers_most n (length w), lines_most n 0 records)

  pub listing_short : (keys d : List ℕ) → l ≡ lines_length n 0 records → 16 * n ≤ length keys → length d < 2 + r + l + 2 * length w + 1 → Prints (held_text w n keys records) d d None
  listing_short keys d f k h = prints_short (held_text w n keys records) d (omega (arith, length_held w n keys records k))

  pub listing_room : (keys d : List ℕ) → l ≡ lines_length n 0 records → 16 * n ≤ length keys → 2 + r + l + 2 * length w + 1 ≤ length d → length (held_text w n keys records) ≤ length d
  listing_room keys d f k h = omega (arith, length_held w n keys records k)

  pub listing_printed : (keys d x : List ℕ) → l ≡ lines_length n 0 records → 16 * n ≤ length keys → 2 + r + l + 2 * length w + 1 ≤ length d → x ≡ pasted d 0 (held_text w n keys records)
      → Prints (held_text w n keys records) d x (Some (2 + r + l + 2 * length w + 1))
  listing_printed keys d x f k h b = prints_all (held_text w n keys records) d x (2 + r + l + 2 * length w + 1) (omega (arith, length_held w n keys records k)) h b

pub double_fits : (m : ℕ) → m ≤ 65536 → Fits w64 (2 * m)
double_fits m h = omega arith

-- ---- writing it: one part after another

module _ (w : List ℕ) (n : ℕ) (keys records d : List ℕ) (room : length (held_text w n keys records) ≤ length d) where
  room_0 : 0 + length (held_text w n keys records) ≤ length d
  room_0 = omega arith

  start : Going d 0 (held_text w n keys records) (head_line ok_word n (length w) ++ (held_lines n 0 keys records ++ output_line w)) d 0
  start = subst (λ (m : List ℕ). Going d 0 (held_text w n keys records) m d 0) (held_is w n keys records) (going_start d 0 (held_text w n keys records))

  pub head_in : length (head_line ok_word n (length w)) ≤ length d
  head_in =
      let r : 0 + length (head_line ok_word n (length w)) ≤ length d = going_room (head_line ok_word n (length w)) (held_lines n 0 keys records ++ output_line w) start room_0 in
      omega arith

  module _ (x : List ℕ) (y : ℕ) (v : Put d 0 (head_line ok_word n (length w)) x y) where
    after_head : Going d 0 (held_text w n keys records) (held_lines n 0 keys records ++ output_line w) x y
    after_head = going_again (head_line ok_word n (length w)) (held_lines n 0 keys records ++ output_line w) start room_0 v

    pub lines_in : y + length (held_lines n 0 keys records) ≤ length x
    lines_in = going_room (held_lines n 0 keys records) (output_line w) after_head room_0

    module _ (x2 : List ℕ) (y2 : ℕ) (v2 : Put x y (held_lines n 0 keys records) x2 y2) where
      after_lines : Going d 0 (held_text w n keys records) (output_line w ++ []) x2 y2
      after_lines =
          subst (λ (m : List ℕ). Going d 0 (held_text w n keys records) m x2 y2) (sym (append-nil (output_line w)))
          (going_again (held_lines n 0 keys records) (output_line w) after_head room_0 v2)

      pub output_in : y2 + length (output_line w) ≤ length x2
      output_in = going_room (output_line w) [] after_lines room_0

      pub listing_put : (x3 : List ℕ) (y3 : ℕ) → Put x2 y2 (output_line w) x3 y3 → x3 ≡ pasted d 0 (held_text w n keys records)
      listing_put x3 y3 v3 = (going_end (going_again (output_line w) [] after_lines room_0 v3)).bytes
