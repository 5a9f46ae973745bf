-- How wide a length was sent: a length that was read is longer than needed exactly if fewer bytes read as the same value;
-- what is written is never longer.
use mathlib.Core.Path.{◌≡◌, refl, sym, ap, ◌∙◌}
use mathlib.Core.Bool.{true, false, false≢true}
use mathlib.Core.List.{List, [], ◌++◌, append-nil}
use mathlib.Core.Logic.{◌↔◌}
use Prim.Native.Nat.{ℕ, zero, suc, ◌≤◌}
use native.Mathlib.Omega.{arith}
use lib.ListN.{length, take, length-append, length-take}
use lib.Seq.{take-append-le, take-take}
use borrow.Author.Tests.{lt-ltb, le-ltb, ltb-true}
use Rattle.klv.specs.Bytes.{Bytes}
use Rattle.klv.specs.Ber.{ber_read, ber_write, longer, ber_length, read_longer}
use Rattle.klv.specs.BerText.{Fewer}
use Rattle.klv.specs.Layout.{read_as, written, is_ber}
use Rattle.std.specs.Prelude.{Ok}
use Rattle.klv.specs.declared.layout.Form.{Form}
use Rattle.klv.specs.declared.layout.Form.TheVariants.{Ber, Word, One, Two, Four}
use Rattle.klv.specs.Number.{Value}
use Rattle.klv.proofs.BerLaws.{ber_one, ber_more, ber_told, ber_back, ber_bytes_law, ber_within, ber_below, ber_shortest}

-- ---- what reading tells

-- value, width, and whether the writer uses fewer bytes
pub length_told : (l : List ℕ) (v w : ℕ) → read_as Ber l ≡ Value v w → ber_length l ≡ Ok (record { number = record { value = v; width = w }; longer = longer v w })
unfolding ber_length read_as
length_told l v w e = rw e

-- it reads so whatever follows it
pub length_goes_on : (l rest : List ℕ) (v w : ℕ) → read_as Ber l ≡ Value v w → read_as Ber (l ++ rest) ≡ Value v w
unfolding read_as
length_goes_on l rest v w e =
    ber_told l v w e
    (λ bs f h g. rw (f, g) (ber_one v (bs ++ rest) h))
    (λ k bs f p q h g z. rw (f, g, z) (ber_more k (bs ++ rest) p q (omega (arith, length-append bs rest)) ∙ rw (take-append-le k bs rest h)))

-- and from so many bytes of l that all of it is among them
pub length_among : (l : List ℕ) (v w n : ℕ) → read_as Ber l ≡ Value v w → w ≤ n → read_as Ber (take n l) ≡ Value v w
unfolding read_as
length_among l v w zero e h = absurd (let z : ⊥ = omega (arith, ber_within l v w e) in z)
length_among l v w (suc n) e h =
    ber_told l v w e
    (λ bs f q g. rw (f, g) (ber_one v (take n bs) q))
    (λ k bs f p q m g z.
    let a : k ≤ n = omega arith in
    rw (f, g, z) (ber_more k (take n bs) p q (omega (arith, length-take n bs)) ∙ rw (take-take k n bs a)))

-- for every BER form that reads: longer than needed exactly if fewer bytes read as the same value
pub longer_iff : (l : List ℕ) (v w : ℕ) → Bytes l → ber_read l ≡ Value v w → (read_longer (ber_length l) ≡ true) ↔ Fewer v w
unfolding longer read_as
longer_iff l v w b e =
    let z : read_longer (ber_length l) ≡ longer v w = ap read_longer (length_told l v w e) in (
      λ h.
          record {
            bytes = ber_write v;
            each = ber_bytes_law v;
            width = length (ber_write v);
            reads = ap ber_read (sym (append-nil (ber_write v))) ∙ ber_back v [] (ber_below l v w b e);
            fewer = ltb-true (length (ber_write v)) w (sym z ∙ h);
          },
      λ f. z ∙ lt-ltb (length (ber_write v)) w (omega (arith, ber_shortest f.bytes v f.width f.each f.reads, ber_within f.bytes v f.width f.reads, f.fewer)),
    )

-- ---- what is written

-- as many bytes as the writer uses are not longer
pub longer_none : (n : ℕ) → longer n (length (written Ber n)) ≡ false
unfolding longer written
longer_none n = le-ltb (length (ber_write n)) (length (ber_write n)) (omega arith)

-- ---- which layout is BER

pub ber_form : (f : Form) → is_ber f ≡ true → f ≡ Ber
unfolding is_ber
ber_form Ber e = refl
ber_form Word e = absurd (false≢true e)
ber_form One e = absurd (false≢true e)
ber_form Two e = absurd (false≢true e)
ber_form Four e = absurd (false≢true e)
