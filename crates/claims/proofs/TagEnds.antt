-- Where a global tag ends, said of its bytes, is where klv's count of bytes before the first word 00 stops.
use mathlib.Core.Path.{◌≡◌, refl, sym, ◌∙◌}
use mathlib.Core.Bool.{false}
use mathlib.Core.List.{List}
use Prim.Native.Nat.{ℕ, zero, suc, ◌<◌, ◌≤◌}
use native.Mathlib.Omega.{arith}
use native.Mathlib.Decide.{dec_le}
use lib.ListN.{length, get_or, take, length-take}
use lib.Seq.{take-suc, get_or-take}
use borrow.Author.Tests.{leb-false, lt-leb}
use Rattle.klv.specs.Key.{before_zero}
use Rattle.klv.specs.KeyText.{inside_after}
use Rattle.klv.proofs.LabelLaws.{after_none, after_last, before_most, before_closed, before_at, before_first}
use Rattle.claims.specs.Cause.{EndAt, NoEnd, GlobalTag, tag_ended}

-- ---- one end

-- before an end no word is open
end_closed : (l : List ℕ) (n : ℕ) → n ≤ length l → EndAt l n → inside_after false (take n l) ≡ false
end_closed l zero h e = after_none false
end_closed l (suc i) h e =
    rw (take-suc l i 0 (omega arith)) (after_last false (take i l) (get_or l i 0) ∙ lt-leb 0x80 (get_or l i 0) (e.not_after_80 i refl))

-- and a 00 where no word is open is an end
closed_end : (l : List ℕ) (n : ℕ) → n < length l → get_or l n 0 ≡ 0x00 → inside_after false (take n l) ≡ false → EndAt l n
closed_end l n h z c = record { is_00 = z; not_after_80 = before }
  where
    before : (i : ℕ) → suc i ≡ n → get_or l i 0 < 0x80
    before i q =
        let t = take-suc l i 0 (omega arith) in
        let b : inside_after false (take (suc i) l) ≡ false = rw q c in
        leb-false 0x80 (get_or l i 0) (sym (after_last false (take i l) (get_or l i 0)) ∙ (rw t at b))

-- ---- the first end

-- no end stands before the count stops
before_no_end : (l : List ℕ) (i : ℕ) → i < before_zero false l → EndAt l i → ⊥
before_no_end l i h e = before_first false l i h (end_closed l i (omega (arith, before_most false l)) e) e.is_00

-- and one stands where it stops
before_end : (l : List ℕ) → before_zero false l < length l → EndAt l (before_zero false l)
before_end l h = closed_end l (before_zero false l) h (before_at false l h) (before_closed false l h)

-- it stops at the first end
end_before : (l : List ℕ) (n : ℕ) → n < length l → NoEnd l n → EndAt l n → before_zero false l ≡ n
end_before l n h f e =
    elim (dec_le n (before_zero false l)) [
      | yes a ↦
          elim (dec_le (before_zero false l) n) [
            | yes b ↦ omega arith
            | no b ↦ absurd (before_no_end l n (omega arith) e)
          ]
      | no a ↦ absurd (f (before_zero false l) (omega arith) (before_end l (omega arith)))
    ]

-- or at the end of the bytes
no_end_before : (l : List ℕ) → NoEnd l (length l) → before_zero false l ≡ length l
no_end_before l f =
    elim (dec_le (length l) (before_zero false l)) [
      | yes a ↦ omega (arith, before_most false l)
      | no a ↦ absurd (f (before_zero false l) (omega arith) (before_end l (omega arith)))
    ]

-- ---- among 12 bytes

front_end : (l : List ℕ) (n : ℕ) → n < 12 → EndAt l n → EndAt (take 12 l) n
front_end l n h e =
    record {
      is_00 = get_or-take 12 l n 0 h ∙ e.is_00;
      not_after_80 = λ i q. rw (get_or-take 12 l i 0 (omega arith)) (e.not_after_80 i q);
    }

end_front : (l : List ℕ) (n : ℕ) → n < 12 → EndAt (take 12 l) n → EndAt l n
end_front l n h e =
    record {
      is_00 = sym (get_or-take 12 l n 0 h) ∙ e.is_00;
      not_after_80 = λ i q. rw (get_or-take 12 l i 0 (omega arith)) at (e.not_after_80 i q);
    }

-- no end among the first bytes of the 12 where the count has not stopped
pub count_no_end : (l : List ℕ) (n : ℕ) → n ≤ 12 → n ≤ before_zero false (take 12 l) → NoEnd l n
count_no_end l n a h i b e = before_no_end (take 12 l) i (omega arith) (front_end l i (omega arith) e)

-- a tag that ends, and its count
pub count_ended : (l : List ℕ) → before_zero false (take 12 l) < length (take 12 l) → GlobalTag l (take (before_zero false (take 12 l)) l)
count_ended l h =
    let m : before_zero false (take 12 l) < 12 = omega (arith, length-take 12 l) in
    tag_ended (before_zero false (take 12 l)) m (omega (arith, length-take 12 l))
    (count_no_end l (before_zero false (take 12 l)) (omega arith) (omega arith))
    (end_front l (before_zero false (take 12 l)) m (before_end (take 12 l) h)) refl

pub ended_count : (l : List ℕ) (n : ℕ) → n < 12 → n < length l → NoEnd l n → EndAt l n → before_zero false (take 12 l) ≡ n
ended_count l n a b f e =
    end_before (take 12 l) n (omega (arith, length-take 12 l)) (λ i h g. f i h (end_front l i (omega arith) g)) (front_end l n a e)

-- no end among all of the 12, or among fewer
pub no_end_count : (l : List ℕ) → NoEnd l (length (take 12 l)) → before_zero false (take 12 l) ≡ length (take 12 l)
no_end_count l f = no_end_before (take 12 l) (λ i h g. f i h (end_front l i (omega (arith, length-take 12 l)) g))
