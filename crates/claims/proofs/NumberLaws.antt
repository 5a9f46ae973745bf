-- Numbers of refusals: which are of reading; and a number tells its row, since no two rows have one number.
use mathlib.Core.Path.{◌≡◌, refl, sym, ap, ◌∙◌}
use mathlib.Core.List.{List}
use mathlib.Core.Option.{Option, none, some}
use Prim.Native.Nat.{ℕ}
use lib.Dec.{eqb}
use Rattle.klv.specs.Pick.{pick}
use Rattle.klv.proofs.Cases.{absurd_number}
use Rattle.groups.specs.declared.refusal.Refusal.{Refusal}
use Rattle.groups.specs.declared.refusal.Refusal.TheVariants.{TagTable, PackTable, Target, Oversize, GroupKey, Family, OuterLength, LabelCutOff, LabelMalformed, LabelUnlisted, Span, Count, Surplus, NoLabel, NoSpan, LongOutput, ShortSlice}
use Rattle.groups.specs.Refusal.{Answer, ok, refused, number_of, of_reading, said, numbered}
use Rattle.claims.specs.Applies.{one_of, reading_numbers}

-- ---- numbers of reading

pub reading_number : (r : Refusal) → one_of reading_numbers (number_of r) ≡ of_reading r
unfolding number_of
reading_number TagTable = refl
reading_number PackTable = refl
reading_number Target = refl
reading_number Oversize = refl
reading_number GroupKey = refl
reading_number Family = refl
reading_number OuterLength = refl
reading_number LabelCutOff = refl
reading_number LabelMalformed = refl
reading_number LabelUnlisted = refl
reading_number Span = refl
reading_number Count = refl
reading_number Surplus = refl
reading_number NoLabel = refl
reading_number NoSpan = refl
reading_number LongOutput = refl
reading_number ShortSlice = refl

-- ---- the row of a number

abbrev row_of : ℕ → Option Refusal
row_of n =
    pick (eqb n 1) (some TagTable)
    (pick (eqb n 2) (some PackTable)
    (pick (eqb n 3) (some Target)
    (pick (eqb n 4) (some Oversize)
    (pick (eqb n 5) (some GroupKey)
    (pick (eqb n 6) (some Family)
    (pick (eqb n 7) (some OuterLength)
    (pick (eqb n 8) (some LabelCutOff)
    (pick (eqb n 9) (some Span)
    (pick (eqb n 10) (some Count)
    (pick (eqb n 11) (some Surplus)
    (pick (eqb n 12) (some NoLabel)
    (pick (eqb n 13) (some NoSpan)
    (pick (eqb n 14) (some LongOutput)
    (pick (eqb n 15) (some ShortSlice)
    (pick (eqb n 19) (some LabelMalformed)
    (pick (eqb n 20) (some LabelUnlisted) none))))))))))))))))

number_row : (r : Refusal) → row_of (number_of r) ≡ some r
unfolding number_of
number_row TagTable = refl
number_row PackTable = refl
number_row Target = refl
number_row Oversize = refl
number_row GroupKey = refl
number_row Family = refl
number_row OuterLength = refl
number_row LabelCutOff = refl
number_row LabelMalformed = refl
number_row LabelUnlisted = refl
number_row Span = refl
number_row Count = refl
number_row Surplus = refl
number_row NoLabel = refl
number_row NoSpan = refl
number_row LongOutput = refl
number_row ShortSlice = refl

number_tells : (r q : Refusal) → number_of r ≡ number_of q → r ≡ q
number_tells r q e =
    let f : some r ≡ some q = sym (number_row r) ∙ (ap row_of e ∙ number_row q) in
    cc

-- an answer that says a row's number is refused by that row
pub said_tells : {A : Type 0} (a : Answer (List A)) (r : Refusal) (p : ℕ) → said a ≡ numbered (number_of r) p → a ≡ refused r p
said_tells (ok l) r p e = absurd_number (cc)
said_tells (refused q n) r p e =
    let f : number_of q ≡ number_of r = cc in
    let z : n ≡ p = cc in
    rw (number_tells q r f, z)
