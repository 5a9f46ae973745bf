-- The numbers of 01's table of refusals, with 19 and 20 of 02's point 2, and answers that are a value or a refusal with its
-- place.
use Rattle.std.specs.Prelude.{ℕ, Bool, true, false, List, length}
use Rattle.groups.specs.declared.refusal.Refusal.{Refusal}
use Rattle.groups.specs.declared.refusal.Refusal.TheVariants.{TagTable, PackTable, Target, Oversize, GroupKey, Family, OuterLength, LabelCutOff, LabelMalformed, LabelUnlisted, Span, Count, Surplus, NoLabel, NoSpan, LongOutput, ShortSlice}

-- a label that is cut off is 8, a malformed one 19, and a tag that the table has not 20
unfoldable pub number_of : Refusal → ℕ
number_of TagTable = 1
number_of PackTable = 2
number_of Target = 3
number_of Oversize = 4
number_of GroupKey = 5
number_of Family = 6
number_of OuterLength = 7
number_of LabelCutOff = 8
number_of LabelMalformed = 19
number_of LabelUnlisted = 20
number_of Span = 9
number_of Count = 10
number_of Surplus = 11
number_of NoLabel = 12
number_of NoSpan = 13
number_of LongOutput = 14
number_of ShortSlice = 15

-- whether a refusal is one of reading: 1, 2, 4, 5, 7 to 11, 19 and 20
abbrev pub of_reading : Refusal → Bool
of_reading TagTable = true
of_reading PackTable = true
of_reading Target = false
of_reading Oversize = true
of_reading GroupKey = true
of_reading Family = false
of_reading OuterLength = true
of_reading LabelCutOff = true
of_reading LabelMalformed = true
of_reading LabelUnlisted = true
of_reading Span = true
of_reading Count = true
of_reading Surplus = true
of_reading NoLabel = false
of_reading NoSpan = false
of_reading LongOutput = false
of_reading ShortSlice = false

pub data Answer (A : Type 0) : Type 0 where
  ok : A → Answer A
  refused : Refusal → ℕ → Answer A

-- go on where the answer is a value
abbrev pub and_then : {A B : Type 0} → Answer A → (A → Answer B) → Answer B
and_then (ok a) f = f a
and_then (refused r p) f = refused r p

-- go on where the test holds, else refuse at place 0
abbrev pub check : {A : Type 0} → Bool → Refusal → Answer A → Answer A
check true r a = a
check false r a = refused r 0

-- ---- in 01's words

-- what an answer says: the output's length, from the listing the count; or a refusal's number and place
pub data Said : Type 0 where
  accepted : ℕ → Said
  numbered : ℕ → ℕ → Said

abbrev pub said : {A : Type 0} → Answer (List A) → Said
said (ok l) = accepted (length l)
said (refused r p) = numbered (number_of r) p
