-- The edges of 02's point 5: elements that measure themselves.
use Rattle.std.specs.Prelude.{Option, Some, None, ℕ, Bool, true, false, List, [], ◌∷◌, ◌++◌, drop}
use Rattle.klv.specs.Edge.{Edge}
use Rattle.groups.specs.declared.span.Span.{Span}
use Rattle.groups.specs.Span.{element_span, element_ok}
use Rattle.groups.specs.Regroup.{regroup_of}
use Rattle.perlenhuf.specs.Host.{hosted}
use Rattle.claims.specs.Told.{answer_told}
use Rattle.claims.specs.Worked.{item_key, universal_key}

-- a span, as a list: both numbers, or nothing
abbrev pub span_told : Option Span → List ℕ
span_told (Some span) = span.width ∷ span.length ∷ []
span_told None = []

abbrev pub ok_told : Bool → List ℕ
ok_told true = 1 ∷ []
ok_told false = 0 ∷ []

-- a key, this length and the bytes AB CD
abbrev pub triplet : List ℕ → List ℕ
triplet n = item_key ++ (n ++ (0xAB ∷ 0xCD ∷ []))

-- under a record with this length, bytes begin with an element of m bytes, or with none
abbrev pub begins : ℕ → List ℕ → ℕ → Edge
begins n l m = record { given = span_told (element_span n l); expected = 0 ∷ m ∷ [] }

abbrev pub no_element : ℕ → List ℕ → Edge
no_element n l = record { given = span_told (element_span n l); expected = [] }

-- a value is an element, or is none
abbrev pub passes : ℕ → List ℕ → Edge
passes n v = record { given = ok_told (element_ok n v); expected = 1 ∷ [] }

abbrev pub fails : ℕ → List ℕ → Edge
fails n v = record { given = ok_told (element_ok n v); expected = 0 ∷ [] }

-- the table of a pack of two elements: one byte, and one that measures itself
abbrev pub two_records : List ℕ
two_records = (0x00 ∷ 0x00 ∷ 0x00 ∷ 0x01 ∷ item_key) ++ (0xFF ∷ 0xFF ∷ 0xFF ∷ 0xFF ∷ item_key)

abbrev pub pack_key : List ℕ
pack_key = 0x06 ∷ 0x0E ∷ 0x2B ∷ 0x34 ∷ 0x02 ∷ 0x05 ∷ 0x01 ∷ 0x01 ∷ 0x0F ∷ 0x01 ∷ 0x00 ∷ 0x00 ∷ 0x00 ∷ 0x00 ∷ 0x00 ∷ 0x00 ∷ []

-- such a pack, and a universal set of the same items: the outer length, in the set the second value's length, the second value
abbrev pub packed : ℕ → List ℕ → List ℕ
packed size second = pack_key ++ (size ∷ 0x77 ∷ second)

abbrev pub keyed : ℕ → ℕ → List ℕ → List ℕ
keyed size n second = universal_key ++ (size ∷ item_key ++ (0x01 ∷ 0x77 ∷ item_key ++ (n ∷ second)))

-- a call writes these bytes; or the host receives this number
abbrev pub regroups : List ℕ → List ℕ → List ℕ → Edge
regroups target group output = record { given = answer_told (regroup_of [] two_records target group 100); expected = output }

abbrev pub hosts : List ℕ → List ℕ → ℕ → Edge
hosts target group number = record { given = hosted (regroup_of [] two_records target group 100) ∷ []; expected = number ∷ [] }

unfoldable pub element_edges : List Edge
element_edges =
    begins 0xFFFF_FFFF (triplet (0x02 ∷ []) ++ (0xFF ∷ [])) 19
    ∷ begins 0xFFFF_FFFF (triplet (0x83 ∷ 0x00 ∷ 0x00 ∷ 0x02 ∷ [])) 22
    ∷ begins 0xFFFF_FFFF (triplet (0x00 ∷ [])) 17
    ∷ no_element 0xFFFF_FFFF (triplet (0x03 ∷ []))
    ∷ no_element 0xFFFF_FFFF (triplet (0x80 ∷ []))
    ∷ no_element 0xFFFF_FFFF (triplet (0x89 ∷ []))
    ∷ no_element 0xFFFF_FFFF item_key
    ∷ no_element 0xFFFF_FFFF (0x07 ∷ drop 1 (triplet (0x02 ∷ [])))
    ∷ no_element 0xFFFF_FFFE (triplet (0x02 ∷ []))
    ∷ passes 0xFFFF_FFFF (triplet (0x02 ∷ []))
    ∷ fails 0xFFFF_FFFF (triplet (0x01 ∷ []))
    ∷ fails 0xFFFF_FFFF (triplet (0x03 ∷ []))
    ∷ fails 0xFFFF_FFFE (triplet (0x02 ∷ []))
    ∷ passes 19 (triplet (0x02 ∷ []))
    ∷ regroups universal_key (packed 20 (triplet (0x02 ∷ []))) (keyed 54 19 (triplet (0x02 ∷ [])))
    ∷ regroups pack_key (keyed 54 19 (triplet (0x02 ∷ []))) (packed 20 (triplet (0x02 ∷ [])))
    ∷ hosts universal_key (packed 20 (triplet (0x03 ∷ []))) 1009001
    ∷ hosts pack_key (keyed 54 19 (triplet (0x01 ∷ []))) 1013001
    ∷ []
