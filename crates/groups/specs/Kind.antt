-- Kinds (01, "Kinds"): what a group's key decides, and families. Key bytes count from 1, as in 01.
use Rattle.std.specs.Prelude.{ℕ, ◌+◌, ◌-◌, Bool, true, false, List, leb, eqb, get_or, set}
use Rattle.klv.specs.Pick.{pick, both}
use Rattle.klv.specs.Bytes.{same}
use Rattle.klv.specs.Key.{is_key, label_length}
use Rattle.klv.specs.declared.layout.Form.{Form}
use Rattle.klv.specs.declared.layout.Form.TheVariants.{Ber, Word, One, Two, Four}
use Rattle.klv.specs.declared.layout.Layout.{Layout}
use Rattle.groups.specs.declared.kind.Kind.{Kind}
use Rattle.groups.specs.declared.kind.Kind.TheVariants.{Universal, Global, Local, Variable, Defined, NoGroup}

-- the length layout: BER, 1, 2, 4 bytes by the rows 00..1F, 20..3F, 40..5F, 60..
abbrev pub length_form : ℕ → Form
length_form b = pick (leb b 0x1F) Ber (pick (leb b 0x3F) One (pick (leb b 0x5F) Two Four))

abbrev pub layout : Form → Layout
layout f = record { form = f }

-- b stands in the column of `first`, one value to a row
abbrev pub column : ℕ → ℕ → Bool
column first b = pick (eqb b first) true (pick (eqb b (first + 0x20)) true (pick (eqb b (first + 0x40)) true (eqb b (first + 0x60))))

-- what byte 6 decides
unfoldable pub kind_of_byte : ℕ → Kind
kind_of_byte b =
    pick (eqb b 0x01) Universal
    (pick (column 0x02 b) (Global (layout (length_form b)))
    (pick (column 0x03 b) (Local (layout One) (layout (length_form b)))
    (pick (column 0x0B b) (Local (layout Word) (layout (length_form b)))
    (pick (column 0x13 b) (Local (layout Two) (layout (length_form b)))
    (pick (column 0x1B b) (Local (layout Four) (layout (length_form b)))
    (pick (column 0x04 b) (Variable (layout (length_form b)))
    (pick (eqb b 0x05) Defined NoGroup)))))))

-- c: byte 7 is 1 plus c, the count of leading bytes of the set's key in its root
abbrev pub leading : List ℕ → ℕ
leading k = get_or k 6 0 - 1

-- g: the length of the designator, bytes 9 to 16 before the first word 00
abbrev pub designator_length : List ℕ → ℕ
designator_length k = label_length k - 8

-- c is 0 to 8, g is 2 to 8, c + g is 4 to 15 (that g is 8 at most is so for every key)
unfoldable pub global_ok : List ℕ → Bool
global_ok k = both (leb (get_or k 6 0) 9) (both (leb 2 (designator_length k)) (both (leb 4 (leading k + designator_length k)) (leb (leading k + designator_length k) 15)))

-- a global set's key keeps within these bounds
abbrev pub bounded : List ℕ → Kind → Kind
bounded k Universal = Universal
bounded k (Global y) = pick (global_ok k) (Global y) NoGroup
bounded k (Local t y) = Local t y
bounded k (Variable y) = Variable y
bounded k Defined = Defined
bounded k NoGroup = NoGroup

-- the kind of a group with this key: byte 5 is 02
unfoldable pub kind_of : List ℕ → Kind
kind_of k = pick (is_key k) (pick (eqb (get_or k 4 0) 0x02) (bounded k (kind_of_byte (get_or k 5 0))) NoGroup) NoGroup

abbrev pub is_group : Kind → Bool
is_group Universal = true
is_group (Global y) = true
is_group (Local t y) = true
is_group (Variable y) = true
is_group Defined = true
is_group NoGroup = false

abbrev pub is_global : Kind → Bool
is_global Universal = false
is_global (Global y) = true
is_global (Local t y) = false
is_global (Variable y) = false
is_global Defined = false
is_global NoGroup = false

-- the elements of a defined-length pack have the lengths of the records
abbrev pub is_bound : Kind → Bool
is_bound Universal = false
is_bound (Global y) = false
is_bound (Local t y) = false
is_bound (Variable y) = false
is_bound Defined = true
is_bound NoGroup = false

abbrev pub is_pack : Kind → Bool
is_pack Universal = false
is_pack (Global y) = false
is_pack (Local t y) = false
is_pack (Variable y) = true
is_pack Defined = true
is_pack NoGroup = false

-- two group keys of one family: they differ at most in byte 6, or either is global
unfoldable pub family_of : Kind → Kind → List ℕ → List ℕ → Bool
family_of a-kind b-kind a b = pick (is_global a-kind) true (pick (is_global b-kind) true (same (set a 5 (get_or b 5 0)) b))

abbrev pub family : List ℕ → List ℕ → Bool
family a b = family_of (kind_of a) (kind_of b) a b
