-- An item's span: its length and value. A defined-length pack's element has no length: the record gives it, or the element
-- measures itself (02, point 5).
use Rattle.std.specs.Prelude.{ℕ, ◌+◌, ◌-◌, Bool, true, false, List, ◌++◌, leb, eqb, length, take, drop, Some, None, Ok, Err}
use Rattle.std.specs.Prelude as std
use Rattle.std.proofs.Math.Option.{Option, none, some}
use Rattle.klv.specs.Pick.{pick}
use Rattle.klv.specs.Key.{is_key}
use Rattle.klv.specs.Layout.{read_as, written, largest_of, is_ber}
use Rattle.klv.specs.declared.layout.Form.{Form}
use Rattle.klv.specs.declared.layout.Form.TheVariants.{Ber}
use Rattle.klv.specs.Number.{Read, Value}
use Rattle.groups.specs.declared.kind.Kind.{Kind}
use Rattle.groups.specs.declared.kind.Kind.TheVariants.{Universal, Global, Local, Variable, Defined, NoGroup}
use Rattle.groups.specs.declared.span.Span.{Span}
use Rattle.groups.specs.Tables.{Table}

-- a length that occupies w bytes, and a value of n
abbrev pub spanned : ℕ → ℕ → std.Option Span
spanned w n = Some (record { width = w; length = n })

-- the value must not be longer than what is left of `left` bytes
abbrev pub within : ℕ → Read → std.Option Span
within left (Ok n) = pick (leb n.value (left - n.width)) (spanned n.width n.value) None
within left (Err e) = None

-- ---- an element of a defined-length pack

-- the span of a whole triplet: nothing stands before the value, which is all of its bytes
abbrev pub wholly : std.Option Span → std.Option Span
wholly (Some y) = spanned 0 (16 + y.width + y.length)
wholly None = None

-- the triplet at the front of a list: a key, a BER length and that many bytes
unfoldable pub triplet_span : List ℕ → std.Option Span
triplet_span l = pick (is_key (take 16 l)) (wholly (within (length (drop 16 l)) (read_as Ber (drop 16 l)))) None

-- the element at the front of a list, by its record's length: FF FF FF FF marks one that measures itself
unfoldable pub element_span : ℕ → List ℕ → std.Option Span
element_span n l = pick (eqb n 0xFFFF_FFFF) (triplet_span l) (within (length l) (Value n 0))

-- a span with a value of just so many bytes
abbrev pub takes : ℕ → std.Option Span → Bool
takes n (Some y) = eqb n y.length
takes n None = false

-- a value is an element: the one at its front takes all of it
unfoldable pub element_ok : ℕ → List ℕ → Bool
element_ok n v = takes (length v) (element_span n v)

-- ---- reading

-- the span at the front of a list
unfoldable pub read_span : Kind → Table → ℕ → List ℕ → std.Option Span
read_span Universal packs place l = within (length l) (read_as Ber l)
read_span (Global y) packs place l = within (length l) (read_as y.form l)
read_span (Local t y) packs place l = within (length l) (read_as y.form l)
read_span (Variable y) packs place l = within (length l) (read_as y.form l)
read_span Defined packs place l = element_span (packs.row place).number l
read_span NoGroup packs place l = None

-- the kinds whose items have BER lengths
unfoldable pub ber_lengths : Kind → Bool
ber_lengths Universal = true
ber_lengths (Global y) = is_ber y.form
ber_lengths (Local t y) = is_ber y.form
ber_lengths (Variable y) = is_ber y.form
ber_lengths Defined = false
ber_lengths NoGroup = false

-- ---- writing

-- a value with its length before it, if the layout holds the length
abbrev pub measured : Form → List ℕ → Option (List ℕ)
measured f v = pick (leb (length v) (largest_of f)) (some (written f (length v) ++ v)) none

-- the bytes of a value's span, if it has one
unfoldable pub write_span : Kind → Table → ℕ → List ℕ → Option (List ℕ)
write_span Universal packs place v = measured Ber v
write_span (Global y) packs place v = measured y.form v
write_span (Local t y) packs place v = measured y.form v
write_span (Variable y) packs place v = measured y.form v
write_span Defined packs place v = pick (element_ok (packs.row place).number v) (some v) none
write_span NoGroup packs place v = none
