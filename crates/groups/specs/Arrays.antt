-- What the regrouping call measures and writes from items that are held in arrays.
use Rattle.std.specs.Prelude.{ℕ, zero, suc, ◌+◌, ◌<◌, ◌≡◌, Bool, true, false, List, [], ◌++◌, leb, ltb, eqb, length, replicate, Some, None, Result, Ok, Err}
use Rattle.std.specs.Prelude as prelude
use Rattle.std.proofs.Math.Option.{Option, none, some}
use Rattle.klv.specs.Pick.{pick, both}
use Rattle.klv.specs.Bytes.{pasted}
use Rattle.klv.specs.Layout.{written, largest_of}
use Rattle.klv.specs.declared.layout.Form.{Form}
use Rattle.klv.specs.declared.layout.Form.TheVariants.{Ber}
use Rattle.klv.specs.declared.layout.Layout.{Layout}
use Rattle.groups.specs.declared.kind.Kind.{Kind}
use Rattle.groups.specs.declared.kind.Kind.TheVariants.{Universal, Global, Local, Variable, Defined, NoGroup}
use Rattle.groups.specs.declared.refusal.Refusal.{Refusal}
use Rattle.groups.specs.declared.refusal.Refused.{Refused}
use Rattle.groups.specs.declared.refusal.Refusal.TheVariants.{NoLabel, NoSpan, LongOutput, ShortSlice}
use Rattle.groups.specs.declared.root.Group.{Group}
use Rattle.groups.specs.Refusal.{Answer, ok, refused, and_then}
use Rattle.groups.specs.Tables.{Table, table_of, key_index}
use Rattle.groups.specs.Kind.{is_pack}
use Rattle.groups.specs.Root.{root_bytes, global_tag}
use Rattle.groups.specs.Label.{local_tag, element_label, write_label}
use Rattle.groups.specs.Span.{element_ok}
use Rattle.groups.specs.Read.{Item, Under, under_of}
use Rattle.groups.specs.Slots.{held_key, held_size, held_tag, held_value, SameSpans}
use Rattle.groups.specs.Write.{write_items, group as grouped}
use Rattle.groups.specs.Regroup.{sized}

-- ---- parts of an item

-- the width of a part, if there is one; and its bytes
abbrev pub wide : Option (List ℕ) → prelude.Option ℕ
wide (some l) = Some (length l)
wide none = None

abbrev pub part_of : Option (List ℕ) → List ℕ
part_of (some l) = l
part_of none = []

-- the length of a value of n bytes, if the layout holds it
abbrev pub fitting : Form → ℕ → Option (List ℕ)
fitting f n = pick (leb n (largest_of f)) (some (written f n)) none

-- what stands before a value, if it has a span; in a defined-length pack nothing does
unfoldable pub length_field : Kind → Table → ℕ → List ℕ → Option (List ℕ)
length_field Universal packs place v = fitting Ber (length v)
length_field (Global y) packs place v = fitting y.form (length v)
length_field (Local t y) packs place v = fitting y.form (length v)
length_field (Variable y) packs place v = fitting y.form (length v)
length_field Defined packs place v = pick (element_ok (packs.row place).number v) (some []) none
length_field NoGroup packs place v = none

-- whether a kind is a global set or a pack
abbrev pub is_other : Kind → Bool
is_other Universal = false
is_other (Global y) = true
is_other (Local x y) = false
is_other (Variable y) = true
is_other Defined = true
is_other NoGroup = false

-- the label of an item of such a kind
abbrev pub other_label : Kind → List ℕ → Table → ℕ → List ℕ → Option (List ℕ)
other_label (Global y) root packs place k = global_tag root k
other_label Universal root packs place k = element_label packs place k
other_label (Local x y) root packs place k = element_label packs place k
other_label (Variable y) root packs place k = element_label packs place k
other_label Defined root packs place k = element_label packs place k
other_label NoGroup root packs place k = element_label packs place k

-- the bytes that stand for a key, for which a local set's table has the tag
unfoldable pub label_bytes : Kind → List ℕ → List ℕ → ℕ → List ℕ
label_bytes Universal root k tag = k
label_bytes (Global y) root k tag = part_of (global_tag root k)
label_bytes (Local x y) root k tag = part_of (fitting x.form tag)
label_bytes (Variable y) root k tag = []
label_bytes Defined root k tag = []
label_bytes NoGroup root k tag = []

-- the bytes that stand before a value of n bytes
unfoldable pub length_bytes : Kind → ℕ → List ℕ
length_bytes Universal n = part_of (fitting Ber n)
length_bytes (Global y) n = part_of (fitting y.form n)
length_bytes (Local x y) n = part_of (fitting y.form n)
length_bytes (Variable y) n = part_of (fitting y.form n)
length_bytes Defined n = []
length_bytes NoGroup n = []

-- ---- labels of a local set

-- the tag of a record, or 12 for the item at this place where there is none
abbrev pub row_tag : Table → ℕ → prelude.Option ℕ → Result ℕ (Refused Refusal)
row_tag t place (Some i) = Ok (t.row i).number
row_tag t place None = Err (record { why = NoLabel; place = place })

-- for key k, a local set with tags of form f has what it has for this number
abbrev pub Tagged : Table → Form → List ℕ → ℕ → Type 0
Tagged t f k tag = local_tag t f (key_index t k) ≡ fitting f tag

-- ---- bytes over bytes

-- l is written over d at a position: x is left, and the next position is `next`
pub record Put (d : List ℕ) (at : ℕ) (l x : List ℕ) (next : ℕ) : Type 0 where
  pub end : next ≡ at + length l
  pub bytes : x ≡ pasted d at l

-- ---- how many bytes items take

abbrev pub or_none : prelude.Option ℕ → Refusal → ℕ → Answer ℕ
or_none (Some w) r place = ok w
or_none None r place = refused r place

-- an item with this label, this length and a value of n bytes: 12, then 13
unfoldable pub parts_size : Option (List ℕ) → Option (List ℕ) → ℕ → ℕ → Answer ℕ
parts_size label lengths n place =
    and_then (or_none (wide label) NoLabel place) (λ (a : ℕ). and_then (or_none (wide lengths) NoSpan place) (λ (b : ℕ). ok (a + b + n)))

abbrev pub plus : ℕ → Answer ℕ → Answer ℕ
plus a (ok b) = ok (a + b)
plus a (refused r p) = refused r p

-- n items, the first at `place`, each by f; `after` is the answer after the last
unfoldable pub total_size : (ℕ → Answer ℕ) → (ℕ → Answer ℕ) → ℕ → ℕ → Answer ℕ
total_size f after place zero = after place
total_size f after place (suc n) = and_then (f place) (λ (a : ℕ). plus a (total_size f after (suc place) n))

-- nothing more after the last
abbrev pub none_after : ℕ → Answer ℕ
none_after place = ok 0

-- a pack with records over gives 12 at the item count
abbrev pub records_after : Kind → Table → ℕ → Answer ℕ
records_after kd packs place = pick (both (is_pack kd) (ltb place packs.count)) (refused NoLabel place) (ok 0)

-- item i of the arrays, its value in the group s: in a universal set, in a local one, in a global set or a pack, and in any
-- group
abbrev pub keyed_size : List ℕ → ℕ → Answer ℕ
keyed_size slots i = ok (16 + length (written Ber (held_size slots i)) + held_size slots i)

abbrev pub tagged_size : Table → Form → Form → List ℕ → List ℕ → ℕ → Answer ℕ
tagged_size t f g keys slots i = parts_size (local_tag t f (key_index t (held_key keys i))) (fitting g (held_size slots i)) (held_size slots i) i

abbrev pub other_size : Group → Table → List ℕ → List ℕ → List ℕ → ℕ → Answer ℕ
other_size g packs keys slots s i =
    parts_size (other_label g.kind (root_bytes g.root) packs i (held_key keys i)) (length_field g.kind packs i (held_value slots s i)) (held_size slots i) i

abbrev pub item_size : Under → List ℕ → List ℕ → List ℕ → ℕ → Answer ℕ
item_size u keys slots s i =
    parts_size (write_label u.kind u.root u.tags u.packs i (held_key keys i)) (length_field u.kind u.packs i (held_value slots s i)) (held_size slots i) i

-- the first n items
abbrev pub measure_items : Under → ℕ → List ℕ → List ℕ → List ℕ → Answer ℕ
measure_items u n keys slots s = total_size (item_size u keys slots s) (records_after u.kind u.packs) 0 n

abbrev pub measured_of : Answer ℕ → Result ℕ (Refused Refusal)
measured_of (ok n) = Ok n
measured_of (refused r p) = Err (record { why = r; place = p })

-- r is what the first n items take in a local set; where it is a size, the slots, d before and x after, hold their tags
pub record Tagging (t : Table) (f g : Form) (keys d x : List ℕ) (n : ℕ) (r : Result ℕ (Refused Refusal)) : Type 0 where
  pub answer : r ≡ measured_of (total_size (tagged_size t f g keys d) none_after 0 n)
  pub same : SameSpans d x
  pub noted : (size : ℕ) → r ≡ Ok size → (i : ℕ) → i < n → Tagged t f (held_key keys i) (held_tag x i)

-- the same in any group
pub record Measures (g : Group) (tags packs keys d x s : List ℕ) (n : ℕ) (r : Result ℕ (Refused Refusal)) : Type 0 where
  pub answer : r ≡ measured_of (measure_items (under_of g tags packs) n keys d s)
  pub same : SameSpans d x
  pub noted : (size : ℕ) → r ≡ Ok size → (y z : Layout) → g.kind ≡ Local y z → (i : ℕ) → i < n → Tagged (table_of tags) y.form (held_key keys i) (held_tag x i)

-- ---- their bytes, where every part is there

-- n items, the first at `place`, each by f
unfoldable pub joined_items : (ℕ → List ℕ) → ℕ → ℕ → List ℕ
joined_items f place zero = []
joined_items f place (suc n) = f place ++ joined_items f (suc place) n

-- item i of the arrays: in a universal set, in a local one whose tags the slots hold, and in any group
unfoldable pub keyed_item : List ℕ → List ℕ → List ℕ → ℕ → List ℕ
keyed_item keys slots s i = held_key keys i ++ (part_of (fitting Ber (held_size slots i)) ++ held_value slots s i)

unfoldable pub tagged_item : Form → Form → List ℕ → List ℕ → ℕ → List ℕ
tagged_item f g slots s i = part_of (fitting f (held_tag slots i)) ++ (part_of (fitting g (held_size slots i)) ++ held_value slots s i)

unfoldable pub item_bytes : Group → List ℕ → List ℕ → List ℕ → ℕ → List ℕ
item_bytes g keys slots s i =
    label_bytes g.kind (root_bytes g.root) (held_key keys i) (held_tag slots i) ++ (length_bytes g.kind (held_size slots i) ++ held_value slots s i)

-- ---- a group of them

-- the length of an output of so many bytes, or why there is none
abbrev pub length_within : ℕ → ℕ → Result ℕ (Refused Refusal)
length_within total room =
    pick (leb total 65536) (pick (leb total room) (Ok total) (Err (record { why = ShortSlice; place = 0 }))) (Err (record { why = LongOutput; place = 0 }))

-- items written as the group with this key, under what the key decides
abbrev pub write_held : Under → List ℕ → List Item → ℕ → Answer (List ℕ)
write_held u target xs room = and_then (and_then (write_items u 0 xs) (λ (body : List ℕ). ok (grouped target body))) (sized room)

-- the sixteen bytes of a slice that has no more, else bytes 00
abbrev pub whole_key : List ℕ → List ℕ
whole_key s = pick (eqb (length s) 16) s (replicate 16 0x00)
