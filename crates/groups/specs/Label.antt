-- An item's label: its key (universal), its tag (global, local), or nothing (the elements of packs).
use Rattle.std.specs.Prelude.{ℕ, List, [], leb, ltb, Some, None, Result, Ok, Err}
use Rattle.std.proofs.Math.Option.{Option, none, some}
use Rattle.klv.specs.Pick.{pick, both}
use Rattle.klv.specs.Bytes.{same}
use Rattle.klv.specs.Key.{is_key, key_at}
use Rattle.klv.specs.Layout.{read_as, written, largest_of}
use Rattle.klv.specs.declared.layout.Form.{Form}
use Rattle.klv.specs.Number.{Read}
use Rattle.klv.specs.declared.layout.NumberError.TheVariants.{Missing, Malformed}
use Rattle.groups.specs.declared.kind.Kind.{Kind}
use Rattle.groups.specs.declared.kind.Kind.TheVariants.{Universal, Global, Local, Variable, Defined, NoGroup}
use Rattle.groups.specs.declared.label.Label.{Label}
use Rattle.groups.specs.declared.label.LabelError.{LabelError}
use Rattle.groups.specs.declared.label.LabelError.TheVariants.{CutOff, Unlisted}
use Rattle.groups.specs.declared.label.LabelError.TheVariants as label_error
use Rattle.groups.specs.declared.refusal.Refusal.{Refusal}
use Rattle.groups.specs.declared.refusal.Refusal.TheVariants.{LabelCutOff, LabelMalformed, LabelUnlisted}
use Rattle.groups.specs.Root.{label_of, global_label, global_tag}
use Rattle.std.specs.Prelude as std
use Rattle.groups.specs.Tables.{Table, tag_index, key_index, find_tag}

-- ---- reading

-- a universal set's item begins with its key
abbrev pub key_label : std.Option (List ℕ) → Result Label LabelError
key_label (Some k) = pick (is_key k) (label_of 16 k) (Err label_error.Malformed)
key_label None = Err CutOff

-- a local set's tag is looked up
abbrev pub listed : Table → ℕ → std.Option ℕ → Result Label LabelError
listed tags w (Some i) = label_of w (tags.row i).key
listed tags w None = Err Unlisted

abbrev pub looked_up : Table → (ℕ → std.Option ℕ) → Read → Result Label LabelError
looked_up tags find (Ok n) = listed tags n.width (find n.value)
looked_up tags find (Err Missing) = Err CutOff
looked_up tags find (Err Malformed) = Err label_error.Malformed

abbrev pub tag_label : Table → Read → Result Label LabelError
tag_label tags n = looked_up tags (tag_index tags) n

-- the same by halves, after a guess, for any table
abbrev pub found_label : Table → ℕ → Read → Result Label LabelError
found_label tags guess n = looked_up tags (find_tag tags guess) n

-- the label of a universal or local set's item, looked up so; no other kind has one
unfoldable pub set_label : Kind → Table → ℕ → List ℕ → Result Label LabelError
set_label Universal tags guess l = key_label (key_at l)
set_label (Global y) tags guess l = Err label_error.Malformed
set_label (Local t y) tags guess l = found_label tags guess (read_as t.form l)
set_label (Variable y) tags guess l = Err label_error.Malformed
set_label Defined tags guess l = Err label_error.Malformed
set_label NoGroup tags guess l = Err label_error.Malformed

-- the label at the front of a list; the n-th element of a pack has the n-th record's key
unfoldable pub read_label : Kind → List ℕ → Table → Table → ℕ → List ℕ → Result Label LabelError
read_label Universal root tags packs place l = key_label (key_at l)
read_label (Global y) root tags packs place l = global_label root l
read_label (Local t y) root tags packs place l = tag_label tags (read_as t.form l)
read_label (Variable y) root tags packs place l = label_of 0 (packs.row place).key
read_label Defined root tags packs place l = label_of 0 (packs.row place).key
read_label NoGroup root tags packs place l = Err label_error.Malformed

-- the refusal of a label that fails
abbrev pub label_refusal : LabelError → Refusal
label_refusal CutOff = LabelCutOff
label_refusal label_error.Malformed = LabelMalformed
label_refusal Unlisted = LabelUnlisted

-- ---- writing

-- a tag that the layout holds
abbrev pub local_tag : Table → Form → std.Option ℕ → Option (List ℕ)
local_tag tags f (Some i) = pick (leb (tags.row i).number (largest_of f)) (some (written f (tags.row i).number)) none
local_tag tags f None = none

-- an element has the record's key
abbrev pub element_label : Table → ℕ → List ℕ → Option (List ℕ)
element_label packs place k = pick (both (ltb place packs.count) (same (packs.row place).key k)) (some []) none

-- the bytes that stand for a key, if any do
unfoldable pub write_label : Kind → List ℕ → Table → Table → ℕ → List ℕ → Option (List ℕ)
write_label Universal root tags packs place k = some k
write_label (Global y) root tags packs place k = global_tag root k
write_label (Local t y) root tags packs place k = local_tag tags t.form (key_index tags k)
write_label (Variable y) root tags packs place k = element_label packs place k
write_label Defined root tags packs place k = element_label packs place k
write_label NoGroup root tags packs place k = none
