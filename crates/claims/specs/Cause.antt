-- Why an item has no label or no span, on reading and on writing: the words of rows 8, 9, 12 and 13 of 01's table, of rows
-- 19 and 20 of 02's point 2, and of elements that measure themselves (02, point 5), each word a case.
use Rattle.std.specs.Prelude.{ℕ, suc, ◌+◌, ◌-◌, ◌<◌, ◌≤◌, ◌≡◌, true, false, List, ◌++◌, length, get_or, take, drop, replicate}
use Rattle.std.proofs.Math.Option.{Option, none, some}
use Rattle.klv.specs.Key.{is_key, label_length}
use Rattle.klv.specs.Layout.{read_as, largest_of}
use Rattle.klv.specs.declared.layout.Form.{Form}
use Rattle.klv.specs.declared.layout.Form.TheVariants.{Ber}
use Rattle.klv.specs.declared.layout.Layout.{Layout}
use Rattle.klv.specs.Number.{Value}
use Rattle.klv.specs.declared.layout.NumberError.TheVariants.{Missing, Malformed}
use Rattle.std.specs.Prelude.{Err}
use Rattle.groups.specs.declared.kind.Kind.{Kind}
use Rattle.groups.specs.declared.kind.Kind.TheVariants.{Universal, Global, Local, Variable, Defined, NoGroup}
use Rattle.groups.specs.Kind.{is_pack}
use Rattle.groups.specs.SpanText.{Triplet}
use Rattle.groups.specs.Read.{Under}

-- the layout of an item's length; an element of a defined-length pack has none
abbrev pub length_layout : Kind → Option Form
length_layout Universal = some Ber
length_layout (Global y) = some y.form
length_layout (Local t y) = some y.form
length_layout (Variable y) = some y.form
length_layout Defined = none
length_layout NoGroup = none

-- ---- 8: the label at the front of l is cut off

-- a global tag's ending 00 at offset n: a 00 that does not stand right after a byte of 80 or more
pub record EndAt (l : List ℕ) (n : ℕ) : Type 0 where
  pub is_00 : get_or l n 0 ≡ 0x00
  pub not_after_80 : (i : ℕ) → suc i ≡ n → get_or l i 0 < 0x80

-- no such 00 stands among the first n bytes
abbrev pub NoEnd : List ℕ → ℕ → Type 0
NoEnd l n = (i : ℕ) → i < n → EndAt l i → ⊥

-- a key of fewer than 16 bytes; a global tag whose bytes end before it does; a local tag whose bytes end early
pub data LabelCut (u : Under) (l : List ℕ) : Type 0 where
  key_cut : u.kind ≡ Universal → length l < 16 → LabelCut u l
  global_cut : (y : Layout) → u.kind ≡ Global y → length l < 12 → NoEnd l (length l) → LabelCut u l
  local_cut : (t y : Layout) → u.kind ≡ Local t y → read_as t.form l ≡ Err Missing → LabelCut u l

-- ---- 19: it is malformed

-- the global tag at the front of l, its ending 00 left out: it ends at the first such 00, or after 12 bytes if none is among
-- them; of a tag that is cut off, the bytes that are there
pub data GlobalTag (l tag : List ℕ) : Type 0 where
  tag_ended : (n : ℕ) → n < 12 → n < length l → NoEnd l n → EndAt l n → tag ≡ take n l → GlobalTag l tag
  tag_full : 12 ≤ length l → NoEnd l 12 → tag ≡ take 12 l → GlobalTag l tag
  tag_part : length l < 12 → NoEnd l (length l) → tag ≡ l → GlobalTag l tag

-- bytes that are no key; a global tag empty without its 00, a join of more than 16 bytes, or a result that is no key; a
-- local tag that is malformed. A key that is cut off is no key either, and a global tag that is cut off can be malformed too:
-- then the order decides.
pub data LabelBad (u : Under) (l : List ℕ) : Type 0 where
  no_key : u.kind ≡ Universal → is_key (take 16 l) ≡ false → LabelBad u l
  global_empty : (y : Layout) (tag : List ℕ) → u.kind ≡ Global y → GlobalTag l tag → length tag ≡ 0 → LabelBad u l
  global_long : (y : Layout) (tag : List ℕ) → u.kind ≡ Global y → GlobalTag l tag → 16 < length u.root + length tag → LabelBad u l
  global_no_key : (y : Layout) (tag : List ℕ) → u.kind ≡ Global y → GlobalTag l tag
      → is_key (u.root ++ (tag ++ replicate (16 - (length u.root + length tag)) 0x00)) ≡ false → LabelBad u l
  local_bad : (t y : Layout) → u.kind ≡ Local t y → read_as t.form l ≡ Err Malformed → LabelBad u l

-- ---- 20: it is a well-formed local tag that the table has not

-- a local tag that no record has
pub data LabelUnknown (u : Under) (l : List ℕ) : Type 0 where
  local_unlisted : (t y : Layout) (v w : ℕ) → u.kind ≡ Local t y → read_as t.form l ≡ Value v w
      → ((i : ℕ) → i < u.tags.count → (u.tags.row i).number ≡ v → ⊥) → LabelUnknown u l

-- ---- 9: the span at the front of l, of the item at place n

-- a length missing or malformed, or a value longer than what is left. A defined-length pack's record gives the length; where
-- that is FF FF FF FF, no whole triplet stands at the front.
pub data SpanFault (u : Under) (n : ℕ) (l : List ℕ) : Type 0 where
  length_missing : (f : Form) → length_layout u.kind ≡ some f → read_as f l ≡ Err Missing → SpanFault u n l
  length_malformed : (f : Form) → length_layout u.kind ≡ some f → read_as f l ≡ Err Malformed → SpanFault u n l
  value_longer : (f : Form) (v w : ℕ) → length_layout u.kind ≡ some f → read_as f l ≡ Value v w → length (drop w l) < v → SpanFault u n l
  element_longer : u.kind ≡ Defined → ((u.packs.row n).number ≡ 0xFFFF_FFFF → ⊥) → length l < (u.packs.row n).number → SpanFault u n l
  no_triplet : u.kind ≡ Defined → (u.packs.row n).number ≡ 0xFFFF_FFFF → ((m : ℕ) → Triplet l m → ⊥) → SpanFault u n l

-- ---- 12: the key k of the item at place n

-- no tag, tag too wide; outside the root, tag empty; pack key not the record's, or too many items
pub data NoLabelFor (u : Under) (n : ℕ) (k : List ℕ) : Type 0 where
  no_tag : (t y : Layout) → u.kind ≡ Local t y → ((i : ℕ) → i < u.tags.count → (u.tags.row i).key ≡ k → ⊥) → NoLabelFor u n k
  tag_too_wide : (t y : Layout) (i : ℕ) → u.kind ≡ Local t y → i < u.tags.count → (u.tags.row i).key ≡ k
      → largest_of t.form < (u.tags.row i).number → NoLabelFor u n k
  outside_root : (y : Layout) → u.kind ≡ Global y → (take (length u.root) k ≡ u.root → ⊥) → NoLabelFor u n k
  tag_empty : (y : Layout) → u.kind ≡ Global y → label_length k ≤ length u.root → NoLabelFor u n k
  other_key : is_pack u.kind ≡ true → n < u.packs.count → ((u.packs.row n).key ≡ k → ⊥) → NoLabelFor u n k
  past_records : is_pack u.kind ≡ true → u.packs.count ≤ n → NoLabelFor u n k

-- ---- 13: the value v of the item at place n

-- value too long for the layout, or not the defined length; or, where that is FF FF FF FF, not one whole triplet
pub data NoSpanFor (u : Under) (n : ℕ) (v : List ℕ) : Type 0 where
  too_long : (f : Form) → length_layout u.kind ≡ some f → largest_of f < length v → NoSpanFor u n v
  not_defined : u.kind ≡ Defined → ((u.packs.row n).number ≡ 0xFFFF_FFFF → ⊥) → (length v ≡ (u.packs.row n).number → ⊥) → NoSpanFor u n v
  not_triplet : u.kind ≡ Defined → (u.packs.row n).number ≡ 0xFFFF_FFFF → (Triplet v (length v) → ⊥) → NoSpanFor u n v
