-- Roots and tags of global sets (01, "Kinds", Global).
use Rattle.std.specs.Prelude.{ℕ, ◌+◌, ◌-◌, ◌≡◌, false, List, [], ◌∷◌, ◌++◌, leb, ltb, eqb, length, take, drop, replicate, Result, Ok, Err}
use Rattle.std.proofs.Math.Option.{Option, none, some}
use mathlib.Core.Path.{refl, sym, ap}
use lib.Seq.{take_at}
use Rattle.klv.specs.Pick.{pick, both}
use Rattle.klv.specs.Bytes.{same}
use Rattle.klv.specs.Key.{is_key, before_zero, label_length}
use Rattle.groups.specs.Kind.{leading, designator_length, kind_of}
use Rattle.groups.specs.declared.kind.Kind.{Kind}
use Rattle.groups.specs.declared.kind.Kind.TheVariants.{Universal, Global, Local, Variable, Defined, NoGroup}
use Rattle.groups.specs.declared.root.Root.{Root}
use Rattle.groups.specs.declared.root.Group.{Group}
use Rattle.groups.specs.declared.label.Label.{Label}
use Rattle.groups.specs.declared.label.LabelError.{LabelError}
use Rattle.groups.specs.declared.label.LabelError.TheVariants.{CutOff, Malformed}

-- the first c bytes of the set's key, then the designator
unfoldable pub root_of : List ℕ → List ℕ
root_of k = take (leading k) k ++ take (designator_length k) (drop 8 k)

-- a global set has a root; no other group has one
abbrev pub root_for : Kind → List ℕ → List ℕ
root_for Universal k = []
root_for (Global y) k = root_of k
root_for (Local t y) k = []
root_for (Variable y) k = []
root_for Defined k = []
root_for NoGroup k = []

-- what its ghost fields say: the first bytes are the root
pub root_taken : (l : List ℕ) → take (length l) (l ++ replicate (16 - length l) 0x00) ≡ l
root_taken l = take_at l (replicate (16 - length l) 0x00) (length l) refl

-- a root by value: sixteen bytes, 00 after the root
abbrev pub by_value : List ℕ → Root
by_value l =
    record {
      length = length l;
      bytes = l ++ replicate (16 - length l) 0x00;
      sized = sym (ap length (root_taken l));
      filled = ap (λ (m : List ℕ). m ++ replicate (16 - length l) 0x00) (sym (root_taken l));
    }

-- the bytes of a root by value
abbrev pub root_bytes : Root → List ℕ
root_bytes r = take r.length r.bytes

-- what a group's key decides, by value
unfoldable pub group_of : List ℕ → Group
group_of k = record { kind = kind_of k; root = by_value (root_for (kind_of k) k) }

-- a label that occupied w bytes and stands for a key
abbrev pub label_of : ℕ → List ℕ → Result Label LabelError
label_of w k = Ok (record { width = w; key = k })

-- root and tag joined, filled with 00: more than 16 bytes, or no key, is malformed; `width` is what the tag occupied
unfoldable pub join : List ℕ → List ℕ → ℕ → Result Label LabelError
join root tag width =
    pick (leb (length root + length tag) 16)
    (pick (is_key (root ++ (tag ++ replicate (16 - (length root + length tag)) 0x00)))
    (label_of width (root ++ (tag ++ replicate (16 - (length root + length tag)) 0x00)))
    (Err Malformed))
    (Err Malformed)

-- A tag ends at its first 00 that does not stand right after one of its own bytes of 80 or more, that 00 included, or
-- after 12 bytes if none is among them; bytes that end before that cut it off. Empty without that 00 is malformed.
unfoldable pub global_label : List ℕ → List ℕ → Result Label LabelError
global_label root l =
    pick (ltb (before_zero false (take 12 l)) (length (take 12 l)))
    (pick (eqb (before_zero false (take 12 l)) 0) (Err Malformed)
    (join root (take (before_zero false (take 12 l)) l) (before_zero false (take 12 l) + 1)))
    (pick (ltb (length l) 12) (Err CutOff) (join root (take 12 l) 12))

-- the tag of an item key: the rest after the root before the first word 00
abbrev pub tag_of : List ℕ → List ℕ → List ℕ
tag_of root k = drop (length root) (take (label_length k) k)

-- a tag as written: then 00 if fewer than 12 bytes stand before it
abbrev pub closed_tag : List ℕ → List ℕ
closed_tag tag = tag ++ pick (ltb (length tag) 12) (0x00 ∷ []) []

-- An item key must begin with the root; its tag has at least 1 byte.
unfoldable pub global_tag : List ℕ → List ℕ → Option (List ℕ)
global_tag root k =
    pick (both (same (take (length root) k) root) (ltb (length root) (label_length k)))
    (some (closed_tag (tag_of root k)))
    none
