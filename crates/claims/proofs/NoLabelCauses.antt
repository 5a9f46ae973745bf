-- The causes of row 12 are those for which a key has no label.
use mathlib.Core.Path.{◌≡◌, refl}
use mathlib.Core.Bool.{Bool, true, false, false≢true}
use mathlib.Core.List.{List}
use mathlib.Core.Option.{Option, none}
use Prim.Native.Nat.{ℕ}
use lib.Dec.{leb, ltb}
use lib.ListN.{length, take}
use borrow.Author.Tests.{leb-false, lt-leb, ltb-true, ltb-false, le-ltb}
use Rattle.klv.specs.Pick.{both}
use Rattle.klv.specs.Bytes.{same}
use Rattle.klv.specs.Key.{label_length}
use Rattle.klv.specs.Layout.{largest_of}
use Rattle.klv.specs.declared.layout.Layout.{Layout}
use Rattle.klv.proofs.Cases.{absurd_number, pick_cases, test_cases}
use Rattle.klv.proofs.BytesLaws.{same_true, differ}
use Rattle.groups.specs.declared.kind.Kind.{Kind}
use Rattle.groups.specs.declared.kind.Kind.TheVariants.{Universal, Global, Local, Variable, Defined, NoGroup}
use Rattle.std.specs.Prelude.{Some, None}
use Rattle.std.specs.Prelude as std
use Rattle.groups.specs.Kind.{is_group, is_pack}
use Rattle.groups.specs.Root.{global_tag}
use Rattle.groups.specs.Tables.{key_index}
use Rattle.groups.specs.Label.{local_tag, element_label, write_label}
use Rattle.groups.specs.Read.{Under}
use Rattle.groups.proofs.tables.Below.{first_nothing, nothing_first}
use Rattle.groups.proofs.tables.TableLaws.{TagsFit, key_found, key_finds}
use Rattle.claims.specs.Cause.{NoLabelFor, no_tag, tag_too_wide, outside_root, tag_empty, other_key, past_records}
use Rattle.claims.proofs.TableFaults.{both_false, not_so}

-- the bytes of the label of a key, if it has one
abbrev label_for : Under → ℕ → List ℕ → Kind → Option (List ℕ)
label_for u n k d = write_label d u.root u.tags u.packs n k

-- ---- a cause where there is no label

local_cause : (u : Under) (n : ℕ) (k : List ℕ) (t y : Layout) (o : std.Option ℕ) → u.kind ≡ Local t y → key_index u.tags k ≡ o → local_tag u.tags t.form o ≡ none
    → NoLabelFor u n k
unfolding key_index
local_cause u n k t y (Some i) d f e =
    let h = key_found u.tags k i f in
    pick_cases (leb (u.tags.row i).number (largest_of t.form)) _ _ none e
    (λ c q. absurd_number (cc))
    (λ c q. tag_too_wide t y i d h.0 h.1 (leb-false (u.tags.row i).number (largest_of t.form) c))
local_cause u n k t y None d f e =
    no_tag t y d (λ i h q. differ (u.tags.row i).key k (first_nothing (λ (j : ℕ). same (u.tags.row j).key k) u.tags.count f i h) q)

global_cause : (u : Under) (n : ℕ) (k : List ℕ) (y : Layout) → u.kind ≡ Global y → global_tag u.root k ≡ none → NoLabelFor u n k
unfolding global_tag
global_cause u n k y d e =
    pick_cases (both (same (take (length u.root) k) u.root) (ltb (length u.root) (label_length k))) _ _ none e
    (λ c q. absurd_number (cc))
    (λ c q. both_false (same (take (length u.root) k) u.root) (ltb (length u.root) (label_length k)) c
    (λ h. outside_root y d (differ (take (length u.root) k) u.root h))
    (λ h. tag_empty y d (ltb-false (length u.root) (label_length k) h)))

element_cause : (u : Under) (n : ℕ) (k : List ℕ) → is_pack u.kind ≡ true → element_label u.packs n k ≡ none → NoLabelFor u n k
element_cause u n k d e =
    pick_cases (both (ltb n u.packs.count) (same (u.packs.row n).key k)) _ _ none e
    (λ c q. absurd_number (cc))
    (λ c q. test_cases (ltb n u.packs.count)
    (λ t. other_key d (ltb-true n u.packs.count t) (differ (u.packs.row n).key k (rw t at c)))
    (λ t. past_records d (ltb-false n u.packs.count t)))

label_cause : (u : Under) (n : ℕ) (k : List ℕ) (d : Kind) → u.kind ≡ d → is_group d ≡ true → label_for u n k d ≡ none → NoLabelFor u n k
unfolding write_label
label_cause u n k Universal h g e = absurd_number (cc)
label_cause u n k (Global y) h g e = global_cause u n k y h e
label_cause u n k (Local t y) h g e = local_cause u n k t y (key_index u.tags k) h refl e
label_cause u n k (Variable y) h g e = element_cause u n k (rw h) e
label_cause u n k Defined h g e = element_cause u n k (rw h) e
label_cause u n k NoGroup h g e = absurd (false≢true g)

pub no_label_cause : (u : Under) (n : ℕ) (k : List ℕ) → is_group u.kind ≡ true → label_for u n k u.kind ≡ none → NoLabelFor u n k
no_label_cause u n k g e = label_cause u n k u.kind refl g e

-- ---- no label where there is a cause

element_none : (u : Under) (n : ℕ) (k : List ℕ) (d : Kind) → is_pack d ≡ true → element_label u.packs n k ≡ none → label_for u n k d ≡ none
unfolding write_label
element_none u n k Universal p e = absurd (false≢true p)
element_none u n k (Global y) p e = absurd (false≢true p)
element_none u n k (Local t y) p e = absurd (false≢true p)
element_none u n k (Variable y) p e = e
element_none u n k Defined p e = e
element_none u n k NoGroup p e = absurd (false≢true p)

global_none : (root k : List ℕ) → both (same (take (length root) k) root) (ltb (length root) (label_length k)) ≡ false → global_tag root k ≡ none
unfolding global_tag
global_none root k h = rw h

both_not : (a b : Bool) → b ≡ false → both a b ≡ false
both_not true b h = h
both_not false b h = refl

-- under a valid tag table, where a key stands once
pub cause_no_label : (u : Under) (n : ℕ) (k : List ℕ) → TagsFit u.tags → NoLabelFor u n k → label_for u n k u.kind ≡ none
unfolding write_label key_index
cause_no_label u n k f (no_tag t y d h) =
    let s = nothing_first (λ (j : ℕ). same (u.tags.row j).key k) u.tags.count
    (λ i b. not_so (same (u.tags.row i).key k) (λ e. h i b (same_true (u.tags.row i).key k e))) in
    rw (d, s)
cause_no_label u n k f (tag_too_wide t y i d b h q) =
    let s : key_index u.tags k ≡ Some i = rw (← h) (key_finds u.tags i f b) in
    rw (d, s, lt-leb (u.tags.row i).number (largest_of t.form) q)
cause_no_label u n k f (outside_root y d h) =
    let s : same (take (length u.root) k) u.root ≡ false = not_so _ (λ e. h (same_true (take (length u.root) k) u.root e)) in
    rw d (global_none u.root k (rw s))
cause_no_label u n k f (tag_empty y d h) =
    rw d (global_none u.root k (both_not (same (take (length u.root) k) u.root) (ltb (length u.root) (label_length k)) (le-ltb (length u.root) (label_length k) h)))
cause_no_label u n k f (other_key d b h) =
    let s : same (u.packs.row n).key k ≡ false = not_so _ (λ e. h (same_true (u.packs.row n).key k e)) in
    element_none u n k u.kind d (rw (both_not (ltb n u.packs.count) (same (u.packs.row n).key k) s))
cause_no_label u n k f (past_records d b) = element_none u n k u.kind d (rw (le-ltb n u.packs.count b))
