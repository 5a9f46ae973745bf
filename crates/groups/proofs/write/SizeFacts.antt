-- How many bytes an item takes, by its parts: `write::local::item_size`, `write::other::item_size` and what the loops need of
-- them; each fact in the shape of its need.
use mathlib.Core.Path.{◌≡◌, refl, sym, ap, ◌∙◌}
use mathlib.Core.List.{List, [], ◌∷◌}
use mathlib.Core.Bool.{Bool, true, false}
use mathlib.Core.Option.{Option, none, some}
use Prim.Native.Nat.{ℕ, ◌+◌, ◌<◌, ◌≤◌}
use native.Mathlib.Omega.{arith}
use lib.Dec.{leb, ltb}
use lib.ListN.{length, take, length-drop, length-take, length-append}
use borrow.Author.Tests.{le-leb, ltb-true}
use Rattle.std.specs.Prelude as prelude
use Rattle.std.specs.Prelude.{Some, None, Result, Ok, Err}
use Rattle.klv.specs.Pick.{pick, both}
use Rattle.klv.specs.Bytes.{same}
use Rattle.klv.specs.Key.{label_length}
use Rattle.klv.specs.declared.layout.Form.{Form}
use Rattle.klv.proofs.Cases.{absurd_number}
use Rattle.klv.specs.Layout.{written, largest_of}
use Rattle.klv.specs.declared.layout.Form.TheVariants.{Ber}
use Rattle.klv.proofs.LargestLaws.{largest_ber}
use Rattle.klv.proofs.LayoutLaws.{written_most}
use Rattle.groups.specs.declared.kind.Kind.{Kind}
use Rattle.groups.specs.declared.kind.Kind.TheVariants.{Universal, Global, Local, Variable, Defined, NoGroup}
use Rattle.groups.specs.declared.refusal.Refusal.{Refusal}
use Rattle.groups.specs.declared.refusal.Refused.{Refused}
use Rattle.groups.specs.declared.refusal.Refusal.TheVariants.{NoLabel, NoSpan}
use Rattle.groups.specs.Refusal.{Answer, ok, refused}
use Rattle.groups.specs.Root.{tag_of, closed_tag, global_tag}
use Rattle.groups.specs.Tables.{Table}
use Rattle.groups.specs.Label.{element_label}
use Rattle.groups.specs.Span.{element_ok}
use Rattle.groups.specs.Arrays.{wide, fitting, length_field, other_label, parts_size, measured_of}

-- ---- an item by its parts

module _ (label lengths : Option (List ℕ)) (n place : ℕ) (x : prelude.Option ℕ) (e : x ≡ wide label) where
  pub parts_sized : (a b : ℕ) (y : prelude.Option ℕ) → x ≡ Some a → y ≡ wide lengths → y ≡ Some b → Ok (a + b + n) ≡ measured_of (parts_size label lengths n place)
  unfolding parts_size
  parts_sized a b y f p q = rw (← e, f, ← p, q)

  pub parts_no_span : (a : ℕ) (y : prelude.Option ℕ) → x ≡ Some a → y ≡ wide lengths → y ≡ None → Err (record { why = NoSpan; place = place }) ≡ measured_of (parts_size label lengths n place)
  unfolding parts_size
  parts_no_span a y f p q = rw (← e, f, ← p, q)

  pub parts_no_label : x ≡ None → Err (record { why = NoLabel; place = place }) ≡ measured_of (parts_size label lengths n place)
  unfolding parts_size
  parts_no_label f = rw (← e, f)

-- a part of at most m bytes, if there is one
abbrev pub AtMost : Option (List ℕ) → ℕ → Type 0
AtMost part m = (w : ℕ) → wide part ≡ Some w → w ≤ m

picked_most : (t : Bool) (l : List ℕ) (m : ℕ) → length l ≤ m → AtMost (pick t (some l) none) m
picked_most true l m h w e = let q : length l ≡ w = cc in omega arith
picked_most false l m h w e = absurd_number (cc)

pub fitting_most : (f : Form) (n : ℕ) → AtMost (fitting f n) 9
fitting_most f n = picked_most (leb n (largest_of f)) (written f n) 9 (written_most f n)

pub ber_fits : (n : ℕ) → n ≤ 65536 → fitting Ber n ≡ some (written Ber n)
ber_fits n h = rw (le-leb n (largest_of Ber) (omega (arith, largest_ber)))

pub field_most : (kd : Kind) (packs : Table) (place : ℕ) (v : List ℕ) → AtMost (length_field kd packs place v) 9
unfolding length_field
field_most Universal packs place v w e = fitting_most Ber (length v) w e
field_most (Global y) packs place v w e = fitting_most y.form (length v) w e
field_most (Local t y) packs place v w e = fitting_most y.form (length v) w e
field_most (Variable y) packs place v w e = fitting_most y.form (length v) w e
field_most Defined packs place v w e = picked_most (element_ok (packs.row place).number v) [] 9 (omega arith) w e
field_most NoGroup packs place v w e = absurd_number (cc)

tag_most : (root k : List ℕ) → length k ≡ 16 → length (closed_tag (tag_of root k)) ≤ 16
tag_most root k l =
    let n : length (tag_of root k) ≤ 16 = omega (arith, length-drop (length root) (take (label_length k) k), length-take (label_length k) k) in
    by_test (ltb (length (tag_of root k)) 12) refl
  where
    by_test : (t : Bool) → ltb (length (tag_of root k)) 12 ≡ t → length (closed_tag (tag_of root k)) ≤ 16
    by_test true e =
        let s : length (tag_of root k) < 12 = ltb-true (length (tag_of root k)) 12 e in
        rw (length-append (tag_of root k) (pick (ltb (length (tag_of root k)) 12) (0x00 ∷ []) []), e) (omega arith)
    by_test false e =
        let n : length (tag_of root k) ≤ 16 = omega (arith, length-drop (length root) (take (label_length k) k), length-take (label_length k) k) in
        rw (length-append (tag_of root k) (pick (ltb (length (tag_of root k)) 12) (0x00 ∷ []) []), e) (omega arith)

element_most : (packs : Table) (place : ℕ) (k : List ℕ) → AtMost (element_label packs place k) 16
element_most packs place k = picked_most (both (ltb place packs.count) (same (packs.row place).key k)) [] 16 (omega arith)

pub label_most_wide : (kd : Kind) (root : List ℕ) (packs : Table) (place : ℕ) (k : List ℕ) → length k ≡ 16 → AtMost (other_label kd root packs place k) 16
unfolding global_tag
label_most_wide Universal root packs place k l = element_most packs place k
label_most_wide (Global y) root packs place k l =
    picked_most (both (same (take (length root) k) root) (ltb (length root) (label_length k))) (closed_tag (tag_of root k)) 16 (tag_most root k l)
label_most_wide (Local t y) root packs place k l = element_most packs place k
label_most_wide (Variable y) root packs place k l = element_most packs place k
label_most_wide Defined root packs place k l = element_most packs place k
label_most_wide NoGroup root packs place k l = element_most packs place k

-- ---- a size that was told

pub parts_told : {P : Type 0} (label lengths : Option (List ℕ)) (n place m : ℕ) → AtMost label 16 → AtMost lengths 9 → measured_of (parts_size label lengths n place) ≡ Ok m
    → (parts_size label lengths n place ≡ ok m → m ≤ 25 + n → P) → P
unfolding parts_size
parts_told {P} label lengths n place m h k e f = by_parts (wide label) (wide lengths) refl refl
  where
    by_parts : (x y : prelude.Option ℕ) → wide label ≡ x → wide lengths ≡ y → P
    by_parts (Some a) (Some b) p q =
        let z : a + b + n ≡ m = (let w : Ok (a + b + n) ≡ Ok m = rw (p, q) at e in cc) in
        f (rw (p, q, z)) (omega (arith, h a p, k b q))
    by_parts (Some a) None p q = let w : ◌≡◌ {A = Result ℕ (Refused Refusal)} (Err (record { why = NoSpan; place = place })) (Ok m) = rw (p, q) at e in absurd_number (cc)
    by_parts None y p q = let w : ◌≡◌ {A = Result ℕ (Refused Refusal)} (Err (record { why = NoLabel; place = place })) (Ok m) = rw p at e in absurd_number (cc)

pub refusal_told : {P : Type 0} (x : Answer ℕ) (r : Refusal) (p : ℕ) → measured_of x ≡ Err (record { why = r; place = p }) → (x ≡ refused r p → P) → P
refusal_told (ok a) r p e f = absurd_number (cc)
refusal_told (refused r' p') r p e f =
    let z : ◌≡◌ {A = Refused Refusal} (record { why = r'; place = p' }) (record { why = r; place = p }) = cc in
    let a : r' ≡ r = ap (λ (x : Refused Refusal). x.why) z in
    let b : p' ≡ p = ap (λ (x : Refused Refusal). x.place) z in
    f (rw (a, b))

pub size_told : {P : Type 0} (x : Answer ℕ) (n : ℕ) → Ok n ≡ measured_of x → (x ≡ ok n → P) → P
size_told (ok m) n e f = let z : m ≡ n = cc in f (ap ok z)
size_told (refused r p) n e f = absurd_number (cc)

-- ---- a width that is missing

-- why `ok_or` failed
pub ok_or_none : {A E : Type 0} (o : prelude.Option A) (e x : E) (r : Result A E) → r ≡ prelude.ok_or o e → r ≡ Err x → (o ≡ None) × (x ≡ e)
ok_or_none {A} {E} (Some a) e x r p q = absurd_number (let z : ◌≡◌ {A = Result A E} (Ok a) (Err x) = sym p ∙ q in cc)
ok_or_none {A} {E} None e x r p q = (refl, let z : ◌≡◌ {A = Result A E} (Err e) (Err x) = sym p ∙ q in cc)

-- what it was where it did not
pub ok_or_some : {A E : Type 0} (o : prelude.Option A) (e : E) (r : Result A E) (a : A) → r ≡ prelude.ok_or o e → r ≡ Ok a → o ≡ Some a
ok_or_some {A} {E} (Some x) e r a p q = ap Some (let z : ◌≡◌ {A = Result A E} (Ok x) (Ok a) = sym p ∙ q in cc)
ok_or_some {A} {E} None e r a p q = absurd_number (let z : ◌≡◌ {A = Result A E} (Err e) (Ok a) = sym p ∙ q in cc)
