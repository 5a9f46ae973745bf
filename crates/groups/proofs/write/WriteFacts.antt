-- Module `write`: what is measured, and then put, is what the definition writes; each fact in the shape of its need.
use mathlib.Core.Path.{◌≡◌, refl, sym, ap, ◌∙◌}
use mathlib.Core.List.{List, []}
use mathlib.Core.Bool.{Bool, true, false}
use mathlib.Core.Option.{none, some}
use Prim.Native.Nat.{ℕ, ◌*◌, ◌<◌, ◌≤◌}
use native.Mathlib.Omega.{arith}
use lib.Dec.{ltb}
use lib.ListN.{length}
use Rattle.std.specs.Prelude.{Option, Some, None, Result, Ok, Err}
use Rattle.klv.specs.Pick.{pick, both}
use Rattle.klv.specs.Bytes.{same}
use Rattle.klv.specs.declared.layout.Form.{Form}
use Rattle.klv.specs.declared.layout.Layout.{Layout}
use Rattle.klv.proofs.Cases.{absurd_number}
use Rattle.groups.specs.declared.kind.Kind.{Kind}
use Rattle.groups.specs.declared.kind.Kind.TheVariants.{Universal, Global, Local, Variable, Defined, NoGroup}
use Rattle.groups.specs.declared.refusal.Refusal.{Refusal}
use Rattle.groups.specs.declared.refusal.Refused.{Refused}
use Rattle.groups.specs.declared.refusal.Refusal.TheVariants.{NoLabel}
use Rattle.groups.specs.declared.root.Group.{Group}
use Rattle.groups.specs.Refusal.{Answer, ok, refused}
use Rattle.groups.specs.Kind.{is_pack}
use Rattle.groups.specs.Root.{root_bytes}
use Rattle.groups.specs.Tables.{Table, table_of, key_index}
use Rattle.groups.specs.Label.{local_tag, write_label}
use Rattle.groups.specs.Span.{element_ok}
use Rattle.groups.specs.Read.{under_of}
use Rattle.groups.specs.Write.{group, write_items}
use Rattle.groups.specs.Slots.{Holding, held_items, held_key, held_size, held_tag, held_value}
use Rattle.groups.specs.Arrays.{Measures, Tagged, item_bytes, item_size, joined_items, label_bytes, length_bytes, length_field, measure_items, measured_of, part_of, records_after, write_held}
use Rattle.groups.specs.Regroup.{sized, Outcome}
use Rattle.groups.proofs.slots.HeldItems.{sizes, join_item, measure_is, joined_is, value_size}
use Rattle.groups.proofs.label.LabelPuts.{key_long}
use Rattle.groups.proofs.write.SizeFacts.{AtMost, fitting_most, field_most, label_most_wide, parts_told, refusal_told, size_told}
use Rattle.groups.proofs.slots.SlotFacts.{held_few, holding_same}
use Rattle.groups.proofs.write.Totals.{total_most, joined_alike}

-- ---- what is put is what is measured

none_part : (t : Bool) → part_of (pick t (some []) none) ≡ []
none_part true = refl
none_part false = refl

label_is : (kd : Kind) (root : List ℕ) (tags packs : Table) (place : ℕ) (k : List ℕ) (tag : ℕ) → ((y z : Layout) → kd ≡ Local y z → Tagged tags y.form k tag)
    → part_of (write_label kd root tags packs place k) ≡ label_bytes kd root k tag
unfolding write_label label_bytes
label_is Universal root tags packs place k tag h = refl
label_is (Global y) root tags packs place k tag h = refl
label_is (Local y z) root tags packs place k tag h = ap part_of (h y z refl)
label_is (Variable y) root tags packs place k tag h = none_part (both (ltb place packs.count) (same (packs.row place).key k))
label_is Defined root tags packs place k tag h = none_part (both (ltb place packs.count) (same (packs.row place).key k))
label_is NoGroup root tags packs place k tag h = refl

length_is : (kd : Kind) (packs : Table) (place : ℕ) (v : List ℕ) → part_of (length_field kd packs place v) ≡ length_bytes kd (length v)
unfolding length_field length_bytes
length_is Universal packs place v = refl
length_is (Global y) packs place v = refl
length_is (Local x y) packs place v = refl
length_is (Variable y) packs place v = refl
length_is Defined packs place v = none_part (element_ok (packs.row place).number v)
length_is NoGroup packs place v = refl

local_most : (tags : Table) (f : Form) (r : Option ℕ) → AtMost (local_tag tags f r) 16
local_most tags f (Some i) w e = omega (arith, fitting_most f (tags.row i).number w e)
local_most tags f None w e = absurd_number (cc)

label_most : (kd : Kind) (root : List ℕ) (tags packs : Table) (place : ℕ) (k : List ℕ) → length k ≡ 16 → AtMost (write_label kd root tags packs place k) 16
unfolding write_label
label_most Universal root tags packs place k l w e = let q : length k ≡ w = cc in omega arith
label_most (Global y) root tags packs place k l w e = label_most_wide (Global y) root packs place k l w e
label_most (Local x y) root tags packs place k l w e = local_most tags x.form (key_index tags k) w e
label_most (Variable y) root tags packs place k l w e = label_most_wide (Variable y) root packs place k l w e
label_most Defined root tags packs place k l w e = label_most_wide Defined root packs place k l w e
label_most NoGroup root tags packs place k l w e = absurd_number (cc)

none_after_law : (t : Bool) (p a : ℕ) → pick t (refused NoLabel p) (ok 0) ≡ ok a → a ≡ 0
none_after_law true p a e = absurd_number (cc)
none_after_law false p a e = cc

sizes_told : {P : Type 0} (x : Answer (List ℕ)) (n : ℕ) → sizes x ≡ ok n → ((l : List ℕ) → x ≡ ok l → length l ≡ n → P) → P
sizes_told (ok l) n e f = f l refl (cc)
sizes_told (refused r p) n e f = absurd_number (cc)

sizes_refused : {P : Type 0} (x : Answer (List ℕ)) (r : Refusal) (p : ℕ) → sizes x ≡ refused r p → (x ≡ refused r p → P) → P
sizes_refused (ok l) r p e f = absurd_number (cc)
sizes_refused (refused r' p') r p e f = let a : r' ≡ r = cc in let b : p' ≡ p = cc in f (rw (a, b))

module _ (g : Group) (tags packs keys d x s : List ℕ) (n : ℕ) (r : Result ℕ (Refused Refusal)) (m : Measures g tags packs keys d x s n r) (h : Holding n keys d s) where
  pub measured_holding : Holding n keys x s
  measured_holding = holding_same n keys d x s m.same h

  -- a refusal
  pub items_refused : (target o : List ℕ) (w : Refused Refusal) → r ≡ Err w
      → Outcome (write_held (under_of g tags packs) target (held_items 0 n keys d s) (length o)) o o (Err w)
  items_refused target o w f =
      refusal_told (measure_items (under_of g tags packs) n keys d s) w.why w.place (sym m.answer ∙ f)
      (λ y. sizes_refused (write_items (under_of g tags packs) 0 (held_items 0 n keys d s)) w.why w.place (measure_is (under_of g tags packs) 0 n keys d s (λ i l. h.spans.inside i (omega arith)) ∙ y)
      (λ z. record { answer = rw z; bytes = rw z }))

  module _ (size : ℕ) (e : r ≡ Ok size) where
    sum_told : {P : Type 0} → (measure_items (under_of g tags packs) n keys d s ≡ ok size → P) → P
    sum_told k = size_told (measure_items (under_of g tags packs) n keys d s) size (sym e ∙ m.answer) k

    bytes_are : (i : ℕ) → i < n → join_item (under_of g tags packs) keys d s i ≡ item_bytes g keys x s i
    unfolding item_bytes
    bytes_are i l =
        rw (
          label_is g.kind (root_bytes g.root) (table_of tags) (table_of packs) i (held_key keys i) (held_tag x i) (λ y z k. m.noted size e y z k i l),
          length_is g.kind (table_of packs) i (held_value d s i),
          value_size d s i (h.spans.inside i l),
          m.same.offsets i,
          m.same.sizes i,
        )

    body_told : {P : Type 0} → ((body : List ℕ) → write_items (under_of g tags packs) 0 (held_items 0 n keys d s) ≡ ok body
        → body ≡ joined_items (item_bytes g keys x s) 0 n → length body ≡ size → P) → P
    body_told k =
        sum_told
        (λ y. sizes_told (write_items (under_of g tags packs) 0 (held_items 0 n keys d s)) size (measure_is (under_of g tags packs) 0 n keys d s (λ i l. h.spans.inside i (omega arith)) ∙ y)
        (λ body p q. k body p
        (joined_is (under_of g tags packs) 0 n keys d s body p ∙ joined_alike (join_item (under_of g tags packs) keys d s) (item_bytes g keys x s) 0 n (λ i l. bytes_are i (omega arith))) q))

    pub measured_size : size ≡ length (joined_items (item_bytes g keys x s) 0 n)
    measured_size = body_told (λ body p q c. sym c ∙ ap length q)

    item_most : (i a : ℕ) → i < n → item_size (under_of g tags packs) keys d s i ≡ ok a → a ≤ 65561
    item_most i a l q =
        parts_told (write_label g.kind (root_bytes g.root) (table_of tags) (table_of packs) i (held_key keys i)) (length_field g.kind (table_of packs) i (held_value d s i)) (held_size d i) i a
        (label_most g.kind (root_bytes g.root) (table_of tags) (table_of packs) i (held_key keys i) (key_long keys i (omega (arith, h.keys_in))))
        (field_most g.kind (table_of packs) i (held_value d s i)) (ap measured_of q)
        (λ y t. omega (arith, held_few n i keys d s h l))

    pub measured_small : size ≤ 16783616
    measured_small =
        sum_told
        (λ y.
        let b : size ≤ n * 65561 =
        total_most (item_size (under_of g tags packs) keys d s) (records_after g.kind (table_of packs)) 0 n 65561 size (λ i a l q. item_most i a (omega arith) q)
        (λ i a q. none_after_law (both (is_pack g.kind) (ltb i (table_of packs).count)) i a q) y in
        let k : n ≤ 256 = h.spans.few in
        omega arith)

    pub held_written : (target o z : List ℕ) (t : Result ℕ (Refused Refusal)) → Outcome (sized (length o) (group target (joined_items (item_bytes g keys x s) 0 n))) o z t
        → Outcome (write_held (under_of g tags packs) target (held_items 0 n keys d s) (length o)) o z t
    held_written target o z t w = body_told (λ body p q c. rw (p, q) w)
