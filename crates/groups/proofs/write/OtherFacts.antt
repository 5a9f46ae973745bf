-- Module `write::other`: each fact in the shape of its need.
use mathlib.Core.Path.{◌≡◌, refl, sym, ap, ◌∙◌}
use mathlib.Core.List.{List}
use mathlib.Core.Bool.{Bool, true, false, false≢true}
use Prim.Native.Nat.{ℕ, ◌+◌, ◌-◌, ◌*◌, ◌/◌, ◌<◌, ◌≤◌}
use native.Mathlib.Omega.{arith}
use mir.Val.{Fits}
use mir.Syntax.{w64}
use lib.Dec.{ltb}
use lib.ListN.{length, take, drop, length-drop}
use lib.Seq.{length-take-le}
use Rattle.std.specs.Prelude.{Option, Some, Result, Ok, Err}
use Rattle.klv.specs.Pick.{pick, both}
use Rattle.groups.specs.declared.kind.Kind.{Kind}
use Rattle.groups.specs.declared.kind.Kind.TheVariants.{Universal, Global, Local, Variable, Defined, NoGroup}
use Rattle.groups.specs.declared.refusal.Refusal.{Refusal}
use Rattle.groups.specs.declared.refusal.Refused.{Refused}
use Rattle.groups.specs.declared.refusal.Refusal.TheVariants.{NoLabel}
use Rattle.groups.specs.declared.root.Group.{Group}
use Rattle.groups.specs.Refusal.{ok, refused}
use Rattle.groups.specs.Kind.{is_pack}
use Rattle.groups.specs.Root.{root_bytes}
use Rattle.groups.specs.Tables.{Table, table_of}
use Rattle.groups.specs.Slots.{Held, Holding, Spanned, held_key, held_offset, held_size, held_tag, held_value}
use Rattle.groups.specs.Arrays.{Put, joined_items, is_other, item_bytes, label_bytes, length_bytes, length_field, measured_of, other_label, other_size, parts_size, plus, records_after, total_size, wide}
use Rattle.groups.proofs.label.LabelPuts.{key_long}
use Rattle.groups.proofs.write.SizeFacts.{field_most, label_most_wide, parts_told, refusal_told}
use Rattle.groups.proofs.slots.SlotFacts.{item_put, value_room, item_spanned, value_inside}
use Rattle.groups.proofs.tables.TableLaws.{table_count}
use Rattle.groups.proofs.write.Totals.{Joining, joining_room, Summing, summing_again, summing_refused, summing_fits, summing_end, first_room, second_room}

-- ---- how many bytes an item takes

pub other_widths_fit : (kd : Kind) (root : List ℕ) (packs : Table) (keys v : List ℕ) (place a b : ℕ) (x y : Option ℕ) → x ≡ wide (other_label kd root packs place (held_key keys place)) → x ≡ Some a
    → y ≡ wide (length_field kd packs place v) → y ≡ Some b → 16 * place + 16 ≤ length keys → Fits w64 (a + b)
other_widths_fit kd root packs keys v place a b x y e f p q l =
    omega (arith, field_most kd packs place v b (sym p ∙ q), label_most_wide kd root packs place (held_key keys place) (key_long keys place l) a (sym e ∙ f))

pub other_size_fits : (kd : Kind) (root : List ℕ) (packs : Table) (keys v : List ℕ) (place n a b : ℕ) (x y : Option ℕ) → x ≡ wide (other_label kd root packs place (held_key keys place)) → x ≡ Some a
    → y ≡ wide (length_field kd packs place v) → y ≡ Some b → 16 * place + 16 ≤ length keys → length v ≤ 65536 → n ≡ length v → Fits w64 (a + b + n)
other_size_fits kd root packs keys v place n a b x y e f p q l h m =
    omega (arith, field_most kd packs place v b (sym p ∙ q), label_most_wide kd root packs place (held_key keys place) (key_long keys place l) a (sym e ∙ f))

-- ---- the value of an item

module _ (n i : ℕ) (keys slots s : List ℕ) (offset size : ℕ) (h : Holding n keys slots s) (l : i < n) (a : Held slots (4 * i) offset) (b : Held slots (4 * i + 1) size) where
  value_ends : offset + size ≤ length s
  value_ends = value_inside i slots s offset size (item_spanned n i slots s h.spans l) a b

  pub value_order : offset ≤ offset + size
  value_order = omega arith

  pub value_end : offset + size ≤ length s
  value_end = value_ends

  pub end_fits : Fits w64 (offset + size)
  end_fits = omega (arith, value_ends, h.spans.small)

  value_size : length (take (offset + size - offset) (drop offset s)) ≡ size
  value_size = let z : offset + size - offset ≡ size = omega arith in rw z (length-take-le size (drop offset s) (simp length-drop (omega (arith, value_ends))))

  pub value_small : length (take (offset + size - offset) (drop offset s)) ≤ 65536
  value_small = omega (arith, value_size, value_ends, h.spans.small)

  -- it is the value that the slots hold
  pub value_held : take (offset + size - offset) (drop offset s) ≡ held_value slots s i
  value_held =
      let z : offset + size - offset ≡ size = omega arith in
      let p : offset ≡ held_offset slots i = a.is in
      let q : size ≡ held_size slots i = b.is in
      rw (z, p, q)

  pub held_size_law : length (held_value slots s i) ≡ held_size slots i
  held_size_law = let q : size ≡ held_size slots i = b.is in sym (ap length value_held) ∙ value_size ∙ q

-- ---- all items

module _ (g : Group) (packs : Table) (keys slots s : List ℕ) (n total i offset size : ℕ) (r : Result ℕ (Refused Refusal))
    (m : Summing (other_size g packs keys slots s) (records_after g.kind packs) n total i) (h : Holding n keys slots s) (l : i < n) (a : Held slots (4 * i) offset)
    (b : Held slots (4 * i + 1) size)
    (q : r ≡ measured_of (parts_size (other_label g.kind (root_bytes g.root) packs i (held_key keys i))
    (length_field g.kind packs i (take (offset + size - offset) (drop offset s))) (length (take (offset + size - offset) (drop offset s))) i)) where
  step_is : other_size g packs keys slots s i ≡ parts_size (other_label g.kind (root_bytes g.root) packs i (held_key keys i))
      (length_field g.kind packs i (take (offset + size - offset) (drop offset s))) (length (take (offset + size - offset) (drop offset s))) i
  step_is = rw (value_held n i keys slots s offset size h l a b, held_size_law n i keys slots s offset size h l a b)

  step_told : {P : Type 0} (more : ℕ) → r ≡ Ok more → (other_size g packs keys slots s i ≡ ok more → more ≤ 8589934592 → P) → P
  step_told more c k =
      parts_told (other_label g.kind (root_bytes g.root) packs i (held_key keys i)) (length_field g.kind packs i (take (offset + size - offset) (drop offset s)))
      (length (take (offset + size - offset) (drop offset s))) i more
      (label_most_wide g.kind (root_bytes g.root) packs i (held_key keys i) (key_long keys i (omega (arith, h.keys_in))))
      (field_most g.kind packs i (take (offset + size - offset) (drop offset s))) (sym q ∙ c)
      (λ y t. k (step_is ∙ y) (omega (arith, value_small n i keys slots s offset size h l a b)))

  pub other_again : (more : ℕ) → r ≡ Ok more → Summing (other_size g packs keys slots s) (records_after g.kind packs) n (total + more) (i + 1)
  other_again more c = step_told more c (λ y t. summing_again (other_size g packs keys slots s) (records_after g.kind packs) n total i m l more y t)

  pub other_fits : (more : ℕ) → r ≡ Ok more → Fits w64 (total + more)
  other_fits more c = step_told more c (λ y t. summing_fits (other_size g packs keys slots s) (records_after g.kind packs) n total i m l more t h.spans.few)

  pub other_refused : (z : Refused Refusal) → r ≡ Err z
      → Err z ≡ measured_of (total_size (other_size g packs keys slots s) (records_after g.kind packs) 0 n)
  other_refused z c =
      refusal_told (parts_size (other_label g.kind (root_bytes g.root) packs i (held_key keys i)) (length_field g.kind packs i (take (offset + size - offset) (drop offset s)))
      (length (take (offset + size - offset) (drop offset s))) i) z.why z.place (sym q ∙ c)
      (λ y. rw (summing_refused (other_size g packs keys slots s) (records_after g.kind packs) n total i m l z.place z.why (step_is ∙ y)))

by_over : (t : Bool) (n size : ℕ) → measured_of (plus size (pick t (refused NoLabel n) (ok 0))) ≡ pick t (Err (record { why = NoLabel; place = n })) (Ok size)
by_over true n size = refl
by_over false n size = ap Ok (let z : size + 0 ≡ size = omega arith in z)

pub other_all : (g : Group) (t keys slots s : List ℕ) (n total i : ℕ) (r : Result ℕ (Refused Refusal)) → Summing (other_size g (table_of t) keys slots s) (records_after g.kind (table_of t)) n total i → n ≤ i
    → r ≡ pick (both (is_pack g.kind) (ltb n (length t / 20))) (Err (record { why = NoLabel; place = n })) (Ok total)
    → r ≡ measured_of (total_size (other_size g (table_of t) keys slots s) (records_after g.kind (table_of t)) 0 n)
other_all g t keys slots s n total i r m h e =
    rw (← summing_end (other_size g (table_of t) keys slots s) (records_after g.kind (table_of t)) n total i m h, by_over (both (is_pack g.kind) (ltb n (table_of t).count)) n total, table_count t) e

-- ---- an item

-- only a local set's label asks for the tag
label_any : (kd : Kind) (root k : List ℕ) (a b : ℕ) → is_other kd ≡ true → label_bytes kd root k a ≡ label_bytes kd root k b
unfolding label_bytes
label_any Universal root k a b o = refl
label_any (Global y) root k a b o = refl
label_any (Local x y) root k a b o = absurd (false≢true o)
label_any (Variable y) root k a b o = refl
label_any Defined root k a b o = refl
label_any NoGroup root k a b o = refl

module _ (g : Group) (keys slots s d : List ℕ) (i at : ℕ) (o : is_other g.kind ≡ true) (h : Spanned i slots s) (room : at + length (item_bytes g keys slots s i) ≤ length d) where
  label_is : label_bytes g.kind (root_bytes g.root) (held_key keys i) 0 ≡ label_bytes g.kind (root_bytes g.root) (held_key keys i) (held_tag slots i)
  label_is = label_any g.kind (root_bytes g.root) (held_key keys i) 0 (held_tag slots i) o

  pub label_room : at + length (label_bytes g.kind (root_bytes g.root) (held_key keys i) 0) ≤ length d
  unfolding item_bytes
  label_room =
      rw label_is (first_room (label_bytes g.kind (root_bytes g.root) (held_key keys i) (held_tag slots i)) (length_bytes g.kind (held_size slots i)) (held_value slots s i) at d room)

  module _ (size : ℕ) (c : Held slots (4 * i + 1) size) where
    length_is : length_bytes g.kind size ≡ length_bytes g.kind (held_size slots i)
    length_is = rw c.is

    pub length_in : (x : List ℕ) (y : ℕ) → Put d at (label_bytes g.kind (root_bytes g.root) (held_key keys i) 0) x y → y + length (length_bytes g.kind size) ≤ length x
    unfolding item_bytes
    length_in x y p =
        rw length_is (second_room (label_bytes g.kind (root_bytes g.root) (held_key keys i) (held_tag slots i)) (length_bytes g.kind (held_size slots i)) (held_value slots s i) at d room x y
        (rw label_is at p))

    pub other_value : (x z : List ℕ) (y w : ℕ) → Put d at (label_bytes g.kind (root_bytes g.root) (held_key keys i) 0) x y → Put x y (length_bytes g.kind size) z w → w + size ≤ length z
    unfolding item_bytes
    other_value x z y w p q =
        value_room (label_bytes g.kind (root_bytes g.root) (held_key keys i) (held_tag slots i)) (length_bytes g.kind (held_size slots i)) i at slots s d h room x z y w size c
        (rw label_is at p) (rw length_is at q)

    pub other_put : (x z v : List ℕ) (y w next offset : ℕ) → Held slots (4 * i) offset → Put d at (label_bytes g.kind (root_bytes g.root) (held_key keys i) 0) x y
        → Put x y (length_bytes g.kind size) z w → Put z w (take size (drop offset s)) v next → Put d at (item_bytes g keys slots s i) v next
    unfolding item_bytes
    other_put x z v y w next offset e p q r =
        item_put (label_bytes g.kind (root_bytes g.root) (held_key keys i) (held_tag slots i)) (length_bytes g.kind (held_size slots i)) i at slots s d h room x z v y w next offset size e c
        (rw label_is at p) (rw length_is at q) r

-- the next of n items has room
pub other_room : (g : Group) (keys slots s : List ℕ) (n from : ℕ) (d out : List ℕ) (at i : ℕ) → Joining (item_bytes g keys slots s) n from d out at i → i < n
    → from + length (joined_items (item_bytes g keys slots s) 0 n) ≤ length d → at + length (item_bytes g keys slots s i) ≤ length out
other_room g keys slots s n from d out at i w l h = joining_room (item_bytes g keys slots s) n from d out at i w l h
