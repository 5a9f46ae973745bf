-- Module `write::local`: each fact in the shape of its need.
use mathlib.Core.Path.{◌≡◌, sym, ap, ◌∙◌}
use mathlib.Core.Bool.{true}
use mathlib.Core.List.{List}
use Prim.Native.Nat.{ℕ, ◌+◌, ◌*◌, ◌<◌, ◌≤◌}
use native.Mathlib.Omega.{arith}
use native.Mathlib.Decide.{dec_le}
use mir.Val.{Fits}
use mir.Syntax.{w64}
use lib.ListN.{length, get_or, take, drop, set, length-set}
use lib.Seq.{get_or-set_same, get_or-set_other}
use Rattle.std.specs.Prelude as prelude
use Rattle.std.specs.Prelude.{Some, None, Result, Ok, Err}
use Rattle.klv.proofs.Cases.{absurd_number}
use Rattle.klv.specs.declared.layout.Form.{Form}
use Rattle.groups.specs.declared.refusal.Refusal.{Refusal}
use Rattle.groups.specs.declared.refusal.Refused.{Refused}
use Rattle.groups.specs.declared.refusal.Refusal.TheVariants.{NoLabel, NoSpan}
use Rattle.groups.specs.Refusal.{ok, refused}
use Rattle.groups.specs.Tables.{Table, table_of, key_index, tag_table_ok}
use Rattle.groups.specs.Label.{local_tag}
use Rattle.groups.specs.Slots.{Held, SameSpans, Spanned, held_key, held_size, held_tag, held_value}
use Rattle.groups.specs.Arrays.{Put, joined_items, Tagged, Tagging, fitting, measured_of, none_after, part_of, parts_size, row_tag, tagged_item, tagged_size, total_size, wide}
use Rattle.groups.proofs.tables.TableLoops.{tags_few}
use Rattle.groups.proofs.tables.FindLoops.{key_in}
use Rattle.groups.proofs.write.SizeFacts.{AtMost, fitting_most, parts_sized, parts_no_span, parts_no_label, parts_told, refusal_told}
use Rattle.groups.proofs.slots.SlotFacts.{item_put, value_room, same_all}
use Rattle.groups.proofs.write.Totals.{Joining, joining_room, Summing, summing_again, summing_refused, summing_fits, summing_end, first_room, second_room}

-- ---- the tag of a key's record

pub next_fits : (t k : List ℕ) (i : ℕ) (r : prelude.Option ℕ) → tag_table_ok t ≡ true → r ≡ key_index (table_of t) k → r ≡ Some i → Fits w64 (i + 1)
next_fits t k i r d e f = omega (arith, tags_few t d, key_in t k i r e f)

-- the label of a key, by its record
row_label : (t : Table) (k : List ℕ) (f : Form) (place tag : ℕ) (row : prelude.Option ℕ) → row ≡ key_index t k → row_tag t place row ≡ Ok tag
    → local_tag t f (key_index t k) ≡ fitting f tag
row_label t k f place tag (Some i) e p = let z : (t.row i).number ≡ tag = cc in rw (← e, ← z)
row_label t k f place tag None e p = absurd_number (cc)

-- a key without a record gives 12
no_label : (t : Table) (f g : Form) (keys d : List ℕ) (i : ℕ) (row : prelude.Option ℕ) (z : Refused Refusal) → row ≡ key_index t (held_key keys i) → row_tag t i row ≡ Err z
    → tagged_size t f g keys d i ≡ refused z.why z.place
unfolding parts_size
no_label t f g keys d i (Some j) z w e = absurd_number (cc)
no_label t f g keys d i None z w e =
    let c : ◌≡◌ {A = Refused Refusal} (record { why = NoLabel; place = i }) z = cc in
    rw (← w) (ap (λ (y : Refused Refusal). refused y.why y.place) c)

-- ---- how many bytes an item takes

module _ (f g : Form) (tag place n : ℕ) (v : prelude.Option ℕ) (e : v ≡ wide (fitting f tag)) where
  pub local_sized : (a b : ℕ) (w : prelude.Option ℕ) → v ≡ Some a → w ≡ wide (fitting g n) → w ≡ Some b
      → Ok (a + b + n) ≡ measured_of (parts_size (fitting f tag) (fitting g n) n place)
  local_sized a b w c p q = parts_sized (fitting f tag) (fitting g n) n place v e a b w c p q

  pub local_no_span : (a : ℕ) (w : prelude.Option ℕ) → v ≡ Some a → w ≡ wide (fitting g n) → w ≡ None
      → Err (record { why = NoSpan; place = place }) ≡ measured_of (parts_size (fitting f tag) (fitting g n) n place)
  local_no_span a w c p q = parts_no_span (fitting f tag) (fitting g n) n place v e a w c p q

  pub local_no_label : v ≡ None → Err (record { why = NoLabel; place = place }) ≡ measured_of (parts_size (fitting f tag) (fitting g n) n place)
  local_no_label c = parts_no_label (fitting f tag) (fitting g n) n place v e c

pub local_widths_fit : (f g : Form) (x y a b : ℕ) (v w : prelude.Option ℕ) → v ≡ wide (fitting f x) → v ≡ Some a → w ≡ wide (fitting g y) → w ≡ Some b → Fits w64 (a + b)
local_widths_fit f g x y a b v w e p k q = omega (arith, fitting_most f x a (sym e ∙ p), fitting_most g y b (sym k ∙ q))

pub local_size_fits : (f g : Form) (x n a b : ℕ) (v w : prelude.Option ℕ) → v ≡ wide (fitting f x) → v ≡ Some a → w ≡ wide (fitting g n) → w ≡ Some b → n ≤ 4294967295 → Fits w64 (a + b + n)
local_size_fits f g x n a b v w e p k q h = omega (arith, fitting_most f x a (sym e ∙ p), fitting_most g n b (sym k ∙ q))

-- ---- all items: the tags of the first i are held; d are the slots at first, x now

pub record Noting (t : Table) (f : Form) (keys d x : List ℕ) (i : ℕ) : Type 0 where
  pub same : SameSpans d x
  pub noted : (j : ℕ) → j < i → Tagged t f (held_key keys j) (held_tag x j)

pub noting_start : (t : Table) (f : Form) (keys d : List ℕ) → Noting t f keys d d 0
noting_start t f keys d = record { same = same_all d; noted = λ j l. absurd (let z : ⊥ = omega arith in z) }

noting_more : (t : Table) (f : Form) (keys d x : List ℕ) (i tag : ℕ) → Noting t f keys d x i → Tagged t f (held_key keys i) tag → 4 * i + 3 < length x
    → Noting t f keys d (set x (4 * i + 3) tag) (i + 1)
noting_more t f keys d x i tag o r a =
    record {
      same = record {
        size = length-set x (4 * i + 3) tag ∙ o.same.size;
        offsets = λ j. get_or-set_other x (4 * i + 3) (4 * j) tag 0 (λ z. omega arith) ∙ o.same.offsets j;
        sizes = λ j. get_or-set_other x (4 * i + 3) (4 * j + 1) tag 0 (λ z. omega arith) ∙ o.same.sizes j;
      };
      noted = λ j c. elim (dec_le i j) [
        | yes g ↦
            let z : j ≡ i = omega arith in
            let v : get_or (set x (4 * i + 3) tag) (4 * i + 3) 0 ≡ tag = get_or-set_same x (4 * i + 3) tag 0 a in
            rw (z, v) r
        | no g ↦
            let v : get_or (set x (4 * i + 3) tag) (4 * j + 3) 0 ≡ get_or x (4 * j + 3) 0 = get_or-set_other x (4 * i + 3) (4 * j + 3) tag 0 (λ z. omega arith) in
            rw v (o.noted j (omega arith))
      ];
    }

module _ (t keys d x : List ℕ) (f g : Form) (n total i : ℕ) (row : prelude.Option ℕ) (v : Result ℕ (Refused Refusal))
    (m : Summing (tagged_size (table_of t) f g keys d) none_after n total i) (o : Noting (table_of t) f keys d x i) (l : i < n)
    (w : row ≡ key_index (table_of t) (held_key keys i)) (e : v ≡ row_tag (table_of t) i row) where
  pub tagging_unlisted : (z : Refused Refusal) → v ≡ Err z → Tagging (table_of t) f g keys d x n (Err z)
  tagging_unlisted z c =
      record {
        answer = rw (summing_refused (tagged_size (table_of t) f g keys d) none_after n total i m l z.place z.why (no_label (table_of t) f g keys d i row z w (sym e ∙ c)));
        same = o.same;
        noted = λ s k. absurd_number (cc);
      }

  module _ (tag size : ℕ) (r : Result ℕ (Refused Refusal)) (p : v ≡ Ok tag) (b : Held x (4 * i + 1) size) (q : r ≡ measured_of (parts_size (fitting f tag) (fitting g size) size i)) where
    label_is : local_tag (table_of t) f (key_index (table_of t) (held_key keys i)) ≡ fitting f tag
    label_is = row_label (table_of t) (held_key keys i) f i tag row w (sym e ∙ p)

    size_is : size ≡ held_size d i
    size_is = b.is ∙ o.same.sizes i

    step_is : tagged_size (table_of t) f g keys d i ≡ parts_size (fitting f tag) (fitting g size) size i
    step_is = rw (label_is, ← size_is)

    label_most : AtMost (fitting f tag) 16
    label_most a c = omega (arith, fitting_most f tag a c)

    step_told : {P : Type 0} (more : ℕ) → r ≡ Ok more → (tagged_size (table_of t) f g keys d i ≡ ok more → more ≤ 8589934592 → P) → P
    step_told more c k =
        parts_told (fitting f tag) (fitting g size) size i more label_most (fitting_most g size) (sym q ∙ c)
        (λ y s. k (step_is ∙ y) (omega (arith, b.small)))

    pub tagging_again : (more : ℕ) → r ≡ Ok more → Summing (tagged_size (table_of t) f g keys d) none_after n (total + more) (i + 1)
    tagging_again more c = step_told more c (λ y s. summing_again (tagged_size (table_of t) f g keys d) none_after n total i m l more y s)

    pub tagging_fits : (more : ℕ) → r ≡ Ok more → n ≤ 256 → Fits w64 (total + more)
    tagging_fits more c h = step_told more c (λ y s. summing_fits (tagged_size (table_of t) f g keys d) none_after n total i m l more s h)

    pub noting_again : 4 * n ≤ length x → Noting (table_of t) f keys d (set x (4 * i + 3) tag) (i + 1)
    noting_again h = noting_more (table_of t) f keys d x i tag o label_is (omega arith)

    pub tagging_refused : (z : Refused Refusal) → r ≡ Err z → Tagging (table_of t) f g keys d x n (Err z)
    tagging_refused z c =
        refusal_told (parts_size (fitting f tag) (fitting g size) size i) z.why z.place (sym q ∙ c)
        (λ y. record {
          answer = rw (summing_refused (tagged_size (table_of t) f g keys d) none_after n total i m l z.place z.why (step_is ∙ y));
          same = o.same;
          noted = λ s k. absurd_number (cc);
        })

pub tagging_all : (t keys d x : List ℕ) (f g : Form) (n total i : ℕ) → Summing (tagged_size (table_of t) f g keys d) none_after n total i → Noting (table_of t) f keys d x i → n ≤ i
    → Tagging (table_of t) f g keys d x n (Ok total)
tagging_all t keys d x f g n total i m o h =
    let w : i ≤ n = m.within in
    let e : i ≡ n = omega arith in
    let z : total + 0 ≡ total = omega arith in
    let y : ok total ≡ total_size (tagged_size (table_of t) f g keys d) none_after 0 n = rw z at (summing_end (tagged_size (table_of t) f g keys d) none_after n total i m h) in
    record { answer = ap measured_of y; same = o.same; noted = λ s c j l. o.noted j (omega arith) }

pub noting_length : (t : Table) (f : Form) (keys d x : List ℕ) (i : ℕ) → Noting t f keys d x i → length x ≡ length d
noting_length t f keys d x i o = o.same.size

pub noting_slots : (t : Table) (f : Form) (keys d x : List ℕ) (n i : ℕ) → Noting t f keys d x i → 4 * n ≤ length d → 4 * n ≤ length x
noting_slots t f keys d x n i o h = rw o.same.size h

-- ---- an item

module _ (f g : Form) (slots s d : List ℕ) (i at tag size : ℕ) (h : Spanned i slots s) (room : at + length (tagged_item f g slots s i) ≤ length d) (u : Held slots (4 * i + 3) tag) where
  tag_is : part_of (fitting f tag) ≡ part_of (fitting f (held_tag slots i))
  tag_is = rw u.is

  pub tag_room : at + length (part_of (fitting f tag)) ≤ length d
  unfolding tagged_item
  tag_room = rw tag_is (first_room (part_of (fitting f (held_tag slots i))) (part_of (fitting g (held_size slots i))) (held_value slots s i) at d room)

  module _ (c : Held slots (4 * i + 1) size) where
    length_is : part_of (fitting g size) ≡ part_of (fitting g (held_size slots i))
    length_is = rw c.is

    pub size_room : (x : List ℕ) (y : ℕ) → Put d at (part_of (fitting f tag)) x y → y + length (part_of (fitting g size)) ≤ length x
    unfolding tagged_item
    size_room x y p =
        rw length_is (second_room (part_of (fitting f (held_tag slots i))) (part_of (fitting g (held_size slots i))) (held_value slots s i) at d room x y (rw tag_is at p))

    pub tagged_value : (x z : List ℕ) (y w : ℕ) → Put d at (part_of (fitting f tag)) x y → Put x y (part_of (fitting g size)) z w → w + size ≤ length z
    unfolding tagged_item
    tagged_value x z y w p q =
        value_room (part_of (fitting f (held_tag slots i))) (part_of (fitting g (held_size slots i))) i at slots s d h room x z y w size c (rw tag_is at p) (rw length_is at q)

    pub tagged_put : (x z v : List ℕ) (y w next offset : ℕ) → Held slots (4 * i) offset → Put d at (part_of (fitting f tag)) x y → Put x y (part_of (fitting g size)) z w
        → Put z w (take size (drop offset s)) v next → Put d at (tagged_item f g slots s i) v next
    unfolding tagged_item
    tagged_put x z v y w next offset o p q r =
        item_put (part_of (fitting f (held_tag slots i))) (part_of (fitting g (held_size slots i))) i at slots s d h room x z v y w next offset size o c (rw tag_is at p) (rw length_is at q) r

-- the next of n items has room
pub tagged_room : (f g : Form) (slots s : List ℕ) (n from : ℕ) (d out : List ℕ) (at i : ℕ) → Joining (tagged_item f g slots s) n from d out at i → i < n
    → from + length (joined_items (tagged_item f g slots s) 0 n) ≤ length d → at + length (tagged_item f g slots s i) ≤ length out
tagged_room f g slots s n from d out at i w l h = joining_room (tagged_item f g slots s) n from d out at i w l h
