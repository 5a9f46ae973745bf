-- The arrays that a reading fills hold its items; and what is measured and joined from them is what is written.
use mathlib.Core.Path.{◌≡◌, refl, sym, ap, ◌∙◌}
use mathlib.Core.List.{List, [], ◌∷◌, ◌++◌, append_assoc}
use mathlib.Core.Bool.{Bool, true, false}
use mathlib.Core.Option.{Option, none, some}
use Prim.Native.Nat.{ℕ, zero, suc, ◌+◌, ◌*◌, ◌<◌, ◌≤◌}
use native.Mathlib.Omega.{arith}
use native.Mathlib.Nat.{add_assoc}
use lib.Dec.{leb}
use lib.ListN.{length, get_or, take, drop, length-append, length-drop}
use lib.Seq.{take_at, drop_at, drop-drop, length-take-le, get_or-drop}
use Rattle.klv.specs.Pick.{pick}
use Rattle.klv.specs.Layout.{written, largest_of}
use Rattle.klv.specs.declared.layout.Form.TheVariants.{Ber}
use Rattle.klv.proofs.KeyLaws.{key_size}
use Rattle.klv.proofs.Cases.{absurd_number}
use Rattle.groups.specs.declared.kind.Kind.{Kind}
use Rattle.groups.specs.declared.kind.Kind.TheVariants.{Universal, Global, Local, Variable, Defined, NoGroup}
use Rattle.groups.specs.declared.refusal.Refusal.TheVariants.{NoLabel, NoSpan}
use Rattle.groups.specs.Refusal.{Answer, ok, refused, and_then}
use Rattle.groups.specs.Tables.{Table}
use Rattle.groups.specs.Label.{write_label}
use Rattle.groups.specs.Span.{element_ok, write_span}
use Rattle.groups.specs.Read.{Entry, Under, items, size}
use Rattle.groups.specs.Listing.{keys_of, numbers_from}
use Rattle.groups.specs.Write.{or_refuse, records_over, append, write_item, write_items}
use Rattle.groups.specs.Slots.{held_key, held_offset, held_size, held_value, held_item, held_items, slots_from}
use Rattle.groups.specs.Arrays.{wide, part_of, length_field, or_none, parts_size, plus, total_size, records_after, item_size, joined_items}
use Rattle.groups.proofs.item.GoodItems.{AllKeys}
use Rattle.groups.proofs.span.SpanLaws.{InPlace, offset_at, length_at, offset_later, length_later}

-- ---- the arrays hold the items

-- the slots of entries hold the listing's numbers
pub slot_offset : (at : ℕ) (es : List Entry) (i : ℕ) → get_or (slots_from at es) (4 * i) 0 ≡ offset_at at es i
unfolding slots_from numbers_from
slot_offset at [] i = refl
slot_offset at (e ∷ es) zero = refl
slot_offset at (e ∷ es) (suc i) =
    let a : 4 * suc i ≡ suc (suc (suc (suc (4 * i)))) = omega arith in
    rw a (slot_offset (at + size e) es i ∙ sym (offset_later at e es i))

pub slot_size : (at : ℕ) (es : List Entry) (i : ℕ) → get_or (slots_from at es) (4 * i + 1) 0 ≡ length_at at es i
unfolding slots_from numbers_from
slot_size at [] i = refl
slot_size at (e ∷ es) zero = refl
slot_size at (e ∷ es) (suc i) =
    let a : 4 * suc i + 1 ≡ suc (suc (suc (suc (4 * i + 1)))) = omega arith in
    rw a (slot_size (at + size e) es i ∙ sym (length_later at e es i))

pub length_slots : (at : ℕ) (es : List Entry) → length (slots_from at es) ≡ 4 * length es
unfolding slots_from
length_slots at [] = refl
length_slots at (e ∷ es) = omega (arith, length_slots (at + size e) es)

first_number : (slots : List ℕ) (place j v : ℕ) (l : List ℕ) → drop (4 * place) slots ≡ l → get_or l j 0 ≡ v → get_or slots (4 * place + j) 0 ≡ v
first_number slots place j v l e f = sym (get_or-drop (4 * place) slots j 0) ∙ ap (λ (m : List ℕ). get_or m j 0) e ∙ f

pub held_items_law : (s : List ℕ) (place at : ℕ) (es : List Entry) (keys slots kr sr : List ℕ) → drop (16 * place) keys ≡ keys_of es ++ kr → drop (4 * place) slots ≡ slots_from at es ++ sr
    → AllKeys (items es) → InPlace s at es → held_items place (length es) keys slots s ≡ items es
unfolding held_items keys_of slots_from
held_items_law s place at [] keys slots kr sr ke se a p = refl
held_items_law s place at (e ∷ es) keys slots kr sr ke se (k, a) (v, p) =
    let l : length e.key ≡ 16 = key_size e.key k in
    let z : (e.key ++ keys_of es) ++ kr ≡ e.key ++ (keys_of es ++ kr) = append_assoc e.key (keys_of es) kr in
    let ke' : drop (16 * place) keys ≡ e.key ++ (keys_of es ++ kr) = ke ∙ z in
    let t : take 16 (drop (16 * place) keys) ≡ e.key = rw ke' (take_at e.key (keys_of es ++ kr) 16 l) in
    let c : 16 * place + 16 ≡ 16 * suc place = omega arith in
    let r : drop (16 * suc place) keys ≡ keys_of es ++ kr = sym (drop-drop 16 (16 * place) keys ∙ ap (λ (x : ℕ). drop x keys) c) ∙ rw ke' (drop_at e.key (keys_of es ++ kr) 16 l) in
    let c4 : 4 * place + 4 ≡ 4 * suc place = omega arith in
    let r4 : drop (4 * suc place) slots ≡ slots_from (at + size e) es ++ sr = sym (drop-drop 4 (4 * place) slots ∙ ap (λ (x : ℕ). drop x slots) c4) ∙ rw se in
    let z0 : 4 * place + 0 ≡ 4 * place = omega arith in
    let o0 : get_or slots (4 * place + 0) 0 ≡ at + e.label + e.width = first_number slots place 0 (at + e.label + e.width) _ se refl in
    let o : get_or slots (4 * place) 0 ≡ at + e.label + e.width = rw z0 at o0 in
    let n : get_or slots (4 * place + 1) 0 ≡ length e.value = first_number slots place 1 (length e.value) _ se refl in
    rw (t, o, n, ← v, held_items_law s (suc place) (at + size e) es keys slots kr sr r r4 a p)

-- ---- what is measured is the length of what is written

abbrev pub sizes : Answer (List ℕ) → Answer ℕ
sizes (ok l) = ok (length l)
sizes (refused r p) = refused r p

abbrev with_value : Option (List ℕ) → List ℕ → Option (List ℕ)
with_value (some b) v = some (b ++ v)
with_value none v = none

-- a span is the length field, and then the value
fitting_span : (t : Bool) (b v : List ℕ) → pick t (some (b ++ v)) none ≡ with_value (pick t (some b) none) v
fitting_span true b v = refl
fitting_span false b v = refl

pub span_is : (kd : Kind) (packs : Table) (place : ℕ) (v : List ℕ) → write_span kd packs place v ≡ with_value (length_field kd packs place v) v
unfolding write_span length_field
span_is Universal packs place v = fitting_span (leb (length v) (largest_of Ber)) (written Ber (length v)) v
span_is (Global y) packs place v = fitting_span (leb (length v) (largest_of y.form)) (written y.form (length v)) v
span_is (Local t y) packs place v = fitting_span (leb (length v) (largest_of y.form)) (written y.form (length v)) v
span_is (Variable y) packs place v = fitting_span (leb (length v) (largest_of y.form)) (written y.form (length v)) v
span_is Defined packs place v = fitting_span (element_ok (packs.row place).number v) [] v
span_is NoGroup packs place v = refl

-- one item: as parts
item_by_parts : (x y : Option (List ℕ)) (v : List ℕ) (place : ℕ)
    → sizes (and_then (or_refuse x NoLabel place) (λ (a : List ℕ). and_then (or_refuse (with_value y v) NoSpan place) (λ (b : List ℕ). ok (a ++ b))))
    ≡ and_then (or_none (wide x) NoLabel place) (λ (a : ℕ). and_then (or_none (wide y) NoSpan place) (λ (b : ℕ). ok (a + b + length v)))
item_by_parts (some a) (some b) v place = ap ok (rw (length-append a (b ++ v), length-append b v) (sym (add_assoc (length a) (length b) (length v))))
item_by_parts (some a) none v place = refl
item_by_parts none y v place = refl

pub value_size : (slots s : List ℕ) (i : ℕ) → held_offset slots i + held_size slots i ≤ length s → length (held_value slots s i) ≡ held_size slots i
value_size slots s i h = length-take-le (held_size slots i) (drop (held_offset slots i) s) (simp length-drop (omega arith))

item_sizes : (u : Under) (keys slots s : List ℕ) (i : ℕ) → held_offset slots i + held_size slots i ≤ length s → sizes (write_item u i (held_item keys slots s i)) ≡ item_size u keys slots s i
unfolding write_item parts_size
item_sizes u keys slots s i h =
    rw (span_is u.kind u.packs i (held_value slots s i))
    (item_by_parts (write_label u.kind u.root u.tags u.packs i (held_key keys i)) (length_field u.kind u.packs i (held_value slots s i)) (held_value slots s i) i
    ∙ rw (value_size slots s i h))

after_sizes : (x : Answer (List ℕ)) (y : Answer (List ℕ)) (f : ℕ → Answer ℕ) → ((a : ℕ) → plus a (sizes y) ≡ f a)
    → sizes (and_then x (λ (a : List ℕ). append a y)) ≡ and_then (sizes x) f
after_sizes (ok a) (ok b) f h = ap ok (length-append a b) ∙ h (length a)
after_sizes (ok a) (refused r p) f h = h (length a)
after_sizes (refused r p) y f h = refl

short_sizes : (t : Bool) (place : ℕ) → sizes (pick t (refused NoLabel place) (ok [])) ≡ pick t (refused NoLabel place) (ok 0)
short_sizes true place = refl
short_sizes false place = refl

-- what is measured is the length of what is written, or the same refusal
pub measure_is : (u : Under) (place n : ℕ) (keys slots s : List ℕ) → ((i : ℕ) → i < place + n → held_offset slots i + held_size slots i ≤ length s)
    → sizes (write_items u place (held_items place n keys slots s)) ≡ total_size (item_size u keys slots s) (records_after u.kind u.packs) place n
unfolding write_items held_items total_size
measure_is u place zero keys slots s h = short_sizes (records_over u place) place
measure_is u place (suc n) keys slots s h =
    let m : sizes (write_item u place (held_item keys slots s place)) ≡ item_size u keys slots s place = item_sizes u keys slots s place (h place (omega arith)) in
    let r : sizes (write_items u (suc place) (held_items (suc place) n keys slots s)) ≡ total_size (item_size u keys slots s) (records_after u.kind u.packs) (suc place) n =
    measure_is u (suc place) n keys slots s (λ i l. h i (omega arith)) in
    after_sizes (write_item u place (held_item keys slots s place)) (write_items u (suc place) (held_items (suc place) n keys slots s))
    (λ (a : ℕ). plus a (total_size (item_size u keys slots s) (records_after u.kind u.packs) (suc place) n)) (λ a. ap (plus a) r)
    ∙ ap (λ (x : Answer ℕ). and_then x (λ (a : ℕ). plus a (total_size (item_size u keys slots s) (records_after u.kind u.packs) (suc place) n))) m

-- ---- what is written is what is joined

part_joined : (x y : Option (List ℕ)) (v a : List ℕ) (place : ℕ)
    → and_then (or_refuse x NoLabel place) (λ (a : List ℕ). and_then (or_refuse (with_value y v) NoSpan place) (λ (b : List ℕ). ok (a ++ b))) ≡ ok a
    → a ≡ part_of x ++ (part_of y ++ v)
part_joined (some l) (some b) v a place e = cc
part_joined (some l) none v a place e = absurd_number (cc)
part_joined none y v a place e = absurd_number (cc)

-- an item's bytes, part by part
abbrev pub join_item : Under → List ℕ → List ℕ → List ℕ → ℕ → List ℕ
join_item u keys slots s i =
    part_of (write_label u.kind u.root u.tags u.packs i (held_key keys i)) ++ (part_of (length_field u.kind u.packs i (held_value slots s i)) ++ held_value slots s i)

item_joined : (u : Under) (keys slots s : List ℕ) (i : ℕ) (a : List ℕ) → write_item u i (held_item keys slots s i) ≡ ok a → a ≡ join_item u keys slots s i
unfolding write_item
item_joined u keys slots s i a e =
    part_joined (write_label u.kind u.root u.tags u.packs i (held_key keys i)) (length_field u.kind u.packs i (held_value slots s i)) (held_value slots s i) a i
    (rw (span_is u.kind u.packs i (held_value slots s i)) at e)

none_joined : (t : Bool) (place : ℕ) (body : List ℕ) → pick t (refused NoLabel place) (ok []) ≡ ok body → body ≡ []
none_joined true place body e = absurd_number (cc)
none_joined false place body e = cc

then_joined : {P : Type 0} (x y : Answer (List ℕ)) (body : List ℕ) → and_then x (λ (a : List ℕ). append a y) ≡ ok body
    → ((a b : List ℕ) → x ≡ ok a → y ≡ ok b → body ≡ a ++ b → P) → P
then_joined (ok a) (ok b) body e f = f a b refl refl (cc)
then_joined (ok a) (refused r p) body e f = absurd_number (cc)
then_joined (refused r p) y body e f = absurd_number (cc)

-- the bytes written are the joined parts
pub joined_is : (u : Under) (place n : ℕ) (keys slots s body : List ℕ) → write_items u place (held_items place n keys slots s) ≡ ok body
    → body ≡ joined_items (join_item u keys slots s) place n
unfolding write_items held_items joined_items
joined_is u place zero keys slots s body e = none_joined (records_over u place) place body e
joined_is u place (suc n) keys slots s body e =
    then_joined (write_item u place (held_item keys slots s place)) (write_items u (suc place) (held_items (suc place) n keys slots s)) body e
    (λ a b p q r. r ∙ ap (λ (m : List ℕ). m ++ b) (item_joined u keys slots s place a p) ∙ ap (λ (m : List ℕ). join_item u keys slots s place ++ m) (joined_is u (suc place) n keys slots s b q))
