-- Module `set`: each fact in the shape of its need.
use mathlib.Core.Path.{◌≡◌, refl, sym, ap, ◌∙◌}
use mathlib.Core.Bool.{Bool, true, false}
use mathlib.Core.List.{List}
use Prim.Native.Nat.{ℕ, ◌+◌, ◌-◌, ◌^◌, ◌<◌, ◌≤◌}
use native.Mathlib.Omega.{arith}
use Rattle.std.specs.Prelude.{Result, Ok, Err, MatchResult, IsErrAnd}
use Rattle.std.proofs.lemmas.Result.{err_from_is_err_and}
use mir.Val.{Fits}
use mir.Syntax.{w64}
use lib.ListN.{length, get_or, take, drop, length-drop}
use lib.Seq.{take_all}
use borrow.Author.Tests.{ne_eqb}
use Rattle.klv.specs.Key.{is_key}
use Rattle.klv.specs.Layout.{read_as, written}
use Rattle.klv.specs.declared.layout.Form.TheVariants.{Ber}
use Rattle.klv.specs.Number.{Read}
use Rattle.klv.proofs.Cases.{test_cases, absurd_number}
use Rattle.klv.proofs.LayoutLaws.{read_within, written_most}
use Rattle.groups.specs.declared.kind.Kind.{Kind}
use Rattle.groups.specs.declared.kind.Kind.TheVariants.{NoGroup}
use Rattle.groups.specs.declared.item.Item.{Item}
use Rattle.groups.specs.declared.item.SetItem.{SetItem}
use Rattle.groups.specs.declared.item.NoItem.{NoItem}
use Rattle.groups.specs.declared.refusal.Refusal.{Refusal}
use Rattle.groups.specs.Refusal as plain
use Rattle.groups.specs.Kind.{kind_of}
use Rattle.groups.specs.Listing.{start, width_of}
use Rattle.groups.specs.Tables.{table_of, tag_table_ok}
use Rattle.groups.specs.Read.{Entry, head_of, read_item, set_under, set_item, with_row}
use Rattle.groups.proofs.item.EntryStands.{item_stands}
use Rattle.deep.specs.Tree.{opens}
use Rattle.deep.specs.Walk.{framed, MemberOf}
use Rattle.deep.proofs.StepLaws.{head_read, member_item, no_item}

-- ---- the kind of an item's key

other_kind : (k : List ℕ) → (get_or k 4 0 ≡ 2 → ⊥) → kind_of k ≡ NoGroup
unfolding kind_of
other_kind k h = test_cases (is_key k) (λ t. rw (t, ne_eqb (get_or k 4 0) 2 h)) (λ t. rw t)

-- a key with another byte 5 is that of no set
pub other_byte : (k : List ℕ) → (get_or k 4 0 ≡ 2 → ⊥) → false ≡ opens (kind_of k)
other_byte k h = sym (ap opens (other_kind k h))

pub kind_opens : (k : List ℕ) (kd : Kind) (b : Bool) → kd ≡ kind_of k → b ≡ opens kd → b ≡ opens (kind_of k)
kind_opens k kd b e f = f ∙ ap opens e

-- ---- where the items of a group begin

width_within : (l : List ℕ) (n : Read) → read_as Ber l ≡ n → width_of n ≤ length l
width_within l (Ok m) e = (read_within Ber l m.value m.width e).1
width_within l (Err x) e = omega arith

pub start_fits : (group : List ℕ) (n : ℕ) → n ≡ start group → length group < 2 ^ 64 → Fits w64 n
unfolding start
start_fits group n e b = omega (arith, width_within (drop 16 group) (read_as Ber (drop 16 group)) refl, length-drop 16 group)

-- ---- the size of an item in universal form

pub framed_is : (n w : ℕ) → w ≡ length (written Ber n) → 16 + w + n ≡ framed n
unfolding framed
framed_is n w e = rw e

pub front_fits : (n w : ℕ) → w ≡ length (written Ber n) → Fits w64 (16 + w)
front_fits n w e = omega (arith, written_most Ber n)

pub framed_fits : (n w : ℕ) → w ≡ length (written Ber n) → n ≤ 4294967295 → Fits w64 (16 + w + n)
framed_fits n w e h = omega (arith, written_most Ber n)

-- ---- an item at an offset of a set

rest_is : (s : List ℕ) (at : ℕ) → take (length s - at) (drop at s) ≡ drop at s
rest_is s at = take_all (length s - at) (drop at s) (simp length-drop (omega arith))

item_most : (l : List ℕ) (i : Item) (y : plain.Answer Entry) → ((e : Entry) → y ≡ plain.ok e → e.label + e.width + length e.value ≤ length l)
    → head_of y ≡ Ok i → i.label + i.width + i.length ≤ length l
item_most l i (plain.ok e) f h =
    let z : record { label = e.label; width = e.width; length = length e.value; key = e.key } ≡ i = cc in
    rw (← z) (f e refl)
item_most l i (plain.refused r p) f h = absurd_number (cc)

item_with : (h : Result Item Refusal) (row : ℕ) (f : SetItem) → with_row h row ≡ Ok f → h ≡ Ok f.item
item_with (Ok i) row f e = let z : record { item = i; row = row } ≡ f = cc in ap (λ (x : SetItem). Ok x.item) z
item_with (Err r) row f e = absurd_number (cc)

none_with : (h : Result Item Refusal) (row : ℕ) (f : NoItem) → with_row h row ≡ Err f → h ≡ Err f.why
none_with (Ok i) row f e = absurd_number (cc)
none_with (Err r) row f e = let z : record { why = r; row = row } ≡ f = cc in ap (λ (x : NoItem). Err x.why) z

-- y is x with the cause alone of a refusal
abbrev pub Caused : Result SetItem NoItem → Result SetItem Refusal → Type 0
Caused x y = MatchResult x (λ f. y ≡ Ok f) (λ f. IsErrAnd y (λ r. r ≡ f.why))

pub item_kept : (x : Result SetItem NoItem) (y : Result SetItem Refusal) (f : SetItem) → Caused x y → y ≡ Ok f → x ≡ Ok f
item_kept (Ok g) y f m e = let z : g ≡ f = cc in rw z
item_kept (Err g) y f m e = let p = err_from_is_err_and y m in let q : y ≡ Err p.0 = p.1 in absurd_number (cc)

cause_kept : (x : Result SetItem NoItem) (y : Result SetItem Refusal) (r : Refusal) → Caused x y → y ≡ Err r → (f : NoItem) × (x ≡ Err f) × (f.why ≡ r)
cause_kept (Ok g) y r m e = let q : y ≡ Ok g = m in absurd_number (cc)
cause_kept (Err g) y r m e = let p = err_from_is_err_and y m in let q : y ≡ Err p.0 = p.1 in let z : p.0 ≡ r = cc in (g, refl, sym p.2 ∙ z)

module _ (kd : Kind) (tags s : List ℕ) (at guess row : ℕ) (x : Result SetItem NoItem)
    (e : x ≡ with_row (head_of (set_item kd (table_of tags) guess (take (length s - at) (drop at s)))) row) (o : opens kd ≡ true) (v : tag_table_ok tags ≡ true) (h : at ≤ length s) where
  head_is : (place : ℕ) → x ≡ with_row (head_of (read_item (set_under kd (table_of tags)) place (drop at s))) row
  head_is place = (rw (rest_is s at) at e) ∙ ap (λ z. with_row z row) (head_read kd tags guess place (drop at s) o v)

  module _ (f : SetItem) (q : x ≡ Ok f) where
    item_is : (place : ℕ) → head_of (read_item (set_under kd (table_of tags)) place (drop at s)) ≡ Ok f.item
    item_is place = item_with (head_of (read_item (set_under kd (table_of tags)) place (drop at s))) row f (sym (head_is place) ∙ q)

    pub member_most : at + f.item.label + f.item.width + f.item.length ≤ length s
    member_most =
        let m : f.item.label + f.item.width + f.item.length ≤ length (drop at s) =
        item_most (drop at s) f.item (read_item (set_under kd (table_of tags)) 0 (drop at s)) (λ i z. (item_stands (set_under kd (table_of tags)) 0 (drop at s) i z).lies) (item_is 0) in
        omega (arith, length-drop at s)

    pub member_label_fits : length s < 2 ^ 64 → Fits w64 (at + f.item.label)
    member_label_fits b = omega (arith, member_most)

    pub member_from_fits : length s < 2 ^ 64 → Fits w64 (at + f.item.label + f.item.width)
    member_from_fits b = omega (arith, member_most)

    pub member_end_fits : length s < 2 ^ 64 → Fits w64 (at + f.item.label + f.item.width + f.item.length)
    member_end_fits b = omega (arith, member_most)

    pub member_read : MemberOf (set_under kd (table_of tags)) s at
        (Ok (record { from = at + f.item.label + f.item.width; end = at + f.item.label + f.item.width + f.item.length; key = f.item.key; width = f.item.width; row = f.row }))
    member_read =
        record {
          row = f.row;
          reads = λ place. member_item at f.row f.item (read_item (set_under kd (table_of tags)) place (drop at s)) (item_is place);
        }

  -- what the exit of `?` returns
  pub member_none : (y : Result SetItem Refusal) (r : Refusal) → Caused x y → y ≡ Err r → MemberOf (set_under kd (table_of tags)) s at (Err r)
  member_none y r m q =
      let w = cause_kept x y r m q in
      record {
        row = 0;
        reads = λ place.
            no_item at 0 r (read_item (set_under kd (table_of tags)) place (drop at s))
            (none_with (head_of (read_item (set_under kd (table_of tags)) place (drop at s))) row w.0 (sym (head_is place) ∙ w.1) ∙ ap Err w.2);
      }
