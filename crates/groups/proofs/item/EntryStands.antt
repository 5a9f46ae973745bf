-- An entry that was read stands at the front of the bytes: its label, its length and its value one after another.
use mathlib.Core.Path.{◌≡◌, refl}
use mathlib.Core.List.{List}
use Prim.Native.Nat.{ℕ, ◌+◌, ◌≤◌}
use native.Mathlib.Omega.{arith}
use lib.ListN.{length, take, drop, length-drop}
use lib.Seq.{length-take-le}
use Rattle.std.specs.Prelude.{Option, Some, None, Result, Ok, Err}
use Rattle.klv.proofs.Cases.{absurd_number}
use Rattle.groups.specs.declared.label.Label.{Label}
use Rattle.groups.specs.declared.label.LabelError.{LabelError}
use Rattle.groups.specs.declared.span.Span as spans
use Rattle.groups.specs.Refusal.{ok}
use Rattle.groups.specs.Label.{read_label}
use Rattle.groups.specs.Span.{read_span}
use Rattle.groups.specs.Read.{Entry, Under, entry, after_span, after_label, read_item, size}
use Rattle.groups.proofs.item.ItemWithin.{label_within, span_within}

-- an entry at the front of a list: it lies within it, and its value stands after its label and its length
pub record Stands (l : List ℕ) (e : Entry) : Type 0 where
  pub lies : size e ≤ length l
  pub value : e.value ≡ take (length e.value) (drop (e.label + e.width) l)

entry_stands : (l k : List ℕ) (a w n : ℕ) → a + w + n ≤ length l → Stands l (entry l k a w n)
entry_stands l k a w n h =
    let m : length (take n (drop (a + w) l)) ≡ n = length-take-le n (drop (a + w) l) (simp length-drop (omega arith)) in
    record { lies = rw m h; value = rw m }

span_stands : (u : Under) (place : ℕ) (l k : List ℕ) (a : ℕ) (y : Option spans.Span) (e : Entry) → a ≤ length l → read_span u.kind u.packs place (drop a l) ≡ y
    → after_span l k a y place ≡ ok e → Stands l e
span_stands u place l k a (Some span) e h r f =
    let g : entry l k a span.width span.length ≡ e = cc in
    rw (← g) (entry_stands l k a span.width span.length (omega (arith, span_within u.kind u.packs place (drop a l) span.width span.length r, length-drop a l)))
span_stands u place l k a None e h r f = absurd_number (cc)

label_stands : (u : Under) (place : ℕ) (l : List ℕ) (x : Result Label LabelError) (e : Entry)
    → read_label u.kind u.root u.tags u.packs place l ≡ x → after_label u place l x ≡ ok e → Stands l e
label_stands u place l (Ok y) e r h =
    span_stands u place l y.key y.width (read_span u.kind u.packs place (drop y.width l)) e
    (label_within u.kind u.root u.tags u.packs place l y r) refl h
label_stands u place l (Err why) e r h = absurd_number (cc)

pub item_stands : (u : Under) (place : ℕ) (l : List ℕ) (e : Entry) → read_item u place l ≡ ok e → Stands l e
unfolding read_item
item_stands u place l e h = label_stands u place l (read_label u.kind u.root u.tags u.packs place l) e refl h
