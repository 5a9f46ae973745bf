-- The length of an item that was read stands right after its label: under BER lengths it reads there as the value's length, in
-- as many bytes as the entry says.
use mathlib.Core.Path.{◌≡◌, refl, sym, ap, ◌∙◌}
use mathlib.Core.Bool.{true}
use mathlib.Core.List.{List, ◌++◌}
use Prim.Native.Nat.{ℕ, ◌+◌, ◌≤◌}
use native.Mathlib.Omega.{arith}
use lib.ListN.{length, take, drop, length-drop}
use lib.Seq.{length-take-le, drop-drop, drop-append-le}
use Rattle.std.specs.Prelude.{Option, Some, None, Result, Ok, Err}
use Rattle.klv.specs.Layout.{read_as, is_ber}
use Rattle.klv.specs.declared.layout.Form.TheVariants.{Ber}
use Rattle.klv.specs.Number.{Value}
use Rattle.klv.specs.declared.layout.Form.{Form}
use Rattle.klv.proofs.Cases.{absurd_number}
use Rattle.klv.proofs.LongerLaws.{ber_form, length_told, length_goes_on}
use Rattle.groups.specs.declared.kind.Kind.{Kind}
use Rattle.groups.specs.declared.kind.Kind.TheVariants.{Universal, Global, Local, Variable, Defined, NoGroup}
use Rattle.groups.specs.declared.label.Label.{Label}
use Rattle.groups.specs.declared.label.LabelError.{LabelError}
use Rattle.groups.specs.declared.span.Span as spans
use Rattle.groups.specs.Refusal.{ok}
use Rattle.groups.specs.Tables.{Table}
use Rattle.groups.specs.Label.{read_label}
use Rattle.groups.specs.Span.{spanned, within, ber_lengths, read_span}
use Rattle.groups.specs.Read.{Entry, Under, entry, after_span, after_label, read_item}
use Rattle.groups.specs.Listing.{Sent}
use Rattle.groups.proofs.item.ItemWithin.{label_within, span_within}
use Rattle.groups.proofs.span.WithinLaws.{span_told_law}
use Rattle.groups.proofs.item.EntryStands.{item_stands}

-- a length in a layout that is BER
form_sent : (f : Form) (l : List ℕ) (w n : ℕ) → is_ber f ≡ true → within (length l) (read_as f l) ≡ spanned w n → read_as Ber l ≡ Value n w
form_sent f l w n b e = let q : read_as f l ≡ Value n w = (span_told_law (length l) w n (read_as f l) e).0 in rw (ber_form f b) at q

span_sent : (kd : Kind) (packs : Table) (place : ℕ) (l : List ℕ) (w n : ℕ) → ber_lengths kd ≡ true → read_span kd packs place l ≡ spanned w n → read_as Ber l ≡ Value n w
unfolding read_span ber_lengths
span_sent Universal packs place l w n b e = (span_told_law (length l) w n (read_as Ber l) e).0
span_sent (Global y) packs place l w n b e = form_sent y.form l w n b e
span_sent (Local t y) packs place l w n b e = form_sent y.form l w n b e
span_sent (Variable y) packs place l w n b e = form_sent y.form l w n b e
span_sent Defined packs place l w n b e = absurd_number (cc)
span_sent NoGroup packs place l w n b e = absurd_number (cc)

after_span_law : (u : Under) (place : ℕ) (l k : List ℕ) (a : ℕ) (y : Option spans.Span) (e : Entry) → a ≤ length l → ber_lengths u.kind ≡ true
    → read_span u.kind u.packs place (drop a l) ≡ y → after_span l k a y place ≡ ok e → read_as Ber (drop e.label l) ≡ Value (length e.value) e.width
after_span_law u place l k a (Some span) e h b r f =
    let g : entry l k a span.width span.length ≡ e = cc in
    let s : span.width + span.length ≤ length (drop a l) = span_within u.kind u.packs place (drop a l) span.width span.length r in
    let t : a + span.width + span.length ≤ length l = omega (arith, length-drop a l) in
    let m : length (take span.length (drop (a + span.width) l)) ≡ span.length = length-take-le span.length (drop (a + span.width) l) (simp length-drop (omega arith)) in
    rw (← g, m) (span_sent u.kind u.packs place (drop a l) span.width span.length b r)
after_span_law u place l k a None e h b r f = absurd_number (cc)

after_label_law : (u : Under) (place : ℕ) (l : List ℕ) (x : Result Label LabelError) (e : Entry) → ber_lengths u.kind ≡ true
    → read_label u.kind u.root u.tags u.packs place l ≡ x → after_label u place l x ≡ ok e
    → read_as Ber (drop e.label l) ≡ Value (length e.value) e.width
after_label_law u place l (Ok y) e b r h =
    after_span_law u place l y.key y.width (read_span u.kind u.packs place (drop y.width l)) e
    (label_within u.kind u.root u.tags u.packs place l y r) b refl h
after_label_law u place l (Err why) e b r h = absurd_number (cc)

-- the length of an item that was read
item_sent : (u : Under) (place : ℕ) (l : List ℕ) (e : Entry) → ber_lengths u.kind ≡ true → read_item u place l ≡ ok e
    → read_as Ber (drop e.label l) ≡ Value (length e.value) e.width
unfolding read_item
item_sent u place l e b h =
    after_label_law u place l (read_label u.kind u.root u.tags u.packs place l) e b refl h

-- what it tells, where the item stands in s: l are bytes of s, from an offset on
pub sent_at : (u : Under) (place : ℕ) (s l rest : List ℕ) (at : ℕ) (e : Entry) → drop at s ≡ l ++ rest → read_item u place l ≡ ok e → Sent u.kind s at e
sent_at u place s l rest at e p h b =
    let r : read_as Ber (drop e.label l) ≡ Value (length e.value) e.width = item_sent u place l e b h in
    let a : e.label ≤ length l = omega (arith, (item_stands u place l e h).lies) in
    let d : drop (at + e.label) s ≡ drop e.label l ++ rest = sym (drop-drop e.label at s) ∙ ap (drop e.label) p ∙ drop-append-le e.label l rest a in
    let q : read_as Ber (drop (at + e.label) s) ≡ Value (length e.value) e.width = ap (read_as Ber) d ∙ length_goes_on (drop e.label l) rest (length e.value) e.width r in
    length_told (drop (at + e.label) s) (length e.value) e.width q ∙ rw b
