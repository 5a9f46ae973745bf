-- Output length = 16 + width of the outer length + sum over items of tag width, length width and value length.
use mathlib.Core.Path.{◌≡◌, ap}
use mathlib.Core.Bool.{true}
use mathlib.Core.List.{List, [], ◌∷◌, ◌++◌}
use mathlib.Core.Option.{Option, some}
use Prim.Native.Nat.{ℕ, suc, ◌+◌}
use native.Mathlib.Omega.{arith}
use lib.Dec.{leb}
use lib.ListN.{length, length-append}
use Rattle.klv.specs.Layout.{written, largest_of}
use Rattle.klv.specs.declared.layout.Form.{Form}
use Rattle.klv.specs.declared.layout.Form.TheVariants.{Ber}
use Rattle.klv.proofs.Cases.{pick_cases, absurd_number}
use Rattle.groups.specs.declared.kind.Kind.{Kind}
use Rattle.groups.specs.declared.kind.Kind.TheVariants.{Universal, Global, Local, Variable, Defined, NoGroup}
use Rattle.groups.specs.declared.refusal.Refusal.TheVariants.{NoLabel, NoSpan}
use Rattle.groups.specs.Refusal.{ok}
use Rattle.groups.specs.Kind.{kind_of, is_group}
use Rattle.groups.specs.Tables.{Table}
use Rattle.groups.specs.Label.{write_label}
use Rattle.groups.specs.Span.{element_ok, measured, write_span}
use Rattle.groups.specs.Read.{Entry, Item, Under, under, read, items}
use Rattle.groups.specs.Write.{or_refuse, write_item, records_over, write_items, write}
use Rattle.groups.specs.Regroup.{regroup_of}
use Rattle.groups.proofs.regroup.AnswerLaws.{then_ok, part_ok, append_ok}
use Rattle.groups.proofs.kind.KindLaws.{group_size}
use Rattle.groups.proofs.regroup.Accepted.{Accepted, accepted_told}
use Rattle.claims.specs.Cause.{length_layout}
use Rattle.claims.specs.OutputLength.{label_of, width_of, length_width, items_length, output_length}

-- ---- what is written has them

measured_length : (f : Form) (v b : List ℕ) → measured f v ≡ some b → length b ≡ length (written f (length v)) + length v
measured_length f v b e =
    pick_cases (leb (length v) (largest_of f)) _ _ (some b) e
    (λ t g. let h : b ≡ written f (length v) ++ v = cc in rw h (length-append (written f (length v)) v))
    (λ t g. absurd_number (cc))

span_length : (k : Kind) (packs : Table) (place : ℕ) (v b : List ℕ) → write_span k packs place v ≡ some b → length b ≡ length_width (length_layout k) (length v) + length v
unfolding write_span
span_length Universal packs place v b e = measured_length Ber v b e
span_length (Global y) packs place v b e = measured_length y.form v b e
span_length (Local t y) packs place v b e = measured_length y.form v b e
span_length (Variable y) packs place v b e = measured_length y.form v b e
span_length Defined packs place v b e =
    pick_cases (element_ok (packs.row place).number v) _ _ (some b) e
    (λ t g. let h : b ≡ v = cc in rw h (omega arith))
    (λ t g. absurd_number (cc))
span_length NoGroup packs place v b e = absurd_number (cc)

pub item_length : (u : Under) (place : ℕ) (x : Item) (b : List ℕ) → write_item u place x ≡ ok b → length b ≡ width_of (label_of u place x) + length_width (length_layout u.kind) (length x.value) + length x.value
unfolding write_item
item_length u place x b e =
    let o : Option (List ℕ) = write_label u.kind u.root u.tags u.packs place x.key in
    let q : Option (List ℕ) = write_span u.kind u.packs place x.value in
    let l = then_ok (or_refuse o NoLabel place) _ b e in
    let s = then_ok (or_refuse q NoSpan place) _ b l.2 in
    let m : o ≡ some l.0 = part_ok o NoLabel place l.0 l.1 in
    let n : q ≡ some s.0 = part_ok q NoSpan place s.0 s.1 in
    let h : b ≡ l.0 ++ s.0 = cc in
    let i : width_of o ≡ length l.0 = ap width_of m in
    rw h (omega (arith, length-append l.0 s.0, span_length u.kind u.packs place x.value s.0 n))

pub items_length_law : (u : Under) (place : ℕ) (xs : List Item) (body : List ℕ) → write_items u place xs ≡ ok body → length body ≡ items_length u place xs
unfolding write_items items_length
items_length_law u place [] body e =
    pick_cases (records_over u place) _ _ (ok body) e (λ t f. absurd_number (cc)) (λ t f. let h : body ≡ [] = cc in rw h)
items_length_law u place (x ∷ xs) body e =
    let a = then_ok (write_item u place x) _ body e in
    let b = append_ok a.0 (write_items u (suc place) xs) body a.2 in
    rw b.2 (omega (arith, length-append a.0 b.0, item_length u place x a.0 a.1, items_length_law u (suc place) xs b.0 b.1))

-- ---- the output

-- a written group is the target, the outer length, and the items
pub write_told : (tags packs target : List ℕ) (xs : List Item) (w : List ℕ) → write tags packs target xs ≡ ok w
    → (body : List ℕ) × (write_items (under target tags packs) 0 xs ≡ ok body) × (w ≡ target ++ (written Ber (length body) ++ body))
unfolding write
write_told tags packs target xs w e =
    let b = then_ok (write_items (under target tags packs) 0 xs) _ w e in
    (b.0, b.1, cc)

pub write_length : (tags packs target : List ℕ) (xs : List Item) (w : List ℕ) → is_group (kind_of target) ≡ true → write tags packs target xs ≡ ok w
    → length w ≡ output_length (under target tags packs) xs
unfolding output_length
write_length tags packs target xs w g e =
    let b = write_told tags packs target xs w e in
    let n : length b.0 ≡ items_length (under target tags packs) 0 xs = items_length_law (under target tags packs) 0 xs b.0 b.1 in
    rw (← n)
    (omega (
      arith,
      ap length b.2,
      length-append target (written Ber (length b.0) ++ b.0),
      length-append (written Ber (length b.0)) b.0,
      group_size target g,
    ))

-- of the call
pub output_length_law : (tags packs target s : List ℕ) (room : ℕ) (w : List ℕ) (es : List Entry) → regroup_of tags packs target s room ≡ ok w → read tags packs s ≡ ok es
    → length w ≡ output_length (under target tags packs) (items es)
output_length_law tags packs target s room w es e r =
    let a : Accepted tags packs target s room w = accepted_told tags packs target s room w e in
    let h : a.entries ≡ es = cc in
    write_length tags packs target (items es) w a.group (rw h at a.writes)
