-- Laws of one item as read, and of lists of entries: what `read_item` and `read_items` answer, step by step.
use mathlib.Core.Path.{◌≡◌, refl, sym, ap, subst}
use mathlib.Core.List.{List, [], ◌∷◌, ◌++◌, append-nil, append_assoc}
use mathlib.Core.Bool.{Bool, true, false}
use Prim.Native.Nat.{ℕ, suc, ◌+◌, ◌<◌, ◌≤◌}
use native.Mathlib.Omega.{arith}
use native.Mathlib.Nat.{add-zero, add_assoc}
use native.Mathlib.Decide.{dec_le}
use lib.Dec.{eqb}
use lib.ListN.{length, take, drop, length-drop, drop_of_length-le}
use lib.Seq.{length-take-le}
use borrow.Author.Tests.{eq-eqb, ne_eqb}
use Rattle.std.specs.Prelude.{Option, Some, None, Result, Ok, Err}
use Rattle.klv.specs.Pick.{pick}
use Rattle.klv.proofs.Cases.{absurd_number}
use Rattle.klv.proofs.Lists.{drop_step}
use Rattle.groups.specs.declared.label.Label.{Label}
use Rattle.groups.specs.declared.label.LabelError.{LabelError}
use Rattle.groups.specs.declared.refusal.Refusal.{Refusal}
use Rattle.groups.specs.declared.span.Span.{Span}
use Rattle.groups.specs.Refusal.{Answer, ok, refused}
use Rattle.groups.specs.Kind.{is_pack}
use Rattle.groups.specs.Label.{read_label}
use Rattle.groups.specs.Span.{spanned, read_span}
use Rattle.groups.specs.Read.{Entry, Under, entry, after_span, after_label, read_item, size, cons, over, ended, read_items}
use Rattle.groups.specs.Listing.{keys_of}
use Rattle.groups.specs.Slots.{slots_from}
use Rattle.groups.proofs.item.ItemWithin.{label_within, span_within}

-- ---- one item

after_span_law : (l k : List ℕ) (a : ℕ) (y : Option Span) (place : ℕ) (e : Entry) → ((w n : ℕ) → y ≡ spanned w n → a + w + n ≤ length l) → after_span l k a y place ≡ ok e → size e ≤ length l
after_span_law l k a (Some span) place e h q =
    let b : a + span.width + span.length ≤ length l = h span.width span.length refl in
    let z : entry l k a span.width span.length ≡ e = cc in
    let v : length (take span.length (drop (a + span.width) l)) ≡ span.length = length-take-le span.length (drop (a + span.width) l) (simp length-drop (omega arith)) in
    subst (λ (x : Entry). size x ≤ length l) z (omega arith)
after_span_law l k a None place e h q = absurd_number (cc)

after_label_law : (u : Under) (place : ℕ) (l : List ℕ) (x : Result Label LabelError) (e : Entry) → ((y : Label) → x ≡ Ok y → y.width ≤ length l) → after_label u place l x ≡ ok e → size e ≤ length l
after_label_law u place l (Ok y) e h q =
    let m : y.width ≤ length l = h y refl in
    after_span_law l y.key y.width (read_span u.kind u.packs place (drop y.width l)) place e
    (λ w n f. let b : w + n ≤ length (drop y.width l) = span_within u.kind u.packs place (drop y.width l) w n f in omega (arith, length-drop y.width l))
    q
after_label_law u place l (Err why) e h q = absurd_number (cc)

-- an item that was read stands within the bytes
pub entry_within : (u : Under) (place : ℕ) (l : List ℕ) (e : Entry) → read_item u place l ≡ ok e → size e ≤ length l
unfolding read_item
entry_within u place l e q =
    after_label_law u place l (read_label u.kind u.root u.tags u.packs place l) e
    (λ y f. label_within u.kind u.root u.tags u.packs place l y f) q

span_place : (l k : List ℕ) (a : ℕ) (y : Option Span) (place p : ℕ) (r : Refusal) → after_span l k a y place ≡ refused r p → p ≡ place
span_place l k a (Some span) place p r q = absurd_number (cc)
span_place l k a None place p r q = cc

label_place : (u : Under) (place : ℕ) (l : List ℕ) (x : Result Label LabelError) (p : ℕ) (r : Refusal) → after_label u place l x ≡ refused r p → p ≡ place
label_place u place l (Ok y) p r q = span_place l y.key y.width (read_span u.kind u.packs place (drop y.width l)) place p r q
label_place u place l (Err why) p r q = cc

-- an item is refused at its own place
pub item_place : (u : Under) (place : ℕ) (l : List ℕ) (r : Refusal) (p : ℕ) → read_item u place l ≡ refused r p → p ≡ place
unfolding read_item
item_place u place l r p q = label_place u place l (read_label u.kind u.root u.tags u.packs place l) p r q

-- ---- items, step by step

-- no item may follow
pub read_full : (u : Under) (place : ℕ) (l : List ℕ) → length l ≡ 0 → read_items u 0 place l ≡ ok []
unfolding read_items
read_full u place [] h = refl
read_full u place (b ∷ bs) h = absurd (let f : ⊥ = omega arith in f)

pub read_over : (u : Under) (place : ℕ) (l : List ℕ) → 0 < length l → read_items u 0 place l ≡ refused (over u) place
unfolding read_items
read_over u place [] h = absurd (let f : ⊥ = omega arith in f)
read_over u place (b ∷ bs) h = refl

pub read_ended : (u : Under) (left place : ℕ) (l : List ℕ) → ended u l ≡ true → read_items u (suc left) place l ≡ ok []
unfolding read_items
read_ended u left place l h = rw h

pub read_next : (u : Under) (left place : ℕ) (l : List ℕ) (e : Entry) → ended u l ≡ false → read_item u place l ≡ ok e
    → read_items u (suc left) place l ≡ cons e (read_items u left (suc place) (drop (size e) l))
unfolding read_items
read_next u left place l e h q = rw (h, q)

pub read_refused : (u : Under) (left place : ℕ) (l : List ℕ) (r : Refusal) (p : ℕ) → ended u l ≡ false → read_item u place l ≡ refused r p
    → read_items u (suc left) place l ≡ refused r p
unfolding read_items
read_refused u left place l r p h q = rw (h, q)

-- whether a group ends at a position of a slice
pub ended_at : (u : Under) (s : List ℕ) (at : ℕ) → at ≤ length s → ended u (drop at s) ≡ pick (is_pack u.kind) false (eqb at (length s))
ended_at u s at h =
    elim (dec_le (length s) at) [
      | yes g ↦ let e : at ≡ length s = omega arith in rw (drop_of_length-le s g, eq-eqb at (length s) e)
      | no g ↦ rw (drop_step s at (omega arith), ne_eqb at (length s) (omega arith)) (never (is_pack u.kind))
    ]
  where
    never : (t : Bool) → false ≡ pick t false false
    never true = refl
    never false = refl

-- ---- lists of entries

-- how many bytes entries occupied
abbrev pub total : List Entry → ℕ
total [] = 0
total (e ∷ es) = size e + total es

pub total_more : (es : List Entry) (e : Entry) → total (es ++ (e ∷ [])) ≡ total es + size e
total_more [] e = omega arith
total_more (x ∷ es) e = rw (total_more es e) (sym (add_assoc (size x) (total es) (size e)))

-- entries read before the ones of an answer
abbrev pub prepend : List Entry → Answer (List Entry) → Answer (List Entry)
prepend [] a = a
prepend (e ∷ es) a = cons e (prepend es a)

pub prepend_more : (es : List Entry) (e : Entry) (a : Answer (List Entry)) → prepend es (cons e a) ≡ prepend (es ++ (e ∷ [])) a
prepend_more [] e a = refl
prepend_more (x ∷ es) e a = ap (cons x) (prepend_more es e a)

pub prepend_none : (es : List Entry) → prepend es (ok []) ≡ ok es
prepend_none [] = refl
prepend_none (e ∷ es) = ap (cons e) (prepend_none es)

pub prepend_refused : (es : List Entry) (r : Refusal) (p : ℕ) → prepend es (refused r p) ≡ refused r p
prepend_refused [] r p = refl
prepend_refused (e ∷ es) r p = ap (cons e) (prepend_refused es r p)

pub keys_more : (es : List Entry) (e : Entry) → keys_of (es ++ (e ∷ [])) ≡ keys_of es ++ e.key
unfolding keys_of
keys_more [] e = append-nil e.key
keys_more (x ∷ es) e = rw (keys_more es e, append_assoc)

pub slots_more : (at : ℕ) (es : List Entry) (e : Entry) → slots_from at (es ++ (e ∷ []))
    ≡ slots_from at es ++ ((at + total es + e.label + e.width) ∷ length e.value ∷ e.width ∷ e.label ∷ [])
unfolding slots_from
slots_more at [] e = rw add-zero
slots_more at (x ∷ es) e = rw (slots_more (at + size x) es e, add_assoc at (size x) (total es))
