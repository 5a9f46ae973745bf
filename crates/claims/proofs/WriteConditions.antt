-- Writing and the conditions 12 to 15: a refusal of writing has its condition, and a condition is refused no later.
use mathlib.Core.Path.{◌≡◌, refl, sym, ap, ◌∙◌}
use mathlib.Core.Bool.{true}
use mathlib.Core.List.{List, [], ◌∷◌, ◌++◌, append-nil, append_assoc}
use mathlib.Core.Option.{Option, none, some}
use Prim.Native.Nat.{ℕ, suc, ◌+◌, ◌<◌}
use native.Mathlib.Omega.{arith}
use lib.Dec.{ltb}
use lib.ListN.{length, length-append}
use borrow.Author.Tests.{ltb-true, lt-ltb}
use Rattle.klv.proofs.Cases.{absurd_number, pick_cases, both_true}
use Rattle.groups.specs.declared.refusal.Refusal.{Refusal}
use Rattle.groups.specs.declared.refusal.Refusal.TheVariants.{NoLabel, NoSpan}
use Rattle.groups.specs.Refusal.{refused}
use Rattle.groups.specs.Kind.{is_group, is_pack}
use Rattle.groups.specs.Span.{write_span}
use Rattle.groups.specs.Read.{Item, Under}
use Rattle.groups.specs.Write.{or_refuse, write_item, records_over, write_items}
use Rattle.groups.proofs.regroup.AnswerLaws.{then_refused, append_refused}
use Rattle.groups.proofs.tables.TableLaws.{TagsFit}
use Rattle.claims.specs.Cause.{NoSpanFor}
use Rattle.claims.specs.OutputLength.{label_of}
use Rattle.claims.specs.Condition.{Inputs, Reads, goal, ItemAt, Unlabelled, item_unlabelled, records_are_over, Condition, round, by_item, by_turn}
use Rattle.claims.proofs.NoLabelCauses.{no_label_cause, cause_no_label}
use Rattle.claims.proofs.SpanCauses.{no_span_cause, cause_no_span}
use Rattle.claims.proofs.Order.{RefusedBy, refused_now, refused_as, refused_first_step, answer_cases, sooner}

-- the bytes of the span of the item at place p, if it has one
abbrev span_of : Under → ℕ → Item → Option (List ℕ)
span_of u p x = write_span u.kind u.packs p x.value

-- ---- one item

part_refused : (o : Option (List ℕ)) (q : Refusal) (n : ℕ) (r : Refusal) (p : ℕ) → or_refuse o q n ≡ refused r p → (o ≡ none) × (q ≡ r) × (n ≡ p)
part_refused (some l) q n r p e = absurd_number (cc)
part_refused none q n r p e = (refl, cc, cc)

-- an item is refused at its own place, for want of a label or of a span
pub data Unwritten (u : Under) (n : ℕ) (x : Item) : Refusal → ℕ → Type 0 where
  no_label : label_of u n x ≡ none → Unwritten u n x NoLabel n
  no_span : span_of u n x ≡ none → Unwritten u n x NoSpan n

item_unwritten : (u : Under) (n : ℕ) (x : Item) (r : Refusal) (p : ℕ) → write_item u n x ≡ refused r p → Unwritten u n x r p
unfolding write_item
item_unwritten u n x r p e =
    then_refused (or_refuse (label_of u n x) NoLabel n) _ r p e
    (λ f. let a = part_refused (label_of u n x) NoLabel n r p f in rw (← a.1, ← a.2) (no_label a.0))
    (λ c f g. then_refused (or_refuse (span_of u n x) NoSpan n) _ r p g
    (λ f. let a = part_refused (span_of u n x) NoSpan n r p f in rw (← a.1, ← a.2) (no_span a.0))
    (λ d f h. absurd_number (cc)))

unwritten_round : (u : Under) (n : ℕ) (x : Item) (r : Refusal) (p : ℕ) → Unwritten u n x r p → (round r ≡ 10) × (p ≡ n)
unwritten_round u n x r p (no_label e) = (refl, refl)
unwritten_round u n x r p (no_span e) = (refl, refl)

-- ---- from a refusal to its condition

unwritten_condition : (i : Inputs) (xs before after : List Item) (x : Item) (n : ℕ) (r : Refusal) (p : ℕ) → Reads i xs → xs ≡ before ++ (x ∷ after) → length before ≡ n
    → is_group (goal i).kind ≡ true → Unwritten (goal i) n x r p → Condition i r p
unwritten_condition i xs before after x n r p d e h g (no_label f) =
    (xs, d, item_unlabelled x (record { before = before; after = after; split = e; place = h }) (no_label_cause (goal i) n x.key g f))
unwritten_condition i xs before after x n r p d e h g (no_span f) =
    (xs, x, d, record { before = before; after = after; split = e; place = h }, no_span_cause (goal i) n x.value g f)

-- a refusal among the items has its condition
pub writing_condition : (i : Inputs) (xs before rest : List Item) (n : ℕ) (r : Refusal) (p : ℕ) → Reads i xs → xs ≡ before ++ rest → length before ≡ n
    → is_group (goal i).kind ≡ true → write_items (goal i) n rest ≡ refused r p → Condition i r p
unfolding write_items
writing_condition i xs before [] n r p d e h o q =
    pick_cases (records_over (goal i) n) _ _ (refused r p) q
    (λ t f.
    let a : NoLabel ≡ r = cc in
    let z : n ≡ p = cc in
    let b = both_true (is_pack (goal i).kind) (ltb n (goal i).packs.count) t in
    let m : n ≡ length xs = sym (rw e (rw append-nil h)) in
    rw (← a, ← z) (xs, d, records_are_over b.0 m (ltb-true n (goal i).packs.count b.1)))
    (λ t f. absurd_number (cc))
writing_condition i xs before (x ∷ rest) n r p d e h o q =
    then_refused (write_item (goal i) n x) _ r p q
    (λ f. unwritten_condition i xs before rest x n r p d e h o (item_unwritten (goal i) n x r p f))
    (λ a f g. writing_condition i xs (before ++ (x ∷ [])) rest (suc n) r p d (rw append_assoc e) (rw length-append (omega arith)) o (append_refused a _ r p g))

-- ---- from a condition to a refusal

pub writing_round : (u : Under) (n : ℕ) (xs : List Item) (r : Refusal) (p : ℕ) → write_items u n xs ≡ refused r p → round r ≡ 10
unfolding write_items
writing_round u n [] r p q = pick_cases (records_over u n) _ _ (refused r p) q (λ t f. let h : NoLabel ≡ r = cc in rw (← h)) (λ t f. absurd_number (cc))
writing_round u n (x ∷ xs) r p q =
    then_refused (write_item u n x) _ r p q
    (λ f. (unwritten_round u n x r p (item_unwritten u n x r p f)).0)
    (λ a f g. writing_round u (suc n) xs r p (append_refused a _ r p g))

-- an item before others is refused, or the others are
item_then : (u : Under) (n : ℕ) (x : Item) (xs : List Item) (r : Refusal) (p : ℕ) → round r ≡ 10 → n < p → RefusedBy (write_items u (suc n) xs) r p
    → RefusedBy (write_items u n (x ∷ xs)) r p
unfolding write_items
item_then u n x xs r p a h w =
    answer_cases (write_item u n x)
    (λ b e. record { refusal = w.refusal; place = w.place; is = rw (e, w.is); no_later = w.no_later })
    (λ q m e.
    let o = unwritten_round u n x q m (item_unwritten u n x q m e) in
    record { refusal = q; place = m; is = rw e; no_later = sooner (by_item (o.0 ∙ sym a) (omega (arith, o.1))) })

-- an item after others
item_refuses : (u : Under) (n : ℕ) (before after : List Item) (x : Item) (r : Refusal) (p : ℕ) → round r ≡ 10 → n + length before ≡ p → RefusedBy (write_item u p x) r p
    → RefusedBy (write_items u n (before ++ (x ∷ after))) r p
unfolding write_items
item_refuses u n [] after x r p a h w =
    let z : n ≡ p = omega arith in
    refused_first_step (write_item u n x) _ r p (rw z w)
item_refuses u n (b ∷ before) after x r p a h w =
    item_then u n b (before ++ (x ∷ after)) r p a (omega arith) (item_refuses u (suc n) before after x r p a (omega arith) w)

label_refuses : (u : Under) (p : ℕ) (x : Item) → label_of u p x ≡ none → RefusedBy (write_item u p x) NoLabel p
unfolding write_item
label_refuses u p x e = refused_now _ NoLabel p (rw e)

span_refuses : (u : Under) (p : ℕ) (x : Item) → span_of u p x ≡ none → RefusedBy (write_item u p x) NoSpan p
unfolding write_item
span_refuses u p x e = go (label_of u p x) refl
  where
    go : (o : Option (List ℕ)) → label_of u p x ≡ o → RefusedBy (write_item u p x) NoSpan p
    go none f = record { refusal = NoLabel; place = p; is = rw f; no_later = sooner (by_turn refl refl (omega arith)) }
    go (some l) f = refused_now _ NoSpan p (rw (f, e))

-- records of a pack are over
over_refuses : (u : Under) (n : ℕ) (xs : List Item) (p : ℕ) → is_pack u.kind ≡ true → n + length xs ≡ p → p < u.packs.count → RefusedBy (write_items u n xs) NoLabel p
unfolding write_items
over_refuses u n [] p k h c =
    let z : n ≡ p = omega arith in
    refused_now _ NoLabel p (rw (k, z, lt-ltb p u.packs.count c))
over_refuses u n (x ∷ xs) p k h c = item_then u n x xs NoLabel p refl (omega arith) (over_refuses u (suc n) xs p k (omega arith) c)

-- 12
pub no_label_refuses : (u : Under) (xs : List Item) (p : ℕ) → TagsFit u.tags → Unlabelled u xs p → RefusedBy (write_items u 0 xs) NoLabel p
no_label_refuses u xs p f (item_unlabelled x t e) =
    let w = item_refuses u 0 t.before t.after x NoLabel p refl (omega (arith, t.place)) (label_refuses u p x (cause_no_label u p x.key f e)) in
    refused_as (write_items u 0 xs) _ NoLabel p (ap (write_items u 0) t.split) w
no_label_refuses u xs p f (records_are_over k h c) = over_refuses u 0 xs p k (omega arith) c

-- 13
pub no_span_refuses : (u : Under) (xs : List Item) (x : Item) (p : ℕ) → ItemAt xs p x → NoSpanFor u p x.value → RefusedBy (write_items u 0 xs) NoSpan p
no_span_refuses u xs x p t e =
    let w = item_refuses u 0 t.before t.after x NoSpan p refl (omega (arith, t.place)) (span_refuses u p x (cause_no_span u p x.value e)) in
    refused_as (write_items u 0 xs) _ NoSpan p (ap (write_items u 0) t.split) w
