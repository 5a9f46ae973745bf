-- `walk::walk_item` and `plus`: what stands inside an item, and the total; each fact in the shape of its need.
use mathlib.Core.Path.{◌≡◌, refl, sym, ap, ◌∙◌}
use mathlib.Core.Bool.{Bool, true, false, false≢true}
use mathlib.Core.List.{List}
use Prim.Native.Nat.{ℕ, ◌+◌, ◌-◌, ◌≤◌}
use native.Mathlib.Omega.{arith}
use Rattle.std.specs.Prelude.{Result, Ok, Err}
use native.Mathlib.Numerals.{add-one}
use mir.Val.{Fits}
use mir.Syntax.{w64}
use lib.ListN.{length, set}
use Rattle.klv.specs.declared.layout.Form.TheVariants.{Ber}
use Rattle.klv.proofs.Cases.{absurd_number}
use Rattle.klv.proofs.LayoutLaws.{written_most}
use Rattle.groups.specs.declared.kind.Kind.{Kind}
use Rattle.groups.specs.Kind.{kind_of}
use Rattle.groups.specs.declared.refusal.Refused.{Refused}
use Rattle.deep.specs.declared.fault.Fault.{Fault}
use Rattle.deep.specs.declared.fault.Fault.TheVariants.{Plain, TooDeep, Unread}
use Rattle.deep.specs.declared.walk.Walked.{Walked}
use Rattle.deep.specs.Tree.{Answer, ok, refused, opens, Tree, closed, too_deep, nested, inside_of}
use Rattle.deep.specs.Deep.{universal_bytes, count_of}
use Rattle.deep.specs.Walk.{set_tree, framed, set_sizes, noted, walked, Walks, InsideWalks, Small, total_plus, inner_fault}
use Rattle.deep.proofs.TreeLaws.{closed_inside}
use Rattle.deep.proofs.StepLaws.{inside_set, inside_deep}
use Rattle.deep.proofs.GrowLaws.{items, fails, items_same, items_are}
use Rattle.deep.proofs.NoteFacts.{noted_none, noted_more, noted_last}
use Rattle.deep.proofs.WalkBounds.{walk_most}
use Rattle.deep.proofs.StepLaws.{set_opens}

module _ (deeper : ℕ) (tags k v : List ℕ) (place set' : ℕ) (d : List ℕ) (inset : Bool) (f : inset ≡ opens (kind_of k)) where
  pub item_closed : inset ≡ false → InsideWalks place (length v) (inside_of deeper tags k v) set' d d (Ok (record { size = length v; count = 0; sets = 0 }))
  item_closed g =
      let c : inside_of deeper tags k v ≡ closed = closed_inside deeper tags k v (sym f ∙ g) in
      record { answer = rw c; sizes = λ h. rw c (sym (noted_none d set')) }

  pub item_deep : inset ≡ true → deeper ≡ 0 → InsideWalks place (length v) (inside_of deeper tags k v) set' d d (Err (record { why = TooDeep; place = place }))
  item_deep g h =
      let c : inside_of deeper tags k v ≡ too_deep = inside_deep deeper tags k v (sym f ∙ g) h in
      record { answer = rw c; sizes = λ z. absurd (false≢true (rw c at z)) }

  module _ (kd : Kind) (x : List ℕ) (r : Result Walked (Refused Fault)) (w : Walks (set_tree (deeper - 1) tags kd v) (set' + 1) d x r) (e : kd ≡ kind_of k) (g : inset ≡ true) (n : deeper ≡ 0 → ⊥) where
    inside_is : inside_of deeper tags k v ≡ nested (set_tree (deeper - 1) tags kd v)
    inside_is = rw e (inside_set deeper tags k v (sym f ∙ g) n)

    by_tree : (m : Walked) (y : List ℕ) (a : Answer Tree) → set_tree (deeper - 1) tags kd v ≡ a → r ≡ Ok m → y ≡ set x set' m.size
        → InsideWalks place (length v) (nested a) set' d y (items m.size m.count (m.sets + 1))
    by_tree m y (ok t) z i j =
        let p = items_are (length (universal_bytes t)) (count_of t) (length (set_sizes t)) m (sym (ap walked z) ∙ sym w.answer ∙ i) in
        let s : x ≡ noted d (set' + 1) (set_sizes t) = (rw z at (w.sizes (rw z refl))) in
        record {
          answer = items_same (sym p.0) (sym p.1) (omega (arith, p.2));
          sizes = λ h. j ∙ ap (λ (l : List ℕ). set l set' m.size) s ∙ noted_last d set' (set' + 1) m.size (set_sizes t) (omega arith)
              ∙ (rw (p.0, add-one set') (sym (noted_more d set' m.size (set_sizes t))));
        }
    by_tree m y (refused q p) z i j = absurd_number (let u : fails q p ≡ Ok m = sym (ap walked z) ∙ sym w.answer ∙ i in cc)

    pub item_nested : (m : Walked) (y : List ℕ) → r ≡ Ok m → y ≡ set x set' m.size
        → InsideWalks place (length v) (inside_of deeper tags k v) set' d y (Ok (record { size = m.size; count = m.count; sets = m.sets + 1 }))
    item_nested m y i j = rw inside_is (by_tree m y (set_tree (deeper - 1) tags kd v) refl i j)

    why_is : (f : Fault) (p : ℕ) (y : Refused Fault) → set_tree (deeper - 1) tags kd v ≡ refused f p → r ≡ Err y → f ≡ y.why
    why_is f p y h i =
        let u : fails f p ≡ Err y = sym (ap walked h) ∙ sym w.answer ∙ i in
        let z : record { why = f; place = p } ≡ y = cc in
        ap (λ (a : Refused Fault). a.why) z

    by_fault : (y : Refused Fault) (z : Fault) (a : Answer Tree) → set_tree (deeper - 1) tags kd v ≡ a → r ≡ Err y → z ≡ inner_fault y.why
        → InsideWalks place (length v) (nested a) set' d x (fails z place)
    by_fault y z (ok t) h i j = absurd_number (let u : items (length (universal_bytes t)) (count_of t) (length (set_sizes t)) ≡ Err y = sym (ap walked h) ∙ sym w.answer ∙ i in cc)
    by_fault y z (refused TooDeep q) h i j =
        let u : TooDeep ≡ y.why = why_is TooDeep q y h i in
        record { answer = (rw (← u) at (ap (λ (a : Fault). fails a place) j)); sizes = λ t. absurd (false≢true t) }
    by_fault y z (refused Unread q) h i j =
        let u : Unread ≡ y.why = why_is Unread q y h i in
        record { answer = (rw (← u) at (ap (λ (a : Fault). fails a place) j)); sizes = λ t. absurd (false≢true t) }
    by_fault y z (refused (Plain a) q) h i j =
        let u : Plain a ≡ y.why = why_is (Plain a) q y h i in
        record { answer = (rw (← u) at (ap (λ (a : Fault). fails a place) j)); sizes = λ t. absurd (false≢true t) }

    pub item_fails : (y : Refused Fault) (z : Fault) → r ≡ Err y → z ≡ inner_fault y.why → InsideWalks place (length v) (inside_of deeper tags k v) set' d x (Err (record { why = z; place = place }))
    item_fails y z i j = rw inside_is (by_fault y z (set_tree (deeper - 1) tags kd v) refl i j)

    pub nested_size : (m : Walked) → r ≡ Ok m → set' + (1 + length v) ≤ 65536 → m.size ≤ 4294967295
    nested_size m i h = omega (arith, (walk_most (deeper - 1) tags kd v (set' + 1) m d x r w i (set_opens k kd inset e f g)).size)

    pub nested_sets : (m : Walked) → r ≡ Ok m → set' + (1 + length v) ≤ 65536 → Fits w64 (m.sets + 1)
    nested_sets m i h = omega (arith, (walk_most (deeper - 1) tags kd v (set' + 1) m d x r w i (set_opens k kd inset e f g)).sets)

pub nested_room : (set' n : ℕ) → set' + (1 + n) ≤ 65536 → set' + 1 + n ≤ 65536
nested_room set' n h = omega arith

pub nested_fits : (set' n : ℕ) → set' + (1 + n) ≤ 65536 → Fits w64 (set' + 1)
nested_fits set' n h = omega arith

-- ---- the total

module _ (t w : Walked) (h : Small t w) where
  framed_small : framed w.size ≤ 25 + w.size
  unfolding framed
  framed_small = omega (arith, written_most Ber w.size)

  pub total_inner : w.size ≤ 4294967295
  total_inner = omega (arith, h.inner)

  pub total_size_law : (f : ℕ) → f ≡ framed w.size → Fits w64 (t.size + f)
  total_size_law f e = omega (arith, h.total, h.inner, framed_small)

  pub total_more : Fits w64 (1 + w.count)
  total_more = omega (arith, h.more)

  pub total_count : Fits w64 (t.count + (1 + w.count))
  total_count = omega (arith, h.more, h.counted)

  pub total_sets : Fits w64 (t.sets + w.sets)
  total_sets = omega (arith, h.more_sets, h.opened_sets)

  pub total_is : (f : ℕ) → f ≡ framed w.size → record { size = t.size + f; count = t.count + (1 + w.count); sets = t.sets + w.sets } ≡ total_plus t w
  total_is f e = rw e
