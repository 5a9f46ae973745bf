-- The entries of a group fill it: the first begins after the outer length, each next where the one before ends, and the
-- last ends with the group.
use mathlib.Core.Path.{◌≡◌, refl}
use mathlib.Core.Bool.{true}
use mathlib.Core.List.{List, [], ◌∷◌}
use Prim.Native.Nat.{ℕ, zero, suc, ◌+◌, ◌-◌, ◌≤◌}
use native.Mathlib.Omega.{arith}
use lib.Dec.{eqb}
use lib.ListN.{length, take, drop, length-drop}
use lib.Seq.{drop-drop}
use Rattle.klv.specs.Layout.{read_as}
use Rattle.klv.specs.declared.layout.Form.TheVariants.{Ber}
use Rattle.klv.specs.Number.{Read}
use Rattle.std.specs.Prelude.{Ok, Err}
use Rattle.klv.proofs.Cases.{pick_cases, absurd_number}
use Rattle.klv.proofs.LayoutLaws.{read_within}
use Rattle.groups.specs.declared.refusal.Refusal.TheVariants.{OuterLength}
use Rattle.groups.specs.Refusal.{Answer, ok}
use Rattle.groups.specs.Read.{Entry, Under, under, most, read_item, size, ended, read_items, after_length, read_body, read}
use Rattle.groups.specs.Listing.{width_of, start}
use Rattle.groups.proofs.regroup.AnswerLaws.{check_ok, then_ok, cons_ok}
use Rattle.groups.proofs.regroup.Accepted.{read_told}
use Rattle.groups.proofs.item.EntryLaws.{total}
use Rattle.groups.proofs.item.EntryStands.{Stands, item_stands}

-- ---- entries one after another

-- entries that fill a list: each stands at the front of what those before it leave, and the last leaves nothing
abbrev pub Fills : List ℕ → List Entry → Type 0
Fills l [] = l ≡ []
Fills l (e ∷ es) = Stands l e × Fills (drop (size e) l) es

ended_none : (u : Under) (l : List ℕ) → ended u l ≡ true → l ≡ []
ended_none u [] e = refl
ended_none u (b ∷ bs) e = absurd_number (cc)

pub items_fill : (u : Under) (left place : ℕ) (l : List ℕ) (es : List Entry) → read_items u left place l ≡ ok es → Fills l es
unfolding read_items
items_fill u zero place [] es e = let h : es ≡ [] = cc in rw h refl
items_fill u zero place (b ∷ bs) es e = absurd_number (cc)
items_fill u (suc left) place l es e =
    pick_cases (ended u l) _ _ (ok es) e
    (λ t f. let h : es ≡ [] = cc in rw h (ended_none u l t))
    (λ t f.
    let r = then_ok (read_item u place l) _ es f in
    let c = cons_ok r.0 _ es r.2 in
    rw c.2 (item_stands u place l r.0 r.1, items_fill u left (suc place) (drop (size r.0) l) c.0 c.1))

-- ---- the sum of their sizes

pub fills_total : (l : List ℕ) (es : List Entry) → Fills l es → total es ≡ length l
fills_total l [] h = rw h
fills_total l (e ∷ es) h =
    let g : total es ≡ length (drop (size e) l) = fills_total (drop (size e) l) es h.1 in
    omega (arith, length-drop (size e) l, h.0.lies)

-- ---- a group

-- the items of a group stand from its start on, and are all of it
pub record Body (tags packs s : List ℕ) (es : List Entry) : Type 0 where
  pub lies : start s ≤ length s
  pub items : read_items (under (take 16 s) tags packs) (most (under (take 16 s) tags packs)) 0 (drop (start s) s) ≡ ok es

length_told : (s : List ℕ) (n : Read) (go : List ℕ → Answer (List Entry)) (es : List Entry) → read_as Ber (drop 16 s) ≡ n → after_length (drop 16 s) n go ≡ ok es
    → (16 + width_of n ≤ length s) × (go (drop (16 + width_of n) s) ≡ ok es)
length_told s (Ok n) go es r e =
    let c = check_ok (eqb n.value (length (drop 16 s) - n.width)) OuterLength _ es e in
    (omega (arith, read_within Ber (drop 16 s) n.value n.width r, length-drop 16 s), rw drop-drop at c.1)
length_told s (Err x) go es r e = absurd_number (cc)

pub read_body_law : (tags packs s : List ℕ) (es : List Entry) → read tags packs s ≡ ok es → Body tags packs s es
unfolding read_body start
read_body_law tags packs s es e =
    let u : Under = under (take 16 s) tags packs in
    let h = length_told s (read_as Ber (drop 16 s)) (λ (body : List ℕ). read_items u (most u) 0 body) es refl (read_told tags packs s es e).body in
    record { lies = h.0; items = h.1 }

pub group_fills : (tags packs s : List ℕ) (es : List Entry) → read tags packs s ≡ ok es → Fills (drop (start s) s) es
group_fills tags packs s es e =
    let u : Under = under (take 16 s) tags packs in
    items_fill u (most u) 0 (drop (start s) s) es (read_body_law tags packs s es e).items

-- the header and the entries are the whole group
pub group_total : (tags packs s : List ℕ) (es : List Entry) → read tags packs s ≡ ok es → start s + total es ≡ length s
group_total tags packs s es e =
    omega (
      arith,
      fills_total (drop (start s) s) es (group_fills tags packs s es e),
      length-drop (start s) s,
      (read_body_law tags packs s es e).lies,
    )
