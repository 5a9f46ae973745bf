-- Trees that can be written and read again: within depth and count, keys that are keys, lengths that BER holds. Every tree
-- that was read is one.
use mathlib.Core.Path.{◌≡◌, refl, sym, ◌∙◌, subst}
use mathlib.Core.Bool.{true, false, false≢true}
use mathlib.Core.List.{List, []}
use Prim.Native.Nat.{ℕ, zero, suc, ◌*◌, ◌≤◌}
use native.Mathlib.Omega.{arith}
use lib.ListN.{length, drop, length-drop}
use Rattle.klv.specs.Key.{is_key}
use Rattle.klv.specs.Layout.{largest_of}
use Rattle.klv.specs.declared.layout.Form.TheVariants.{Ber}
use Rattle.klv.proofs.LargestLaws.{largest_ber}
use Rattle.groups.specs.Kind.{kind_of}
use Rattle.groups.specs.Tables.{tag_table_ok, pack_table_ok, size_ok, all_below}
use Rattle.groups.specs.Read.{Entry, Under, under, size}
use Rattle.groups.proofs.item.EntryLaws.{entry_within}
use Rattle.groups.proofs.read.ReadGood.{item_good}
use Rattle.groups.proofs.label.LabelBack.{Fit, fit_under}
use Rattle.deep.specs.Tree.{ok, opens, Tree, end, leaf, nest, opened, tree_of, inside_of}
use Rattle.deep.specs.Deep.{universal_bytes}
use Rattle.deep.proofs.TreeLaws.{tree_none, tree_told, inside_none, inside_opened, inside_closed}
use Rattle.deep.proofs.TreeBounds.{tree_size}
use Rattle.deep.proofs.SetItems.{under_kind, under_tags}
use Rattle.deep.proofs.StepLaws.{set_no_pack}

-- a tree with at most `left` items, below which `deeper` levels are opened
pub data Fine : ℕ → ℕ → Tree → Type 0 where
  fine_end : {deeper left : ℕ} → Fine deeper left end
  fine_leaf : {deeper left : ℕ} {e : Entry} {t : Tree} → is_key e.key ≡ true → opens (kind_of e.key) ≡ false → length e.value ≤ largest_of Ber
      → Fine deeper left t → Fine deeper (suc left) (leaf e t)
  fine_nest : {deeper left d : ℕ} {e : Entry} {inner t : Tree} → deeper ≡ suc d → opens (kind_of e.key) ≡ true → length (universal_bytes inner) ≤ largest_of Ber
      → Fine d 256 inner → Fine deeper left t → Fine deeper (suc left) (nest e inner t)

-- no records are a valid table
pub packs_none : pack_table_ok [] ≡ true
unfolding pack_table_ok size_ok all_below
packs_none = refl

-- what the items of a nested set are, for a set below which `deeper` levels are opened
abbrev FineInside : ℕ → List ℕ → Type 0
FineInside deeper tags =
    (k v : List ℕ) (inner : Tree) → inside_of deeper tags k v ≡ opened inner → length v ≤ 65536
    → (d : ℕ) × (deeper ≡ suc d) × (opens (kind_of k) ≡ true) × (length (universal_bytes inner) ≤ largest_of Ber) × Fine d 256 inner

items_fine : (deeper : ℕ) (tags : List ℕ) (u : Under) (left place : ℕ) (l : List ℕ) (t : Tree) → FineInside deeper tags → Fit u → opens u.kind ≡ true
    → length l ≤ 65536 → tree_of (inside_of deeper tags) u left place l ≡ ok t → Fine deeper left t
items_fine deeper tags u zero place l t f g o n q =
    subst (λ (x : Tree). Fine deeper zero x) (sym (tree_none (inside_of deeper tags) u place l t q)) fine_end
items_fine deeper tags u (suc left) place l t f g o n q =
    tree_told (inside_of deeper tags) u left place l t q
    (λ b z. subst (λ (x : Tree). Fine deeper (suc left) x) (sym z) fine_end)
    (λ e s r c a z.
    let w : size e ≤ length l = entry_within u place l e r in
    subst (λ (x : Tree). Fine deeper (suc left) x) (sym z)
    (fine_leaf
    (item_good u place l e g (λ p. absurd (false≢true (sym (set_no_pack u.kind o) ∙ p))) r)
    (inside_closed deeper tags e.key e.value c)
    (rw largest_ber (omega arith))
    (items_fine deeper tags u left (suc place) (drop (size e) l) s f g o (omega (arith, length-drop (size e) l)) a)))
    (λ e inner s r c a z.
    let w : size e ≤ length l = entry_within u place l e r in
    let i = f e.key e.value inner c (omega arith) in
    subst (λ (x : Tree). Fine deeper (suc left) x) (sym z)
    (fine_nest i.1 i.2 i.3 i.4
    (items_fine deeper tags u left (suc place) (drop (size e) l) s f g o (omega (arith, length-drop (size e) l)) a)))

-- a tree that was read is fine
pub read_fine : (deeper : ℕ) (tags k : List ℕ) (left place : ℕ) (l : List ℕ) (t : Tree) → tag_table_ok tags ≡ true → opens (kind_of k) ≡ true → length l ≤ 65536
    → tree_of (inside_of deeper tags) (under k tags []) left place l ≡ ok t → Fine deeper left t
read_fine zero tags k left place l t g o n q =
    items_fine zero tags (under k tags []) left place l t
    (λ c v inner e h. inside_none tags c v inner e)
    (fit_under k tags [] g packs_none) (rw (under_kind k tags []) o) n q
read_fine (suc deeper) tags k left place l t g o n q =
    items_fine (suc deeper) tags (under k tags []) left place l t
    (λ c v inner e h.
    let p = inside_opened deeper tags c v inner e in
    let b : length (universal_bytes inner) ≤ 26 * length v = tree_size deeper tags (under c tags []) 256 0 v inner (rw (under_kind c tags []) p.0) (under_tags c tags []) p.1 in
    (deeper, refl, p.0, rw largest_ber (omega arith), read_fine deeper tags c 256 0 v inner g p.0 h p.1))
    (fit_under k tags [] g packs_none) (rw (under_kind k tags []) o) n q
