-- One item of a set, from its bytes to its place in the tree.
use mathlib.Core.Path.{◌≡◌, refl, sym, ap, ◌∙◌}
use mathlib.Core.Bool.{Bool, true, false, false≢true}
use mathlib.Core.List.{List, []}
use Prim.Native.Nat.{ℕ, zero, suc, ◌+◌, ◌-◌, ◌<◌, ◌≤◌}
use native.Mathlib.Omega.{arith}
use native.Mathlib.Numerals.{add-one}
use Rattle.std.specs.Prelude.{Result, Ok, Err}
use lib.ListN.{length, take, drop, length-drop, drop_of_length-le}
use lib.Seq.{drop-drop}
use Rattle.klv.proofs.Cases.{absurd_number}
use Rattle.klv.proofs.Lists.{drop_step}
use Rattle.groups.specs.declared.kind.Kind.{Kind}
use Rattle.groups.specs.declared.kind.Kind.TheVariants.{Universal, Global, Local, Variable, Defined, NoGroup}
use Rattle.groups.specs.declared.item.Item.{Item}
use Rattle.groups.specs.declared.refusal.Refusal.{Refusal}
use Rattle.groups.specs.declared.refusal.Refusal.TheVariants.{Count}
use Rattle.groups.specs.Refusal as plain
use Rattle.groups.specs.Kind.{kind_of, is_pack}
use Rattle.groups.specs.Root.{root_for}
use Rattle.groups.specs.Tables.{table_of, tag_table_ok}
use Rattle.groups.specs.Read.{Entry, Under, under, head_of, read_item, set_under, set_item, ended, size}
use Rattle.groups.proofs.item.EntryStands.{item_stands}
use Rattle.groups.proofs.item.SetFacts.{set_item_universal, set_item_local}
use Rattle.deep.specs.declared.fault.Fault.TheVariants.{Plain, TooDeep, Unread}
use Rattle.deep.specs.declared.set.Member.{Member}
use Rattle.deep.specs.Tree.{Answer, ok, refused, opens, Tree, end, Inside, too_deep, grow, tree_of, nested, inside_of}
use Rattle.deep.specs.Walk.{set_tree, member_of, MemberOf, reads, inside_reads}
use Rattle.deep.proofs.SetItems.{set_width, set_key_law}
use Rattle.deep.proofs.TreeLaws.{tree_end}

-- ---- what a set is read under

root_none : (kd : Kind) (k : List ℕ) → opens kd ≡ true → root_for kd k ≡ []
root_none Universal k o = refl
root_none (Global y) k o = absurd (false≢true o)
root_none (Local x y) k o = refl
root_none (Variable y) k o = absurd (false≢true o)
root_none Defined k o = absurd (false≢true o)
root_none NoGroup k o = absurd (false≢true o)

pub set_under_law : (k tags : List ℕ) → opens (kind_of k) ≡ true → under k tags [] ≡ set_under (kind_of k) (table_of tags)
unfolding under
set_under_law k tags o = rw (root_none (kind_of k) k o)

pub set_no_pack : (kd : Kind) → opens kd ≡ true → is_pack kd ≡ false
set_no_pack Universal o = refl
set_no_pack (Global y) o = absurd (false≢true o)
set_no_pack (Local x y) o = refl
set_no_pack (Variable y) o = absurd (false≢true o)
set_no_pack Defined o = absurd (false≢true o)
set_no_pack NoGroup o = absurd (false≢true o)

-- what stands inside an item that is a set
pub inside_set : (deeper : ℕ) (tags k v : List ℕ) → opens (kind_of k) ≡ true → (deeper ≡ 0 → ⊥) → inside_of deeper tags k v ≡ nested (set_tree (deeper - 1) tags (kind_of k) v)
unfolding inside_of
inside_set zero tags k v o n = absurd (n refl)
inside_set (suc deeper) tags k v o n = let z : suc deeper - 1 ≡ deeper = omega arith in rw (o, set_under_law k tags o, z)

pub inside_deep : (deeper : ℕ) (tags k v : List ℕ) → opens (kind_of k) ≡ true → deeper ≡ 0 → inside_of deeper tags k v ≡ too_deep
unfolding inside_of
inside_deep zero tags k v o n = rw o
inside_deep (suc deeper) tags k v o n = absurd (let f : ⊥ = omega arith in f)

pub nested_reads : (a : Answer Tree) → inside_reads (nested a) ≡ true → reads a ≡ true
nested_reads (ok t) h = refl
nested_reads (refused TooDeep p) h = absurd (false≢true h)
nested_reads (refused Unread p) h = absurd (false≢true h)
nested_reads (refused (Plain r) p) h = absurd (false≢true h)

pub set_opens : (k : List ℕ) (kind : Kind) (b : Bool) → kind ≡ kind_of k → b ≡ opens (kind_of k) → b ≡ true → opens kind ≡ true
set_opens k kind b e f g = ap opens e ∙ sym f ∙ g

-- ---- an item as the code reads it

pub head_read : (kd : Kind) (tags : List ℕ) (guess place : ℕ) (l : List ℕ) → opens kd ≡ true → tag_table_ok tags ≡ true
    → head_of (set_item kd (table_of tags) guess l) ≡ head_of (read_item (set_under kd (table_of tags)) place l)
head_read Universal tags guess place l o v = set_item_universal (table_of tags) guess place l
head_read (Global y) tags guess place l o v = absurd (false≢true o)
head_read (Local x y) tags guess place l o v = set_item_local x y tags guess place l v
head_read (Variable y) tags guess place l o v = absurd (false≢true o)
head_read Defined tags guess place l o v = absurd (false≢true o)
head_read NoGroup tags guess place l o v = absurd (false≢true o)

pub member_item : (at row : ℕ) (i : Item) (y : plain.Answer Entry) → head_of y ≡ Ok i
    → Ok (record { from = at + i.label + i.width; end = at + i.label + i.width + i.length; key = i.key; width = i.width; row = row }) ≡ member_of at row y
member_item at row i (plain.ok e) h =
    let z : record { label = e.label; width = e.width; length = length e.value; key = e.key } ≡ i = cc in
    rw (← z)
member_item at row i (plain.refused r p) h = absurd_number (cc)

pub no_item : (at row : ℕ) (r : Refusal) (y : plain.Answer Entry) → head_of y ≡ Err r → Err r ≡ member_of at row y
no_item at row r (plain.ok e) h = absurd_number (cc)
no_item at row r (plain.refused q p) h = let z : q ≡ r = cc in rw z

-- ---- an item that was read

pub record Stepped (u : Under) (s : List ℕ) (at place from to w : ℕ) (k : List ℕ) : Type 0 where
  pub item : Entry
  pub read : read_item u place (drop at s) ≡ plain.ok item
  pub key : item.key ≡ k
  pub value : item.value ≡ take (to - from) (drop from s)
  pub starts : at + item.label + item.width ≡ from
  pub ends : from + length item.value ≡ to
  pub after : at < from
  pub inside : to ≤ length s
  pub sixteen : length k ≡ 16
  pub wide : item.width ≡ w

stepped_by : (kd : Kind) (tags s : List ℕ) (at place row : ℕ) (m : Member) (y : plain.Answer Entry) → opens kd ≡ true
    → read_item (set_under kd (table_of tags)) place (drop at s) ≡ y → Ok m ≡ member_of at row y → at ≤ length s → Stepped (set_under kd (table_of tags)) s at place m.from m.end m.width m.key
stepped_by kd tags s at place row m (plain.ok e) o r b h =
    let d : length (drop at s) ≡ length s - at = length-drop at s in
    let t = item_stands (set_under kd (table_of tags)) place (drop at s) e r in
    let x : m ≡ record { from = at + e.label + e.width; end = at + e.label + e.width + length e.value; key = e.key; width = e.width; row = row } = cc in
    let f : m.from ≡ at + e.label + e.width = ap (λ (n : Member). n.from) x in
    let g : m.end ≡ at + e.label + e.width + length e.value = ap (λ (n : Member). n.end) x in
    let q : m.key ≡ e.key = ap (λ (n : Member). n.key) x in
    let i : m.end - m.from ≡ length e.value = omega arith in
    let v : drop (e.label + e.width) (drop at s) ≡ drop m.from s = drop-drop (e.label + e.width) at s ∙ ap (λ (x : ℕ). drop x s) (let z : at + (e.label + e.width) ≡ m.from = omega arith in z) in
    record {
      item = e;
      read = r;
      key = sym q;
      value = rw (i, ← v) t.value;
      starts = sym f;
      ends = omega arith;
      after = omega (arith, set_width (set_under kd (table_of tags)) place (drop at s) e o r);
      inside = omega (arith, t.lies);
      sixteen = rw q (set_key_law (set_under kd (table_of tags)) tags place (drop at s) e o refl r);
      wide = sym (ap (λ (n : Member). n.width) x);
    }
stepped_by kd tags s at place row m (plain.refused r p) o q b h = absurd_number (cc)

pub stepped : (kd : Kind) (tags s : List ℕ) (at place : ℕ) (got : Result Member Refusal) (m : Member) → MemberOf (set_under kd (table_of tags)) s at got → got ≡ Ok m → opens kd ≡ true → at ≤ length s
    → Stepped (set_under kd (table_of tags)) s at place m.from m.end m.width m.key
stepped kd tags s at place got m b e o h =
    stepped_by kd tags s at place b.row m (read_item (set_under kd (table_of tags)) place (drop at s)) o refl (sym e ∙ b.reads place) h

-- no item
refused_by : (at row : ℕ) (r : Refusal) (y : plain.Answer Entry) → Err r ≡ member_of at row y → (p : ℕ) × (y ≡ plain.refused r p)
refused_by at row r (plain.ok e) b = absurd_number (cc)
refused_by at row r (plain.refused q p) b = let z : q ≡ r = cc in (p, rw z)

pub member_refused : (u : Under) (s : List ℕ) (at place : ℕ) (r : Refusal) (got : Result Member Refusal) → MemberOf u s at got → got ≡ Err r
    → (p : ℕ) × (read_item u place (drop at s) ≡ plain.refused r p)
member_refused u s at place r got b e = refused_by at b.row r (read_item u place (drop at s)) (sym e ∙ b.reads place)

-- ---- the tree, from a position of the set on

-- the items from a position on, the next of them at a place
abbrev pub tree_from : (List ℕ → List ℕ → Inside) → Under → List ℕ → ℕ → ℕ → Answer Tree
tree_from look u s at place = tree_of look u (256 - place) place (drop at s)

-- the same of a set of this kind, below which `deeper` levels may be opened
abbrev pub tree_at : ℕ → List ℕ → Kind → List ℕ → ℕ → ℕ → Answer Tree
tree_at deeper tags kd s at place = tree_from (inside_of deeper tags) (set_under kd (table_of tags)) s at place

not_ended : (u : Under) (s : List ℕ) (at : ℕ) → at < length s → ended u (drop at s) ≡ false
not_ended u s at h = rw (drop_step s at h)

pub tree_step : (look : List ℕ → List ℕ → Inside) (u : Under) (s : List ℕ) (at place from to w : ℕ) (k : List ℕ) (i : Stepped u s at place from to w k) → at < length s → place < 256
    → tree_from look u s at place ≡ grow place i.item (look k (take (to - from) (drop from s))) (tree_from look u s to (place + 1))
unfolding tree_of
tree_step look u s at place from to w k i h l =
    let n : 256 - place ≡ suc (256 - (place + 1)) = omega arith in
    let e : at + size i.item ≡ to = omega (arith, i.starts, i.ends) in
    let d : drop (size i.item) (drop at s) ≡ drop to s = drop-drop (size i.item) at s ∙ ap (λ (x : ℕ). drop x s) e in
    rw (n, not_ended u s at h, i.read, d, i.key, i.value, add-one place)

pub tree_stops : (look : List ℕ → List ℕ → Inside) (u : Under) (s : List ℕ) (at place : ℕ) (r : Refusal) (p : ℕ) → read_item u place (drop at s) ≡ plain.refused r p → at < length s → place < 256
    → tree_from look u s at place ≡ refused (Plain r) p
unfolding tree_of
tree_stops look u s at place r p e h l =
    let n : 256 - place ≡ suc (256 - (place + 1)) = omega arith in
    rw (n, not_ended u s at h, e)

pub tree_full : (look : List ℕ → List ℕ → Inside) (u : Under) (s : List ℕ) (at place : ℕ) → at < length s → place ≡ 256 → tree_from look u s at place ≡ refused (Plain Count) place
unfolding tree_of
tree_full look u s at place h e =
    let n : 256 - place ≡ 0 = omega arith in
    rw (n, drop_step s at h)

pub tree_done : (look : List ℕ → List ℕ → Inside) (u : Under) (s : List ℕ) (at place : ℕ) → is_pack u.kind ≡ false → length s ≤ at → tree_from look u s at place ≡ ok end
tree_done look u s at place o h = rw (drop_of_length-le s h) (tree_end look u (256 - place) place o)
