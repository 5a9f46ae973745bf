-- Module `write`: the items of one kind, measured and put, are those of the definition of all kinds; each fact in the shape of its need.
use mathlib.Core.Path.{◌≡◌, refl, sym, ap, ◌∙◌}
use mathlib.Core.List.{List, [], ◌∷◌}
use mathlib.Core.Bool.{true, false≢true}
use Prim.Native.Nat.{ℕ, ◌+◌, ◌<◌, ◌≤◌}
use native.Mathlib.Omega.{arith}
use mathlib.Core.Logic.{inl, inr}
use types.Run.{OneOf}
use denote.Enum.Declared.{tag_of}
use Rattle.std.specs.Prelude.{Result, Ok}
use Rattle.groups.specs.contracts.kind.Kind.{the_type}
use lib.ListN.{length}
use Rattle.klv.specs.Compact.{compact_of}
use Rattle.klv.specs.declared.layout.Layout.{Layout}
use Rattle.klv.specs.declared.compact.Compact.{Compact}
use Rattle.klv.proofs.Cases.{absurd_number}
use Rattle.groups.specs.declared.refusal.Refusal.{Refusal}
use Rattle.groups.specs.declared.refusal.Refused.{Refused}
use Rattle.groups.specs.declared.kind.Kind.{Kind}
use Rattle.groups.specs.declared.kind.Kind.TheVariants.{Universal, Global, Local, Variable, Defined, NoGroup}
use Rattle.groups.specs.declared.root.Group.{Group}
use Rattle.groups.specs.Refusal.{Answer, ok}
use Rattle.groups.specs.Kind.{is_group}
use Rattle.groups.specs.Root.{root_bytes}
use Rattle.groups.specs.Tables.{Table, table_of}
use Rattle.groups.specs.Label.{write_label}
use Rattle.groups.specs.Read.{under_of}
use Rattle.groups.specs.Slots.{Holding, held_key, held_size}
use Rattle.groups.specs.Arrays.{Measures, Put, Tagging, is_other, item_bytes, item_size, joined_items, keyed_item, keyed_size, label_bytes, length_bytes, length_field, measure_items, measured_of, none_after, other_label, other_size, parts_size, records_after, tagged_item, tagged_size, total_size}
use Rattle.groups.proofs.label.LabelPuts.{key_long}
use Rattle.groups.proofs.span.PartFacts.{own_form, own_compact}
use Rattle.groups.proofs.write.SizeFacts.{ber_fits}
use Rattle.groups.proofs.slots.SlotFacts.{held_few, same_all}
use Rattle.groups.proofs.slots.HeldItems.{value_size}
use Rattle.groups.proofs.write.Totals.{total_alike, joined_alike}

-- ---- the kinds that are neither universal nor local

-- x is the number of none of these two variants
one_of : (x : ℕ) → OneOf (1 ∷ 3 ∷ 4 ∷ 5 ∷ []) x → (x ≡ 0 → ⊥) × (x ≡ 2 → ⊥)
one_of x (inl e) = (λ z. omega arith, λ z. omega arith)
one_of x (inr (inl e)) = (λ z. omega arith, λ z. omega arith)
one_of x (inr (inr (inl e))) = (λ z. omega arith, λ z. omega arith)
one_of x (inr (inr (inr e))) = (λ z. omega arith, λ z. omega arith)

-- the last arm of a `match` on a kind, after universal and local
pub other_kind : (kd : Kind) → OneOf (1 ∷ 3 ∷ 4 ∷ 5 ∷ []) (tag_of the_type kd) → is_group kd ≡ true → is_other kd ≡ true
other_kind Universal h g = absurd ((one_of 0 h).0 refl)
other_kind (Global y) h g = refl
other_kind (Local x y) h g = absurd ((one_of 2 h).1 refl)
other_kind (Variable y) h g = refl
other_kind Defined h g = refl
other_kind NoGroup h g = absurd (false≢true g)

-- their labels ask nothing of the tag table
other_label_law : (kd : Kind) (root : List ℕ) (tags packs : Table) (place : ℕ) (k : List ℕ) → is_other kd ≡ true → other_label kd root packs place k ≡ write_label kd root tags packs place k
unfolding write_label
other_label_law Universal root tags packs place k o = absurd (false≢true o)
other_label_law (Global y) root tags packs place k o = refl
other_label_law (Local x y) root tags packs place k o = absurd (false≢true o)
other_label_law (Variable y) root tags packs place k o = refl
other_label_law Defined root tags packs place k o = refl
other_label_law NoGroup root tags packs place k o = absurd (false≢true o)

-- ---- measuring, by kind

pub known_compact : (a : Layout) (x : Compact) → x ≡ compact_of a.form → x ≡ compact_of x.layout.form
known_compact a x e = own_compact a.form x e

keyed_size_law : (g : Group) (tags packs keys slots s : List ℕ) (n i : ℕ) → g.kind ≡ Universal → Holding n keys slots s → i < n → keyed_size slots i ≡ item_size (under_of g tags packs) keys slots s i
unfolding parts_size write_label length_field
keyed_size_law g tags packs keys slots s n i u h l = rw (u, value_size slots s i (h.spans.inside i l), ber_fits (held_size slots i) (held_few n i keys slots s h l), key_long keys i (omega (arith, h.keys_in)))

no_records : (g : Group) (packs : Table) → g.kind ≡ Universal → records_after g.kind packs ≡ none_after
no_records g packs u = rw u

pub universal_measured : (g : Group) (tags packs keys slots s : List ℕ) (n r : ℕ) → g.kind ≡ Universal → Holding n keys slots s
    → ok r ≡ total_size (keyed_size slots) none_after 0 n → Measures g tags packs keys slots slots s n (Ok r)
universal_measured g tags packs keys slots s n r u h e =
    let q : total_size (keyed_size slots) none_after 0 n ≡ total_size (item_size (under_of g tags packs) keys slots s) none_after 0 n =
    total_alike (keyed_size slots) (item_size (under_of g tags packs) keys slots s) none_after 0 n (λ i l. keyed_size_law g tags packs keys slots s n i u h (omega arith)) in
    record {
      answer = ap measured_of (e ∙ q ∙ ap (λ (after : ℕ → Answer ℕ). total_size (item_size (under_of g tags packs) keys slots s) after 0 n) (sym (no_records g (table_of packs) u)));
      same = same_all slots;
      noted = λ size c y z k. absurd_number (cc);
    }

tagged_size_law : (g : Group) (tags packs keys slots s : List ℕ) (a b : Layout) (n i : ℕ) → g.kind ≡ Local a b → Holding n keys slots s → i < n
    → tagged_size (table_of tags) a.form b.form keys slots i ≡ item_size (under_of g tags packs) keys slots s i
unfolding write_label length_field
tagged_size_law g tags packs keys slots s a b n i u h l = rw (u, value_size slots s i (h.spans.inside i l))

local_records : (g : Group) (packs : Table) (a b : Layout) → g.kind ≡ Local a b → records_after g.kind packs ≡ none_after
local_records g packs a b u = rw u

pub local_measured : (g : Group) (tags packs keys d x s : List ℕ) (n : ℕ) (a b : Layout) (p q : Compact) (r : Result ℕ (Refused Refusal)) → g.kind ≡ Local a b → p ≡ compact_of a.form → q ≡ compact_of b.form
    → Holding n keys d s → Tagging (table_of tags) p.layout.form q.layout.form keys d x n r → Measures g tags packs keys d x s n r
local_measured g tags packs keys d x s n a b p q r u e f h m =
    let t : Tagging (table_of tags) a.form b.form keys d x n r = rw (own_form a.form p e, own_form b.form q f) at m in
    let w : total_size (tagged_size (table_of tags) a.form b.form keys d) none_after 0 n ≡ total_size (item_size (under_of g tags packs) keys d s) none_after 0 n =
    total_alike (tagged_size (table_of tags) a.form b.form keys d) (item_size (under_of g tags packs) keys d s) none_after 0 n (λ i l. tagged_size_law g tags packs keys d s a b n i u h (omega arith)) in
    record {
      answer = t.answer ∙ ap measured_of (w ∙ ap (λ (after : ℕ → Answer ℕ). total_size (item_size (under_of g tags packs) keys d s) after 0 n) (sym (local_records g (table_of packs) a b u)));
      same = t.same;
      noted = λ size c y z k i l. let v : a ≡ y = (let o : Local a b ≡ Local y z = sym u ∙ k in cc) in rw (← v) (t.noted size c i l);
    }

pub other_measured : (g : Group) (tags packs keys slots s : List ℕ) (n : ℕ) (r : Result ℕ (Refused Refusal)) → is_other g.kind ≡ true
    → r ≡ measured_of (total_size (other_size g (table_of packs) keys slots s) (records_after g.kind (table_of packs)) 0 n) → Measures g tags packs keys slots slots s n r
other_measured g tags packs keys slots s n r o e =
    let w : total_size (other_size g (table_of packs) keys slots s) (records_after g.kind (table_of packs)) 0 n ≡ measure_items (under_of g tags packs) n keys slots s =
    total_alike (other_size g (table_of packs) keys slots s) (item_size (under_of g tags packs) keys slots s) (records_after g.kind (table_of packs)) 0 n
    (λ i l. rw (other_label_law g.kind (root_bytes g.root) (table_of tags) (table_of packs) i (held_key keys i) o)) in
    record {
      answer = e ∙ ap measured_of w;
      same = same_all slots;
      noted = λ size c y z k. absurd (false≢true (sym (ap is_other k) ∙ o));
    }

-- ---- putting, by kind

universal_bytes_law : (g : Group) (keys slots s : List ℕ) (i : ℕ) → g.kind ≡ Universal → keyed_item keys slots s i ≡ item_bytes g keys slots s i
unfolding keyed_item item_bytes label_bytes length_bytes
universal_bytes_law g keys slots s i u = rw u

local_bytes : (g : Group) (keys slots s : List ℕ) (i : ℕ) (a b : Layout) → g.kind ≡ Local a b → tagged_item a.form b.form slots s i ≡ item_bytes g keys slots s i
unfolding tagged_item item_bytes label_bytes length_bytes
local_bytes g keys slots s i a b u = rw u

module _ (g : Group) (keys slots s : List ℕ) (n : ℕ) (u : g.kind ≡ Universal) where
  keyed_joined : joined_items (keyed_item keys slots s) 0 n ≡ joined_items (item_bytes g keys slots s) 0 n
  keyed_joined = joined_alike (keyed_item keys slots s) (item_bytes g keys slots s) 0 n (λ i l. universal_bytes_law g keys slots s i u)

  pub universal_room : (from l : ℕ) → from + length (joined_items (item_bytes g keys slots s) 0 n) ≤ l → from + length (joined_items (keyed_item keys slots s) 0 n) ≤ l
  universal_room from l h = rw keyed_joined h

  pub universal_put : (d x : List ℕ) (from next : ℕ) → Put d from (joined_items (keyed_item keys slots s) 0 n) x next → Put d from (joined_items (item_bytes g keys slots s) 0 n) x next
  universal_put d x from next p = rw keyed_joined at p

module _ (g : Group) (keys slots s : List ℕ) (n : ℕ) (a b : Layout) (p q : Compact) (u : g.kind ≡ Local a b) (e : p ≡ compact_of a.form) (f : q ≡ compact_of b.form) where
  tagged_joined : joined_items (tagged_item p.layout.form q.layout.form slots s) 0 n ≡ joined_items (item_bytes g keys slots s) 0 n
  tagged_joined =
      rw (own_form a.form p e, own_form b.form q f)
      (joined_alike (tagged_item a.form b.form slots s) (item_bytes g keys slots s) 0 n (λ i l. local_bytes g keys slots s i a b u))

  pub local_room : (from l : ℕ) → from + length (joined_items (item_bytes g keys slots s) 0 n) ≤ l
      → from + length (joined_items (tagged_item p.layout.form q.layout.form slots s) 0 n) ≤ l
  local_room from l h = rw tagged_joined h

  pub local_put : (d x : List ℕ) (from next : ℕ) → Put d from (joined_items (tagged_item p.layout.form q.layout.form slots s) 0 n) x next
      → Put d from (joined_items (item_bytes g keys slots s) 0 n) x next
  local_put d x from next o = rw tagged_joined at o
