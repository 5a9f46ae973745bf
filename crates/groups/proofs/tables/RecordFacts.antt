-- A pack's items have a record each; each fact in the shape of its need.
use mathlib.Core.Path.{◌≡◌, sym, ap, ◌∙◌}
use mathlib.Core.Bool.{Bool, true}
use mathlib.Core.List.{List}
use Prim.Native.Nat.{ℕ, ◌+◌, ◌/◌, ◌<◌, ◌≤◌}
use native.Mathlib.Omega.{arith}
use lib.Dec.{ltb}
use lib.ListN.{length}
use borrow.Author.Tests.{ltb-true}
use Rattle.std.specs.Prelude.{Option, Some, None}
use Rattle.klv.specs.Pick.{pick, both}
use Rattle.klv.specs.Bytes.{same}
use Rattle.klv.specs.declared.layout.Layout.{Layout}
use Rattle.klv.proofs.Cases.{absurd_number, test_cases, both_true}
use Rattle.groups.specs.declared.kind.Kind.{Kind}
use Rattle.groups.specs.declared.kind.Kind.TheVariants.{Universal, Global, Local, Variable, Defined, NoGroup}
use Rattle.groups.specs.declared.root.Group.{Group}
use Rattle.groups.specs.Kind.{is_bound, is_pack}
use Rattle.groups.specs.Tables.{table_of}
use Rattle.groups.specs.Label.{element_label}
use Rattle.groups.specs.Read.{Recorded}
use Rattle.groups.specs.Arrays.{is_other, other_label, wide}
use Rattle.groups.proofs.kind.KindLaws.{bound_defined}
use Rattle.groups.proofs.tables.TableLaws.{table_count}

-- ---- the record of an item

module _ (kd : Kind) (packs : List ℕ) (place : ℕ) (r : Recorded kd packs (place + 1)) where
  pub listed_variable : (y : Layout) → kd ≡ Variable y → place < length packs / 20
  listed_variable y e = omega (arith, r.enough (ap is_pack e))

  pub listed_defined : kd ≡ Defined → place < length packs / 20
  listed_defined e = omega (arith, r.enough (ap is_pack e))

  pub listed_bound : (b : Bool) → b ≡ is_bound kd → b ≡ true → place < length packs / 20
  listed_bound b e f = listed_defined (bound_defined kd (sym e ∙ f))

-- ---- of all items

pub recorded_less : (kd : Kind) (packs : List ℕ) (n i : ℕ) → Recorded kd packs n → i < n → Recorded kd packs (i + 1)
recorded_less kd packs n i r h = record { enough = λ e. omega (arith, r.enough e) }

pub recorded_coded : (g c : Group) (packs : List ℕ) (n : ℕ) → Recorded g.kind packs n → c ≡ g → Recorded c.kind packs n
recorded_coded g c packs n r e = rw e r

pub recorded_limit : (kd : Kind) (packs : List ℕ) (n most : ℕ) → n ≡ pick (is_pack kd) (length packs / 20) most → Recorded kd packs n
recorded_limit kd packs n most e = record { enough = λ q. let z : n ≡ length packs / 20 = rw q at e in omega arith }

-- ---- an element that has a label has a record

element_listed : (packs k : List ℕ) (place a : ℕ) → wide (element_label (table_of packs) place k) ≡ Some a → place + 1 ≤ length packs / 20
element_listed packs k place a e =
    test_cases (both (ltb place (table_of packs).count) (same ((table_of packs).row place).key k))
    (λ t. omega (arith, ltb-true place (table_of packs).count (both_true (ltb place (table_of packs).count) (same ((table_of packs).row place).key k) t).0, table_count packs))
    (λ t. let z : None ≡ Some a = rw t at e in absurd_number (cc))

pub recorded_label : (kd : Kind) (root packs k : List ℕ) (place a : ℕ) (x : Option ℕ) → is_other kd ≡ true → x ≡ wide (other_label kd root (table_of packs) place k) → x ≡ Some a
    → Recorded kd packs (place + 1)
recorded_label kd root packs k place a x o e f = record { enough = λ q. by_kind kd q (sym e ∙ f) }
  where
    by_kind : (y : Kind) → is_pack y ≡ true → wide (other_label y root (table_of packs) place k) ≡ Some a → place + 1 ≤ length packs / 20
    by_kind Universal q g = absurd_number (cc)
    by_kind (Global y) q g = absurd_number (cc)
    by_kind (Local t y) q g = absurd_number (cc)
    by_kind (Variable y) q g = element_listed packs k place a g
    by_kind Defined q g = element_listed packs k place a g
    by_kind NoGroup q g = absurd_number (cc)
