-- What an accepted deep reading of a group tells.
use mathlib.Core.Path.{◌≡◌, refl, sym, ap, ◌∙◌}
use mathlib.Core.Bool.{true, false≢true}
use mathlib.Core.List.{List}
use Prim.Native.Nat.{ℕ, ◌+◌, ◌-◌, ◌≤◌}
use native.Mathlib.Omega.{arith}
use Rattle.std.specs.Prelude.{Result, Ok, Err}
use lib.ListN.{length, take, drop, length-take, length-drop}
use lib.Seq.{take_all, drop-drop}
use Rattle.klv.specs.Key.{key_or_zeros}
use Rattle.klv.specs.declared.layout.Form.TheVariants.{Ber}
use Rattle.klv.proofs.Cases.{absurd_number}
use Rattle.klv.proofs.KeyLaws.{key_or_zeros_whole, key_size}
use Rattle.klv.proofs.LayoutLaws.{read_within}
use Rattle.groups.specs.declared.kind.Kind.{Kind}
use Rattle.groups.specs.Kind.{kind_of}
use Rattle.groups.specs.Tables.{tag_table_ok}
use Rattle.groups.specs.Listing.{start}
use Rattle.groups.specs.declared.refusal.Refused.{Refused}
use Rattle.deep.specs.declared.fault.Fault.{Fault}
use Rattle.deep.specs.declared.walk.Walked.{Walked}
use Rattle.deep.specs.Tree.{Answer, ok, refused, opens, Tree, deep_read}
use Rattle.deep.specs.Deep.{universal_bytes, count_of}
use Rattle.deep.specs.Walk.{set_tree, set_sizes, reads, walked, Walks}
use Rattle.deep.proofs.UniversalKeys.{opens_key}
use Rattle.deep.proofs.StepLaws.{set_under_law}
use Rattle.deep.proofs.GrowLaws.{items_are}
use Rattle.deep.proofs.DeepTheorem.{DeepTold, deep_told}

-- ---- its key, its body and where that begins

-- the bytes from a position on
abbrev pub body_of : List ℕ → ℕ → List ℕ
body_of group from = take (length group - from) (drop from group)

body_is : (group : List ℕ) (from : ℕ) → body_of group from ≡ drop from group
body_is group from = take_all (length group - from) (drop from group) (simp length-drop (omega arith))

pub body_length : (group : List ℕ) (from : ℕ) → length (body_of group from) ≡ length group - from
body_length group from = ap length (body_is group from) ∙ length-drop from group

module _ (tags group : List ℕ) (t : Tree) (d : DeepTold tags group t) where
  pub told_key : length (take 16 group) ≡ 16
  told_key = key_size (take 16 group) (opens_key (take 16 group) d.is_set)

  key_whole : 16 ≤ length group
  key_whole = omega (arith, told_key, length-take 16 group)

  told_start : start group ≡ 16 + d.width
  unfolding start
  told_start = rw d.outer

  pub told_within : start group ≤ length group
  told_within = omega (arith, told_start, key_whole, (read_within Ber (drop 16 group) d.count d.width d.outer).1, length-drop 16 group)

  told_body : set_tree 3 tags (kind_of (take 16 group)) (body_of group (start group)) ≡ ok t
  told_body =
      let y : drop (start group) group ≡ drop d.width (drop 16 group) = ap (λ (n : ℕ). drop n group) told_start ∙ sym (drop-drop d.width 16 group) in
      rw (body_is group (start group), y, ← set_under_law (take 16 group) tags d.is_set) d.body

-- ---- a group that reads

reads_told : {P : Type 0} (a : Answer Tree) → reads a ≡ true → ((t : Tree) → a ≡ ok t → P) → P
reads_told (ok t) h f = f t refl
reads_told (refused r p) h f = absurd (false≢true h)

module _ (tags group : List ℕ) (h : reads (deep_read tags group) ≡ true) where
  pub told : {P : Type 0} → ((t : Tree) → deep_read tags group ≡ ok t → DeepTold tags group t → P) → P
  told f = reads_told (deep_read tags group) h (λ t e. f t e (deep_told tags group t e))

  pub group_start : (from : ℕ) → from ≡ start group → from ≤ length group
  group_start from e = told (λ t q d. omega (arith, told_within tags group t d))

  pub group_tags : tag_table_ok tags ≡ true
  group_tags = told (λ t q d. d.tags_ok)

  module _ (front : List ℕ) (ef : front ≡ key_or_zeros (drop 0 group)) where
    pub front_key : front ≡ take 16 group
    front_key = told (λ t q d. rw (ef, key_or_zeros_whole group (key_whole tags group t d)))

    module _ (kind : Kind) (ek : kind ≡ kind_of front) where
      pub group_opens : opens kind ≡ true
      group_opens = told (λ t q d. rw (ek, front_key) d.is_set)

      module _ (from : ℕ) (es : from ≡ start group) where
        pub group_is : set_tree 3 tags kind (body_of group from) ≡ deep_read tags group
        group_is = told (λ t q d. rw (ek, front_key, es, q) (told_body tags group t d))

        pub group_reads : reads (set_tree 3 tags kind (body_of group from)) ≡ true
        group_reads = ap reads group_is ∙ h

-- ---- a group that was measured

items_by : {P : Type 0} (a : Answer Tree) (v : Walked) → Ok v ≡ walked a
    → ((t : Tree) → a ≡ ok t → length (universal_bytes t) ≡ v.size → count_of t ≡ v.count → P) → P
items_by (ok t) v e f = let q = items_are (length (universal_bytes t)) (count_of t) (length (set_sizes t)) v (sym e) in f t refl q.0 q.1
items_by (refused r p) v e f = absurd_number (cc)

fault_by : (a : Answer Tree) (r : Refused Fault) → Err r ≡ walked a → a ≡ refused r.why r.place
fault_by (ok t) r e = absurd_number (cc)
fault_by (refused g o) r e = let z : record { why = g; place = o } ≡ r = cc in rw (← z)

module _ (tags group : List ℕ) (first : ℕ) (d x : List ℕ) (r : Result Walked (Refused Fault)) (w : Walks (deep_read tags group) first d x r) where
  pub items_told : {P : Type 0} (v : Walked) → r ≡ Ok v
      → ((t : Tree) → deep_read tags group ≡ ok t → length (universal_bytes t) ≡ v.size → count_of t ≡ v.count → P) → P
  items_told v e f = items_by (deep_read tags group) v (sym e ∙ w.answer) f

  pub walked_reads : (v : Walked) → r ≡ Ok v → reads (deep_read tags group) ≡ true
  walked_reads v e = items_told v e (λ t q s c. ap reads q)

  pub fault_told : (y : Refused Fault) → r ≡ Err y → deep_read tags group ≡ refused y.why y.place
  fault_told y e = fault_by (deep_read tags group) y (sym e ∙ w.answer)
