-- `walk::walk_body` and `walk_group`: each fact in the shape of its need.
use mathlib.Core.Path.{◌≡◌, refl, sym, ap, ◌∙◌}
use mathlib.Core.Bool.{Bool, true, false, false≢true}
use mathlib.Core.List.{List, []}
use Prim.Native.Nat.{ℕ, ◌+◌, ◌-◌, ◌^◌, ◌<◌, ◌≤◌}
use native.Mathlib.Omega.{arith}
use Rattle.std.specs.Prelude.{Result, Ok, Err}
use mir.Val.{Fits}
use mir.Syntax.{w64}
use lib.Dec.{eqb}
use lib.ListN.{length, take, drop, length-drop}
use lib.Seq.{drop-drop, take_all}
use borrow.Author.Tests.{le-leb, lt-leb, eq-eqb, ne_eqb}
use Rattle.klv.specs.Key.{key_or_zeros}
use Rattle.klv.specs.Layout.{read_as}
use Rattle.klv.specs.declared.layout.Form.TheVariants.{Ber}
use Rattle.klv.specs.Number.{Read}
use Rattle.klv.specs.declared.layout.Number.{Number}
use Rattle.klv.specs.declared.layout.NumberError.{NumberError}
use Rattle.klv.proofs.LayoutLaws.{read_within}
use Rattle.groups.specs.declared.kind.Kind.{Kind}
use Rattle.groups.specs.declared.refusal.Refusal.TheVariants.{TagTable, Oversize, GroupKey, OuterLength}
use Rattle.groups.specs.declared.root.Group.{Group}
use Rattle.groups.specs.Kind.{kind_of}
use Rattle.groups.specs.Root.{group_of}
use Rattle.groups.specs.Tables.{tag_table_ok}
use Rattle.groups.specs.Read.{under}
use Rattle.groups.proofs.read.BodyFacts.{front_is}
use Rattle.groups.specs.declared.refusal.Refused.{Refused}
use Rattle.deep.specs.declared.fault.Fault.{Fault}
use Rattle.deep.specs.declared.fault.Fault.TheVariants.{Plain}
use Rattle.deep.specs.declared.walk.Walked.{Walked}
use Rattle.deep.specs.Tree.{Answer, refused, opens, Tree, deep_body, deep_read}
use Rattle.deep.specs.Walk.{set_tree, Walks}
use Rattle.deep.proofs.StepLaws.{set_under_law}

refused_walks : (a : Answer Tree) (f : Fault) (p : ℕ) (d : List ℕ) → a ≡ refused f p → Walks a 0 d d (Err (record { why = f; place = p }))
refused_walks a f p d e = record { answer = rw e; sizes = λ h. absurd (false≢true (rw e at h)) }

-- ---- the outer length

module _ (tags group : List ℕ) (n : Read) (e : n ≡ read_as Ber (drop 16 group)) where
  module _ (m : Number) (f : n ≡ Ok m) where
    length_in : (0 < m.width) × (m.width ≤ length (drop 16 group))
    length_in = read_within Ber (drop 16 group) m.value m.width (sym e ∙ f)

    pub body_in : 16 + m.width ≤ length group
    body_in = omega (arith, length_in.0, length_in.1, length-drop 16 group)

    pub body_fits : length group < 2 ^ 64 → Fits w64 (16 + m.width)
    body_fits h = omega (arith, body_in)

    rest_length : length (drop 16 group) - m.width ≡ length group - (16 + m.width)
    rest_length = omega (arith, length-drop 16 group)

    pub body_walks : (kd : Kind) (rest : ℕ) (d x : List ℕ) (r : Result Walked (Refused Fault)) → Walks (set_tree 3 tags kd (take (length group - (16 + m.width)) (drop (16 + m.width) group))) 0 d x r
        → m.value ≡ rest → rest ≡ length group - (16 + m.width) → kd ≡ kind_of (take 16 group) → opens kd ≡ true → Walks (deep_body tags group) 0 d x r
    unfolding deep_body
    body_walks kd rest d x r q h z k o =
        let t : eqb m.value (length (drop 16 group) - m.width) ≡ true = eq-eqb m.value (length (drop 16 group) - m.width) (h ∙ z ∙ sym rest_length) in
        let b : take (length group - (16 + m.width)) (drop (16 + m.width) group) ≡ drop m.width (drop 16 group) =
        take_all (length group - (16 + m.width)) (drop (16 + m.width) group) (simp length-drop (omega arith)) ∙ sym (drop-drop m.width 16 group) in
        let u : under (take 16 group) tags [] ≡ _ = set_under_law (take 16 group) tags (ap opens (sym k) ∙ o) in
        rw (← e, f, t, u) (rw (b, k) at q)

    pub body_unequal : (d : List ℕ) → (m.value ≡ length group - (16 + m.width) → ⊥) → Walks (deep_body tags group) 0 d d (Err (record { why = Plain OuterLength; place = 0 }))
    unfolding deep_body
    body_unequal d h =
        refused_walks (deep_body tags group) (Plain OuterLength) 0 d
        (rw (← e, f, ne_eqb m.value (length (drop 16 group) - m.width) (λ q. h (q ∙ rest_length))))

  pub body_cut : (d : List ℕ) (x : NumberError) → n ≡ Err x → Walks (deep_body tags group) 0 d d (Err (record { why = Plain OuterLength; place = 0 }))
  unfolding deep_body
  body_cut d x f = refused_walks (deep_body tags group) (Plain OuterLength) 0 d (rw (← e, f))

-- ---- the group: 1, 4, 5

front_kind : (group : List ℕ) (f : List ℕ) (kd : Kind) → f ≡ key_or_zeros (drop 0 group) → kd ≡ kind_of f → kd ≡ kind_of (take 16 group)
unfolding group_of
front_kind group f kd e q = q ∙ ap (λ (g : Group). g.kind) (front_is group f (group_of f) e refl)

module _ (tags group : List ℕ) (listed : Bool) (e : listed ≡ tag_table_ok tags) where
  pub group_tags : (d : List ℕ) → listed ≡ false → Walks (deep_read tags group) 0 d d (Err (record { why = Plain TagTable; place = 0 }))
  unfolding deep_read
  group_tags d f = refused_walks (deep_read tags group) (Plain TagTable) 0 d (rw (← e, f))

  pub group_oversize : (d : List ℕ) → listed ≡ true → 65536 < length group → Walks (deep_read tags group) 0 d d (Err (record { why = Plain Oversize; place = 0 }))
  unfolding deep_read
  group_oversize d f h = refused_walks (deep_read tags group) (Plain Oversize) 0 d (rw (← e, f, lt-leb (length group) 65536 h))

  module _ (front : List ℕ) (kd : Kind) (a : front ≡ key_or_zeros (drop 0 group)) (b : kd ≡ kind_of front) (h : length group ≤ 65536) (f : listed ≡ true) where
    pub group_kind : kd ≡ kind_of (take 16 group)
    group_kind = front_kind group front kd a b

    pub group_tags_ok : tag_table_ok tags ≡ true
    group_tags_ok = sym e ∙ f

    module _ (set : Bool) (o : set ≡ opens kd) where
      pub group_opened : set ≡ true → opens kd ≡ true
      group_opened g = sym o ∙ g

      kind_opens : (t : Bool) → set ≡ t → opens (kind_of (take 16 group)) ≡ t
      kind_opens t g = ap opens (sym group_kind) ∙ sym o ∙ g

      pub group_closed : (d : List ℕ) → set ≡ false → Walks (deep_read tags group) 0 d d (Err (record { why = Plain GroupKey; place = 0 }))
      unfolding deep_read
      group_closed d g = refused_walks (deep_read tags group) (Plain GroupKey) 0 d (rw (← e, f, le-leb (length group) 65536 h, kind_opens false g))

      pub group_body : (d x : List ℕ) (r : Result Walked (Refused Fault)) → set ≡ true → Walks (deep_body tags group) 0 d x r → Walks (deep_read tags group) 0 d x r
      unfolding deep_read
      group_body d x r g w = rw (← e, f, le-leb (length group) 65536 h, kind_opens true g) w
