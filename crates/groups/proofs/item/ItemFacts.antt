-- `read::read_item`: each fact in the shape of its need.
use mathlib.Core.Path.{◌≡◌, sym, ap, ◌∙◌}
use mathlib.Core.List.{List}
use Prim.Native.Nat.{ℕ, ◌+◌, ◌-◌, ◌^◌, ◌<◌, ◌≤◌}
use native.Mathlib.Omega.{arith}
use mir.Val.{Fits}
use mir.Syntax.{w64}
use lib.ListN.{length, take, drop, length-drop}
use lib.Seq.{drop-drop, take_all, length-take-le}
use Rattle.std.specs.Prelude.{Option, Some, None, Result, Ok, Err}
use Rattle.groups.specs.declared.label.Label.{Label}
use Rattle.groups.specs.declared.label.LabelError.{LabelError}
use Rattle.groups.specs.declared.item.Item.{Item}
use Rattle.groups.specs.declared.refusal.Refusal.{Refusal}
use Rattle.groups.specs.declared.refusal.Refusal.TheVariants as refusal
use Rattle.groups.specs.declared.root.Group.{Group}
use Rattle.groups.specs.declared.span.Span.{Span}
use Rattle.groups.specs.Root.{root_bytes}
use Rattle.groups.specs.Tables.{table_of}
use Rattle.groups.specs.Label.{label_refusal, read_label}
use Rattle.groups.specs.Span.{read_span}
use Rattle.groups.specs.Read.{head_of, read_item, under_of}
use Rattle.groups.proofs.item.ItemWithin.{label_within, span_within}

-- the label of the item at the front of l, under a group by value
abbrev label_under : Group → List ℕ → List ℕ → ℕ → List ℕ → Result Label LabelError
label_under g tags packs place l = read_label g.kind (root_bytes g.root) (table_of tags) (table_of packs) place l

-- what is left of a slice from a position on
abbrev rest : List ℕ → ℕ → List ℕ
rest s at = take (length s - at) (drop at s)

rest_is : (s : List ℕ) (at : ℕ) → rest s at ≡ drop at s
rest_is s at = take_all (length s - at) (drop at s) (simp length-drop (omega arith))

-- x is the label of the item at a position
module _ (g : Group) (tags packs s : List ℕ) (place at : ℕ) (x : Result Label LabelError) (e : x ≡ label_under g tags packs place (rest s at)) where
  label_is : x ≡ label_under g tags packs place (drop at s)
  label_is = rw (rest_is s at) at e

  pub from_in : (z : Label) → x ≡ Ok z → at ≤ length s → at + z.width ≤ length s
  from_in z f h =
      let m : z.width ≤ length (drop at s) = label_within g.kind (root_bytes g.root) (table_of tags) (table_of packs) place (drop at s) z (rw label_is at f) in
      omega (arith, length-drop at s)

  pub from_fits : (z : Label) → x ≡ Ok z → at ≤ length s → length s < 2 ^ 64 → Fits w64 (at + z.width)
  from_fits z f h b = omega (arith, from_in z f h)

  -- y is the span after it
  module _ (z : Label) (y : Option Span) (f : x ≡ Ok z) (p : y ≡ read_span g.kind (table_of packs) place (rest s (at + z.width))) where
    span_is : y ≡ read_span g.kind (table_of packs) place (drop z.width (drop at s))
    span_is = rw (drop-drop z.width at s, ← rest_is s (at + z.width)) p

    pub item_read : (v : Span) → y ≡ Some v
        → Ok (record { label = z.width; width = v.width; length = v.length; key = z.key }) ≡ head_of (read_item (under_of g tags packs) place (drop at s))
    unfolding read_item
    item_read v q =
        let a : ℕ = z.width in
        let w : ℕ = v.width in
        let n : ℕ = v.length in
        let r : read_span g.kind (table_of packs) place (drop a (drop at s)) ≡ Some v = sym span_is ∙ q in
        let b : w + n ≤ length (drop a (drop at s)) = span_within g.kind (table_of packs) place (drop a (drop at s)) w n r in
        let d : length (drop a (drop at s)) ≡ length (drop at s) - a = length-drop a (drop at s) in
        let k : length (drop (a + w) (drop at s)) ≡ length (drop at s) - (a + w) = length-drop (a + w) (drop at s) in
        let l : length (take n (drop (a + w) (drop at s))) ≡ n = length-take-le n (drop (a + w) (drop at s)) (omega arith) in
        rw (← label_is, f, r, l)

    pub item_span : (h : Result Item Refusal) → y ≡ None → h ≡ Err refusal.Span → h ≡ head_of (read_item (under_of g tags packs) place (drop at s))
    unfolding read_item
    item_span h q i =
        let r : read_span g.kind (table_of packs) place (drop z.width (drop at s)) ≡ None = sym span_is ∙ q in
        rw (← label_is, f, r) i

  -- there is no label
  pub item_unlabelled : (h : Result Item Refusal) (why : LabelError) (r : Refusal) → x ≡ Err why → r ≡ label_refusal why → h ≡ Err r
      → h ≡ head_of (read_item (under_of g tags packs) place (drop at s))
  unfolding read_item
  item_unlabelled h why r f q i = rw (← label_is, f) (i ∙ ap Err q)
