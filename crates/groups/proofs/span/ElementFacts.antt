-- Elements of defined-length packs: each fact in the shape of its need.
use mathlib.Core.Path.{◌≡◌, sym, ◌∙◌}
use mathlib.Core.Bool.{Bool, true, false, not}
use mathlib.Core.List.{List}
use Prim.Native.Nat.{ℕ, ◌+◌, ◌-◌, ◌^◌, ◌<◌, ◌≤◌}
use native.Mathlib.Omega.{arith}
use mir.Val.{Fits}
use mir.Syntax.{w64}
use lib.Dec.{leb, eqb}
use lib.ListN.{length, take, drop, length-drop, length-take}
use borrow.Author.Tests.{not-true, not-false, leb-false, lt-leb}
use Rattle.std.specs.Prelude.{Option, Some, None}
use Rattle.klv.specs.Key.{is_key}
use Rattle.klv.specs.Layout.{read_as}
use Rattle.klv.specs.declared.layout.Form.TheVariants.{Ber}
use Rattle.klv.specs.Number.{Read}
use Rattle.klv.specs.Number.{Value}
use Rattle.klv.proofs.Cases.{absurd_number, pick_cases, same_value}
use Rattle.klv.proofs.KeyLaws.{key_size}
use Rattle.groups.specs.declared.span.Span.{Span}
use Rattle.groups.specs.Span.{spanned, within, triplet_span, element_span, takes, element_ok}
use Rattle.groups.proofs.span.WithinLaws.{span_told_law, length_within_law}
use Rattle.groups.proofs.span.ElementLaws.{element_measured, element_constant, constant_ok}

-- ---- reading

pub element_triplet : (n : ℕ) (l : List ℕ) (r : Option Span) → r ≡ triplet_span l → n ≡ 0xFFFF_FFFF → r ≡ element_span n l
element_triplet n l r e h = e ∙ sym (element_measured n l h)

module _ (n : ℕ) (l : List ℕ) (x : Option Span) (e : x ≡ within (length l) (Value n 0)) where
  pub element_here : (y : Span) → x ≡ Some y → length l ≤ 65536 → Some y ≡ element_span n l
  element_here y f h =
      let p = span_told_law (length l) y.width y.length (Value n 0) (sym e ∙ f) in
      let q : Value n 0 ≡ Value y.length y.width = p.0 in
      let r : y.length ≤ length l - y.width = p.1 in
      let m : n ≡ y.length = same_value n 0 y.length y.width q in
      sym f ∙ e ∙ sym (element_constant n l (λ z. omega arith))

  pub element_shorter : x ≡ None → length l < n
  element_shorter f =
      pick_cases (leb n (length l - 0)) (spanned 0 n) None None (sym e ∙ f)
      (λ t g. absurd_number (cc))
      (λ t g. omega (arith, leb-false n (length l - 0) t))

pub element_gone : (n : ℕ) (l : List ℕ) → length l < n → (n ≡ 0xFFFF_FFFF → ⊥) → None ≡ element_span n l
element_gone n l r h = rw (element_constant n l h, lt-leb n (length l - 0) (omega arith))

module _ (l : List ℕ) (k : Bool) (e : k ≡ is_key (take 16 (drop 0 l))) where
  key_is : k ≡ is_key (take 16 l)
  key_is = e

  pub triplet_no_key : not k ≡ true → None ≡ triplet_span l
  unfolding triplet_span
  triplet_no_key t = rw (← key_is, not-true k t)

  module _ (a : not k ≡ false) (rest : ℕ) (n : Read) (x : Option Span) (r : rest ≡ length l - 16) (p : x ≡ within rest n) (q : n ≡ read_as Ber (drop 16 l)) where
    is_key_law : k ≡ true
    is_key_law = not-false k a

    span_is : x ≡ within (length (drop 16 l)) (read_as Ber (drop 16 l))
    span_is = rw (← q, length-drop 16 l, ← r) p

    pub triplet_of : (y : Span) → x ≡ Some y → spanned 0 (16 + y.width + y.length) ≡ triplet_span l
    unfolding triplet_span
    triplet_of y f = rw (← key_is, is_key_law, ← span_is, f)

    pub triplet_fault : x ≡ None → None ≡ triplet_span l
    unfolding triplet_span
    triplet_fault f = rw (← key_is, is_key_law, ← span_is, f)

    size_in : (y : Span) → x ≡ Some y → 16 + y.width + y.length ≤ length l
    size_in y f = omega (arith, length_within_law Ber (drop 16 l) y.width y.length (sym span_is ∙ f), length-drop 16 l, key_size (take 16 l) (sym key_is ∙ is_key_law), length-take 16 l)

    pub triplet_width_fits : (y : Span) → x ≡ Some y → length l < 2 ^ 64 → Fits w64 (16 + y.width)
    triplet_width_fits y f h = omega (arith, size_in y f)

    pub triplet_size_fits : (y : Span) → x ≡ Some y → length l < 2 ^ 64 → Fits w64 (16 + y.width + y.length)
    triplet_size_fits y f h = omega (arith, size_in y f)

-- ---- writing

pub element_ok_triplet : (n : ℕ) (v : List ℕ) (r : Bool) → r ≡ takes (length v) (triplet_span v) → n ≡ 0xFFFF_FFFF → r ≡ element_ok n v
unfolding element_ok
element_ok_triplet n v r e h = rw (element_measured n v h) e

pub element_ok_bytes : (n : ℕ) (v : List ℕ) (r : Bool) → r ≡ eqb (length v) n → (n ≡ 0xFFFF_FFFF → ⊥) → r ≡ element_ok n v
element_ok_bytes n v r e h = e ∙ sym (constant_ok n v h)
