-- Spans that are made from a number: what they tell of it.
use mathlib.Core.Path.{◌≡◌, ap, ◌∙◌}
use mathlib.Core.List.{List, ◌++◌}
use Prim.Native.Nat.{ℕ, ◌+◌, ◌-◌, ◌<◌, ◌≤◌}
use native.Mathlib.Omega.{arith}
use lib.Dec.{leb}
use lib.ListN.{length, length-append}
use borrow.Author.Tests.{leb-true, le-leb}
use Rattle.std.specs.Prelude.{None}
use Rattle.std.proofs.lemmas.Option.{same_Some}
use Rattle.groups.specs.declared.span.Span.{Span}
use Rattle.klv.specs.Layout.{read_as}
use Rattle.klv.specs.declared.layout.Form.{Form}
use Rattle.klv.specs.Number.{Read}
use Rattle.klv.specs.Number.{Value}
use Rattle.std.specs.Prelude.{Ok, Err}
use Rattle.klv.proofs.Cases.{absurd_number, pick_cases}
use Rattle.klv.proofs.LayoutLaws.{read_within}
use Rattle.groups.specs.Span.{spanned, within}

-- a span is its two numbers
pub spanned_parts : (w n v m : ℕ) → spanned w n ≡ spanned v m → (w ≡ v) × (n ≡ m)
spanned_parts w n v m e =
    let x : Span = record { width = w; length = n } in
    let y : Span = record { width = v; length = m } in
    let h : x ≡ y = same_Some x y e in
    (ap (λ (z : Span). z.width) h, ap (λ (z : Span). z.length) h)

-- what a span tells of the number that it was made from
pub span_told_law : (left w n : ℕ) (x : Read) → within left x ≡ spanned w n → (x ≡ Value n w) × (n ≤ left - w)
span_told_law left w n (Ok x) e =
    pick_cases (leb x.value (left - x.width)) (spanned x.width x.value) None (spanned w n) e
    (λ t g.
    let p = spanned_parts x.width x.value w n g in
    let a : x.width ≡ w = p.0 in
    let b : x.value ≡ n = p.1 in
    let h : x.value ≤ left - x.width = leb-true x.value (left - x.width) t in
    (ap (λ (v : ℕ). Value v x.width) b ∙ ap (λ (u : ℕ). Value n u) a, omega arith))
    (λ t g. absurd_number (cc))
span_told_law left w n (Err x) e = absurd_number (cc)

pub length_within_law : (f : Form) (l : List ℕ) (w n : ℕ) → within (length l) (read_as f l) ≡ spanned w n → w + n ≤ length l
length_within_law f l w n e =
    let p = span_told_law (length l) w n (read_as f l) e in
    let q : (0 < w) × (w ≤ length l) = read_within f l n w p.0 in
    let r : n ≤ length l - w = p.1 in
    omega arith

-- a value that is there is within what is left
pub within_back : (c v rest : List ℕ) → within (length ((c ++ v) ++ rest)) (Value (length v) (length c)) ≡ spanned (length c) (length v)
within_back c v rest =
    let n : length ((c ++ v) ++ rest) ≡ length c + length v + length rest = omega (arith, length-append (c ++ v) rest, length-append c v) in
    rw (n, le-leb (length v) (length c + length v + length rest - length c) (omega arith))
