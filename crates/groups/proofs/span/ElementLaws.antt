-- The elements of defined-length packs: what a record's length makes of the bytes at the front; and that an element is read
-- from its own bytes, whatever follows them.
use mathlib.Core.Path.{◌≡◌, refl, sym, ap, ◌∙◌}
use mathlib.Core.Bool.{true, false}
use mathlib.Core.List.{List, ◌++◌}
use mathlib.Core.Logic.{◌↔◌}
use mathlib.Core.Option.{none, some}
use Prim.Native.Nat.{ℕ, ◌+◌, ◌-◌, ◌<◌, ◌≤◌}
use native.Mathlib.Omega.{arith}
use lib.Dec.{eqb}
use lib.ListN.{length, take, drop, length-append, length-drop}
use lib.Seq.{length-take-le, take-append-le, drop-append-le, take-take, take-add, drop_at}
use borrow.Author.Tests.{eqb-true, eqb-false, eq-eqb, ne_eqb, le-leb}
use Rattle.std.specs.Prelude.{Option, Some, None}
use Rattle.klv.specs.Pick.{pick}
use Rattle.klv.specs.Key.{is_key}
use Rattle.klv.specs.Layout.{read_as}
use Rattle.klv.specs.declared.layout.Form.TheVariants.{Ber}
use Rattle.klv.specs.Number.{Value}
use Rattle.klv.proofs.Cases.{absurd_number, pick_cases, test_cases, same_value, same_width}
use Rattle.klv.proofs.KeyLaws.{key_size}
use Rattle.klv.proofs.LayoutLaws.{read_within}
use Rattle.klv.proofs.LongerLaws.{length_goes_on, length_among}
use Rattle.groups.specs.declared.span.Span.{Span}
use Rattle.groups.specs.Span.{spanned, within, wholly, triplet_span, element_span, takes, element_ok}
use Rattle.groups.specs.SpanText.{Triplet}
use Rattle.groups.proofs.span.WithinLaws.{spanned_parts, span_told_law}

-- ---- a triplet

-- a triplet that is there has the span of all its bytes
pub triplet_found : (l : List ℕ) (n : ℕ) → Triplet l n → triplet_span l ≡ spanned 0 n
unfolding triplet_span
triplet_found l n t =
    let h : t.value ≤ length (drop 16 l) - t.width = omega (arith, t.size, t.there, length-drop 16 l) in
    let s : within (length (drop 16 l)) (read_as Ber (drop 16 l)) ≡ spanned t.width t.value = rw (t.reads, le-leb t.value (length (drop 16 l) - t.width) h) in
    rw (t.key, s, ← t.size)

wholly_told : {P : Type 0} (x : Option Span) (w n : ℕ) → wholly x ≡ spanned w n → ((u v : ℕ) → x ≡ spanned u v → w ≡ 0 → n ≡ 16 + u + v → P) → P
wholly_told (Some span) w n e f = let p = spanned_parts 0 (16 + span.width + span.length) w n e in f span.width span.length refl (sym p.0) (sym p.1)
wholly_told None w n e f = absurd_number (cc)

-- and only such a one has a span
pub triplet_told : (l : List ℕ) (w n : ℕ) → triplet_span l ≡ spanned w n → (w ≡ 0) × Triplet l n
unfolding triplet_span
triplet_told l w n e =
    pick_cases (is_key (take 16 l)) _ _ (spanned w n) e
    (λ t f. wholly_told (within (length (drop 16 l)) (read_as Ber (drop 16 l))) w n f
    (λ u v g z q.
    let p = span_told_law (length (drop 16 l)) u v (read_as Ber (drop 16 l)) g in
    let h : (0 < u) × (u ≤ length (drop 16 l)) = read_within Ber (drop 16 l) v u p.0 in
    let m : v ≤ length (drop 16 l) - u = p.1 in
    (z, record { width = u; value = v; key = t; reads = p.0; size = q; there = omega (arith, length-drop 16 l) })))
    (λ t f. absurd_number (cc))

-- it is there whatever follows
pub triplet_goes_on : (l rest : List ℕ) (n : ℕ) → Triplet l n → Triplet (l ++ rest) n
triplet_goes_on l rest n t =
    let h : 16 ≤ length l = omega (arith, t.size, t.there) in
    record {
      width = t.width;
      value = t.value;
      key = rw (take-append-le 16 l rest h) t.key;
      reads = rw (drop-append-le 16 l rest h) (length_goes_on (drop 16 l) rest t.value t.width t.reads);
      size = t.size;
      there = omega (arith, t.there, length-append l rest);
    }

-- and with nothing after it
pub triplet_own : (l : List ℕ) (n : ℕ) → Triplet l n → Triplet (take n l) n
triplet_own l n t =
    let z : n ≡ 16 + (t.width + t.value) = omega (arith, t.size) in
    let s : take n l ≡ take 16 l ++ take (t.width + t.value) (drop 16 l) = rw z (take-add 16 (t.width + t.value) l) in
    record {
      width = t.width;
      value = t.value;
      key = rw (take-take 16 n l (omega arith)) t.key;
      reads = rw (s, drop_at (take 16 l) (take (t.width + t.value) (drop 16 l)) 16 (key_size (take 16 l) t.key))
          (length_among (drop 16 l) t.value t.width (t.width + t.value) t.reads (omega arith));
      size = t.size;
      there = omega (arith, length-take-le n l t.there);
    }

-- ---- an element

-- a record's length marks an element that measures itself, or is constant
pub measured_cases : {P : Type 0} (n : ℕ) → (n ≡ 0xFFFF_FFFF → P) → ((n ≡ 0xFFFF_FFFF → ⊥) → P) → P
measured_cases n f g = test_cases (eqb n 0xFFFF_FFFF) (λ t. f (eqb-true n 0xFFFF_FFFF t)) (λ t. g (eqb-false n 0xFFFF_FFFF t))

-- FF FF FF FF: one whole triplet
pub element_measured : (n : ℕ) (l : List ℕ) → n ≡ 0xFFFF_FFFF → element_span n l ≡ triplet_span l
unfolding element_span
element_measured n l h = rw (eq-eqb n 0xFFFF_FFFF h)

-- every other length is constant
pub element_constant : (n : ℕ) (l : List ℕ) → (n ≡ 0xFFFF_FFFF → ⊥) → element_span n l ≡ within (length l) (Value n 0)
unfolding element_span
element_constant n l h = rw (ne_eqb n 0xFFFF_FFFF h)

-- either way nothing stands before the value, and the bytes are there
pub element_told : {P : Type 0} (n : ℕ) (l : List ℕ) (w m : ℕ) → element_span n l ≡ spanned w m → (n ≡ 0xFFFF_FFFF → w ≡ 0 → Triplet l m → P)
    → ((n ≡ 0xFFFF_FFFF → ⊥) → w ≡ 0 → m ≡ n → m ≤ length l → P) → P
element_told n l w m e f g =
    measured_cases n
    (λ h. let p = triplet_told l w m (sym (element_measured n l h) ∙ e) in f h p.0 p.1)
    (λ h.
    let p = span_told_law (length l) w m (Value n 0) (sym (element_constant n l h) ∙ e) in
    let q : Value n 0 ≡ Value m w = p.0 in
    let a : m ≤ length l - w = p.1 in
    let z : 0 ≡ w = same_width n 0 m w q in
    let y : n ≡ m = same_value n 0 m w q in
    g h (sym z) (sym y) (omega arith))

pub element_within : (n : ℕ) (l : List ℕ) (w m : ℕ) → element_span n l ≡ spanned w m → w + m ≤ length l
element_within n l w m e = element_told n l w m e (λ h z t. omega (arith, t.there)) (λ h z q r. omega arith)

-- and where they are there it is read
pub constant_found : (n : ℕ) (l : List ℕ) → (n ≡ 0xFFFF_FFFF → ⊥) → n ≤ length l → element_span n l ≡ spanned 0 n
constant_found n l h r = element_constant n l h ∙ rw (le-leb n (length l - 0) (omega arith))

pub measured_found : (n : ℕ) (l : List ℕ) (m : ℕ) → n ≡ 0xFFFF_FFFF → Triplet l m → element_span n l ≡ spanned 0 m
measured_found n l m h t = element_measured n l h ∙ triplet_found l m t

-- an element that is read from its own bytes is read from them whatever follows
pub element_back : (n w : ℕ) (v rest : List ℕ) → element_span n v ≡ spanned w (length v) → element_span n (v ++ rest) ≡ spanned 0 (length v)
element_back n w v rest e =
    element_told n v w (length v) e
    (λ h z t. measured_found n (v ++ rest) (length v) h (triplet_goes_on v rest (length v) t))
    (λ h z q r. constant_found n (v ++ rest) h (omega (arith, length-append v rest)) ∙ ap (spanned 0) (sym q))

-- an element that is read is read from its own bytes
pub element_own : (n : ℕ) (l : List ℕ) (w m : ℕ) → element_span n l ≡ spanned w m → element_span n (take m l) ≡ spanned 0 m
element_own n l w m e =
    element_told n l w m e
    (λ h z t. measured_found n (take m l) m h (triplet_own l m t))
    (λ h z q r. constant_found n (take m l) h (omega (arith, length-take-le m l r)) ∙ ap (spanned 0) (sym q))

-- ---- a value that is one

takes_told : {P : Type 0} (n : ℕ) (x : Option Span) → takes n x ≡ true → ((w : ℕ) → x ≡ spanned w n → P) → P
takes_told n (Some span) e f = let h : n ≡ span.length = eqb-true n span.length e in f span.width (rw h)
takes_told n None e f = absurd_number (cc)

pub element_ok_told : {P : Type 0} (n : ℕ) (v : List ℕ) → element_ok n v ≡ true → ((w : ℕ) → element_span n v ≡ spanned w (length v) → P) → P
unfolding element_ok
element_ok_told n v e f = takes_told (length v) (element_span n v) e f

pub element_ok_law : (n w : ℕ) (v : List ℕ) → element_span n v ≡ spanned w (length v) → element_ok n v ≡ true
unfolding element_ok
element_ok_law n w v e = rw e (eq-eqb (length v) (length v) refl)

-- one that measures itself is one triplet and no more
pub measured_ok : (n : ℕ) (v : List ℕ) → n ≡ 0xFFFF_FFFF → (element_ok n v ≡ true) ↔ Triplet v (length v)
measured_ok n v h = (
  λ e. element_ok_told n v e (λ w f. (triplet_told v w (length v) (sym (element_measured n v h) ∙ f)).1),
  λ t. element_ok_law n 0 v (measured_found n v (length v) h t),
)

-- of a constant length it has just so many bytes
pub constant_ok : (n : ℕ) (v : List ℕ) → (n ≡ 0xFFFF_FFFF → ⊥) → element_ok n v ≡ eqb (length v) n
unfolding element_ok
constant_ok n v h =
    test_cases (eqb (length v) n)
    (λ t.
    let q : length v ≡ n = eqb-true (length v) n t in
    rw (constant_found n v h (omega arith), t))
    (λ t. go (element_span n v) refl t)
  where
    go : (x : Option Span) → element_span n v ≡ x → eqb (length v) n ≡ false → takes (length v) x ≡ eqb (length v) n
    go (Some span) e t = element_told n v span.width span.length e (λ g z y. absurd (h g)) (λ g z q r. rw q)
    go None e t = sym t

-- what is written is the value, if that is an element
pub written_told : (n : ℕ) (v b : List ℕ) → pick (element_ok n v) (some v) none ≡ some b → (element_ok n v ≡ true) × (b ≡ v)
written_told n v b e = pick_cases (element_ok n v) _ _ (some b) e (λ t f. (t, cc)) (λ t f. absurd_number (cc))
