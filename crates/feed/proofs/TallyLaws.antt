-- The tally of a feed: one triplet more, and how large it gets.
use mathlib.Core.Path.{◌≡◌, refl, sym, ap, ◌∙◌}
use mathlib.Core.Bool.{Bool, true, false, not, false≢true}
use mathlib.Core.List.{List, [], ◌∷◌, ◌++◌}
use Prim.Native.Nat.{ℕ, ◌+◌, ◌<◌, ◌≤◌}
use native.Mathlib.Omega.{arith}
use lib.ListN.{length, take, length-append, length-take}
use Rattle.std.specs.Prelude.{Result, Ok, Err}
use Rattle.klv.specs.Pick.{both}
use Rattle.klv.proofs.Cases.{test_cases, both_true}
use Rattle.groups.specs.declared.refusal.Refused.{Refused}
use Rattle.groups.specs.Refusal as plain
use Rattle.groups.proofs.kind.KindLaws.{group_size}
use Rattle.groups.proofs.regroup.Accepted.{accepted_told}
use Rattle.groups.proofs.regroup.OutputReads.{output_key}
use Rattle.feed.specs.declared.fault.Fault.{Fault}
use Rattle.feed.specs.declared.fault.Tally.{Tally}
use Rattle.feed.specs.Triplets.{Split, whole, broken, before, joined}
use Rattle.feed.specs.Feed.{Setting, has_source, plainly, accepts, or_same, is_regrouped, is_refused, is_other, image, images_of, images, those}
use Rattle.feed.specs.Walk.{one, tallied, measured}

-- ---- what goes out for a triplet

pub image_other : (s : Setting) (t : List ℕ) → has_source s t ≡ false → image s t ≡ t
unfolding image
image_other s t e = rw e

pub image_own : (s : Setting) (t : List ℕ) → has_source s t ≡ true → image s t ≡ or_same t (plainly s t)
unfolding image
image_own s t e = rw e

or_same_most : (s : Setting) (t : List ℕ) (a : plain.Answer (List ℕ)) → plainly s t ≡ a → length (or_same t a) ≤ 65536 + length t
or_same_most s t (plain.ok w) e = omega (arith, (accepted_told s.tags s.packs s.target t 65536 w e).most)
or_same_most s t (plain.refused r p) e = omega arith

pub image_most : (s : Setting) (t : List ℕ) → length (image s t) ≤ 65536 + length t
image_most s t =
    test_cases (has_source s t)
    (λ h. rw (image_own s t h) (or_same_most s t (plainly s t) refl))
    (λ h. rw (image_other s t h) (omega arith))

-- one that is not regrouped goes out as it came
pub image_kept : (s : Setting) (t : List ℕ) → is_regrouped s t ≡ false → image s t ≡ t
image_kept s t e =
    test_cases (has_source s t)
    (λ h. image_own s t h ∙ kept (plainly s t) (rw h at e))
    (λ h. image_other s t h)
  where
    kept : (a : plain.Answer (List ℕ)) → accepts a ≡ false → or_same t a ≡ t
    kept (plain.ok w) f = absurd (false≢true (sym f))
    kept (plain.refused r p) f = refl

-- and one that is has bytes: the target key at least
pub regrouped_long : (s : Setting) (t : List ℕ) → is_regrouped s t ≡ true → 0 < length (image s t)
regrouped_long s t e =
    let b = both_true (has_source s t) (accepts (plainly s t)) e in
    rw (image_own s t b.0) (long (plainly s t) refl b.1)
  where
    long : (a : plain.Answer (List ℕ)) → plainly s t ≡ a → accepts a ≡ true → 0 < length (or_same t a)
    long (plain.ok w) q f =
        let k : take 16 w ≡ s.target = output_key s.tags s.packs s.target t 65536 w q in
        let g : length s.target ≡ 16 = group_size s.target (accepted_told s.tags s.packs s.target t 65536 w q).group in
        omega (arith, ap length k, length-take 16 w)
    long (plain.refused r p) q f = absurd (false≢true f)

-- ---- equal tallies

pub tally_same : (a b c d e f g h : ℕ) → a ≡ e → b ≡ f → c ≡ g → d ≡ h
    → ◌≡◌ {A = Tally} (record { length = a; regrouped = b; refused = c; others = d }) (record { length = e; regrouped = f; refused = g; others = h })
tally_same a b c d e f g h p q r s = rw (p, q, r, s)

-- ---- one triplet more

pub images_more : (s : Setting) (t : List ℕ) (ts : List (List ℕ)) → images s (t ∷ ts) ≡ image s t ++ images s ts
unfolding images_of joined
images_more s t ts = refl

pub images_none : (s : Setting) → images s [] ≡ []
unfolding images_of joined
images_none s = refl

pub count_more : (p : List ℕ → Bool) (t : List ℕ) (ts : List (List ℕ)) → length (those p (t ∷ ts)) ≡ one (p t) + length (those p ts)
unfolding those
count_more p t ts = test_cases (p t) (λ h. rw h (omega arith)) (λ h. rw h (omega arith))

pub count_none : (p : List ℕ → Bool) → length (those p []) ≡ 0
unfolding those
count_none p = refl

-- exactly one of the three holds of a triplet
pub one_each : (s : Setting) (t : List ℕ) → one (is_regrouped s t) + one (is_refused s t) + one (is_other s t) ≡ 1
one_each s t = go (has_source s t) (accepts (plainly s t))
  where
    go : (a b : Bool) → one (both a b) + one (both a (not b)) + one (not a) ≡ 1
    go true true = refl
    go true false = refl
    go false b = refl

-- a tally and what is still to come
abbrev pub added : Tally → Result Tally (Refused Fault) → Result Tally (Refused Fault)
added y (Ok z) = Ok (record {
  length = y.length + z.length;
  regrouped = y.regrouped + z.regrouped;
  refused = y.refused + z.refused;
  others = y.others + z.others;
})
added y (Err e) = Err e

pub measured_more : (s : Setting) (y : Tally) (t : List ℕ) (x : Split) → added y (measured s (before t x)) ≡ added (tallied s y t) (measured s x)
measured_more s y t (whole ts) =
    ap Ok
    (tally_same _ _ _ _ _ _ _ _
    (rw (images_more s t ts, length-append) (omega arith))
    (rw (count_more (is_regrouped s) t ts) (omega arith))
    (rw (count_more (is_refused s) t ts) (omega arith))
    (rw (count_more (is_other s) t ts) (omega arith)))
measured_more s y t (broken i) = refl

pub measured_end : (s : Setting) (y : Tally) → added y (measured s (whole [])) ≡ Ok y
measured_end s y =
    ap Ok
    (tally_same _ _ _ _ _ _ _ _
    (rw (images_none s) (omega arith))
    (rw (count_none (is_regrouped s)) (omega arith))
    (rw (count_none (is_refused s)) (omega arith))
    (rw (count_none (is_other s)) (omega arith)))
