-- Module `file`: each fact in the shape of its need.
use mathlib.Core.Path.{◌≡◌, sym, ap, ◌∙◌, subst}
use mathlib.Core.Bool.{Bool, true, false}
use mathlib.Core.List.{List}
use Prim.Native.Nat.{ℕ, ◌+◌, ◌-◌, ◌*◌, ◌≤◌}
use native.Mathlib.Omega.{arith}
use mir.Val.{Fits}
use mir.Syntax.{w8}
use lib.Dec.{leb, eqb}
use lib.ListN.{length, get_or, take, drop}
use lib.Seq.{get_or-drop}
use borrow.Author.Tests.{eqb-true}
use Rattle.std.specs.Prelude.{Option, Ok, Err}
use Rattle.klv.specs.Bytes.{Bytes}
use Rattle.klv.specs.Layout.{read_as}
use Rattle.klv.specs.declared.layout.Form.TheVariants.{Four}
use Rattle.klv.specs.declared.layout.Number.{Number}
use Rattle.klv.specs.declared.layout.NumberError.{NumberError}
use Rattle.klv.specs.Number.{Read}
use Rattle.klv.proofs.Cases.{both_true}
use Rattle.klv.proofs.LargestLaws.{largest_four}
use Rattle.klv.proofs.LayoutLaws.{read_largest}
use Rattle.klv.specs.Compact.{value_of}
use Rattle.job.specs.Job.{number_at, offset, size, end, follows, parts_follow, job_ok, part, answer_of, regroup_text, text_for, text_of, Prints}
use Rattle.job.specs.Text.{refusal_text}
use Rattle.job.specs.Held.{NumberAt}

-- ---- a number of the file

bytes_from : (f : List ℕ) (at : ℕ) → ((i : ℕ) → Fits w8 (get_or f i 0)) → Bytes (drop at f)
bytes_from f at b i = rw (get_or-drop at f i 0) (b (at + i)).fits

pub number_read : (f : List ℕ) (at : ℕ) (n : Number) (h : Read) → h ≡ read_as Four (drop at f) → h ≡ Ok n → ((i : ℕ) → Fits w8 (get_or f i 0)) → NumberAt f at n.value
unfolding number_at
number_read f at n h e g b =
    let r : read_as Four (drop at f) ≡ Ok n = sym e ∙ g in
    record { is = sym (ap value_of r); small = rw largest_four at (read_largest Four (drop at f) n.value n.width (bytes_from f at b) r) }

pub number_unread : (f : List ℕ) (at : ℕ) (w : NumberError) (h : Read) → h ≡ read_as Four (drop at f) → h ≡ Err w → NumberAt f at 0
unfolding number_at
number_unread f at w h e g = record { is = sym (ap value_of (sym e ∙ g)); small = omega arith }

-- ---- the next part

pub follows_is : (f : List ℕ) (i a e : ℕ) → NumberAt f (8 * (i + 1)) a → e ≡ end f i → eqb a e ≡ follows f i
unfolding follows
follows_is f i a e p q = rw (p.is, q)

-- ---- the parts of a good job file

record JobFile (f : List ℕ) : Type 0 where
  pub first : offset f 0 ≡ 32
  pub second : offset f 1 ≡ end f 0
  pub third : offset f 2 ≡ end f 1
  pub fourth : offset f 3 ≡ end f 2
  pub last : end f 3 ≡ length f

job_told : (f : List ℕ) → job_ok f ≡ true → JobFile f
unfolding job_ok parts_follow follows
job_told f h =
    let a = both_true (leb (length f) 65536) _ h in
    let b = both_true (leb 32 (length f)) _ a.1 in
    let c = both_true (eqb (offset f 0) 32) _ b.1 in
    let d = both_true (eqb (offset f 1) (end f 0)) _ c.1 in
    let e = both_true (eqb (offset f 2) (end f 1)) _ d.1 in
    let g = both_true (eqb (offset f 3) (end f 2)) _ e.1 in
    record {
      first = eqb-true (offset f 0) 32 c.0;
      second = eqb-true (offset f 1) (end f 0) d.0;
      third = eqb-true (offset f 2) (end f 1) e.0;
      fourth = eqb-true (offset f 3) (end f 2) g.0;
      last = eqb-true (end f 3) (length f) g.1;
    }

module _ (f : List ℕ) (ok : job_ok f ≡ true) (a b c d : ℕ) (pa : NumberAt f 0 a) (pb : NumberAt f 8 b) (pc : NumberAt f 16 c) (pd : NumberAt f 24 d) where
  record Bounds : Type 0 where
    pub tags : b ≡ a + size f 0
    pub packs : c ≡ b + size f 1
    pub target : d ≡ c + size f 2
    pub group : length f ≡ d + size f 3

  bounds : Bounds
  bounds =
      let j : JobFile f = job_told f ok in
      record {
        tags = rw pa.is (pb.is ∙ j.second);
        packs = rw pb.is (pc.is ∙ j.third);
        target = rw pc.is (pd.is ∙ j.fourth);
        group = rw pd.is (sym j.last);
      }

  pub tags_in : a ≤ b
  tags_in = omega (arith, bounds.tags)

  pub packs_in : b ≤ c
  packs_in = omega (arith, bounds.packs)

  pub target_in : c ≤ d
  target_in = omega (arith, bounds.target)

  pub group_in : d ≤ length f
  group_in = omega (arith, bounds.group)

  pub packs_end : c ≤ length f
  packs_end = omega (arith, target_in, group_in)

  pub tags_end : b ≤ length f
  tags_end = omega (arith, packs_in, packs_end)

  part_of : (i x y : ℕ) → y ≡ x + size f i → x ≡ offset f i → take (y - x) (drop x f) ≡ part f i
  part_of i x y e g = let z : y - x ≡ size f i = omega arith in rw (z, g)

  pub parts_print : (t u : List ℕ) (r : Option ℕ)
      → Prints (text_for (regroup_text (take (b - a) (drop a f)) (take (c - b) (drop b f)) (take (d - c) (drop c f)) (take (length f - d) (drop d f)))) t u r
      → Prints (text_for (answer_of f)) t u r
  parts_print t u r p =
      rw (part_of 0 a b bounds.tags pa.is, part_of 1 b c bounds.packs pb.is, part_of 2 c d bounds.target pc.is, part_of 3 d (length f) bounds.group pd.is) at p

-- ---- the text of a file

pub text_good : (f t u : List ℕ) (b : Bool) (r : Option ℕ) → b ≡ job_ok f → b ≡ true → Prints (text_for (answer_of f)) t u r → Prints (text_of f) t u r
unfolding text_of
text_good f t u b r e h p = let z : job_ok f ≡ true = sym e ∙ h in subst (λ (x : List ℕ). Prints x t u r) (rw z) p

pub text_malformed : (f t u : List ℕ) (b : Bool) (r : Option ℕ) → b ≡ job_ok f → b ≡ false → Prints (refusal_text 16 0) t u r → Prints (text_of f) t u r
unfolding text_of
text_malformed f t u b r e h p = let z : job_ok f ≡ false = sym e ∙ h in subst (λ (x : List ℕ). Prints x t u r) (rw z) p

pub job_good : (f : List ℕ) (b : Bool) → b ≡ job_ok f → b ≡ true → job_ok f ≡ true
job_good f b e h = sym e ∙ h
