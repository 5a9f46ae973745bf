-- Module `tables::index`: the bucket of a key, the loops over the records and along a bucket; each fact in the shape of its need.
use mathlib.Core.Path.{◌≡◌, refl, sym, ap, ◌∙◌}
use mathlib.Core.Bool.{Bool, true, false, not}
use mathlib.Core.List.{List}
use Prim.Native.Nat.{ℕ, suc, ◌+◌, ◌-◌, ◌*◌, ◌/◌, ◌%◌, ◌<◌, ◌≤◌}
use native.Mathlib.Numerals.{add-one}
use native.Mathlib.Omega.{arith}
use native.Mathlib.Decide.{dec_le}
use mir.Val.{Fits}
use mir.Syntax.{w16, w64}
use lib.ListN.{length, get_or, set, drop, replicate, length-set, length-replicate, get_or-replicate}
use lib.Seq.{get_or-set_same, get_or-set_other}
use borrow.Author.Tests.{eqb-true, eq-eqb}
use Rattle.klv.specs.Bytes.{same}
use Rattle.klv.specs.Number.{little}
use Rattle.klv.proofs.Cases.{test_cases, absurd_number}
use Rattle.std.specs.Prelude.{Option, Some, None, is_some}
use Rattle.groups.specs.Tables.{Table, table_of, all_below, differ_from}
use Rattle.groups.specs.Index.{bucket_of, last, last_key, in_bucket, InBucketOf, Entered, Indexed}
use Rattle.groups.proofs.tables.index.IndexLaws.{last_none, last_yes, last_no, last_most, to_bucket, in_bucket_law, new_key, old_key, key_none, key_yes, key_no}

-- ---- the bucket of a key

pub bucket_is : (k : List ℕ) (x : ℕ) → x ≡ little (drop 8 k) → x % 251 ≡ bucket_of k
unfolding bucket_of
bucket_is k x e = rw e

pub bucket_fits : (x : ℕ) → Fits w64 (x % 251)
bucket_fits x = omega arith

pub bucket_below : (k : List ℕ) (r : ℕ) → r ≡ bucket_of k → r < 251
unfolding bucket_of
bucket_below k r e = rw e (omega arith)

-- ---- along a bucket

pub number_wide : (x : ℕ) → Fits w16 x → Fits w64 x
number_wide x h = omega arith

-- the first `next` records are still to be looked at, and the last of them is in the key's bucket
pub record Going (t k : List ℕ) (at next : ℕ) : Type 0 where
  pub within : next ≤ at
  pub in_bucket_law : InBucketOf (table_of t) k next
  pub same_last : last_key (table_of t) k next ≡ last_key (table_of t) k at

pub going_start : (t k : List ℕ) (at : ℕ) → InBucketOf (table_of t) k at → Going t k at at
going_start t k at b = record { within = omega arith; in_bucket_law = b; same_last = refl }

pub going_row : (t k : List ℕ) (at next : ℕ) → Going t k at next → at ≤ length t / 20 → length t / 20 ≤ 256 → 0 < next → next - 1 ≤ 256
going_row t k at next g a b h = omega (arith, g.within)

pub going_in : (t k : List ℕ) (at next : ℕ) → Going t k at next → at ≤ length t / 20 → 0 < next → next - 1 < length t / 20
going_in t k at next g a h = omega (arith, g.within)

pub going_place : (t k index : List ℕ) (at next : ℕ) → Indexed t index → Going t k at next → at ≤ length t / 20 → length t / 20 ≤ 256 → 0 < next
    → 256 + (next - 1) < length index
going_place t k index at next d g a b h = omega (arith, g.within, d.size)

pub going_fits : (t k : List ℕ) (at next : ℕ) → Going t k at next → at ≤ length t / 20 → length t / 20 ≤ 256 → 0 < next → Fits w64 (256 + (next - 1))
going_fits t k at next g a b h = omega (arith, g.within)

before : (next : ℕ) → 0 < next → next ≡ suc (next - 1)
before next h = omega arith

pub going_hit : (t k x : List ℕ) (at next : ℕ) (b : Bool) → Going t k at next → 0 < next → x ≡ ((table_of t).row (next - 1)).key → b ≡ same x k → b ≡ true
    → Some (next - 1) ≡ last_key (table_of t) k at
going_hit t k x at next b g h e f q =
    let r : same ((table_of t).row (next - 1)).key k ≡ true = cc in
    let s : last_key (table_of t) k next ≡ Some (next - 1) =
    ap (last_key (table_of t) k) (before next h) ∙ key_yes (table_of t) k (next - 1) r in
    sym s ∙ g.same_last

pub going_end : (t k : List ℕ) (at next : ℕ) → Going t k at next → next ≤ 0 → None ≡ last_key (table_of t) k at
going_end t k at next g h =
    let z : next ≡ 0 = omega arith in
    let s : last_key (table_of t) k next ≡ None = rw z (key_none (table_of t) k) in
    sym s ∙ g.same_last

-- the number beside the record leads on
pub going_less : (t k index : List ℕ) (at next x : ℕ) → Indexed t index → Going t k at next → at ≤ length t / 20 → 0 < next
    → x ≡ get_or index (256 + (next - 1)) 0 → x < next
going_less t k index at next x d g a h e =
    let i : next - 1 < length t / 20 = omega (arith, g.within) in
    omega (arith, e, d.links (next - 1) i, last_most (in_bucket (table_of t) (bucket_of ((table_of t).row (next - 1)).key)) (next - 1))

pub going_again : (t k y index : List ℕ) (at next x : ℕ) (b : Bool) → Indexed t index → Going t k at next → at ≤ length t / 20 → 0 < next
    → y ≡ ((table_of t).row (next - 1)).key → b ≡ same y k → b ≡ false → x ≡ get_or index (256 + (next - 1)) 0 → Going t k at x
going_again t k y index at next x b d g a h e f q l =
    let i : next - 1 < length t / 20 = omega (arith, g.within) in
    let s : same ((table_of t).row (next - 1)).key k ≡ false = cc in
    let c : bucket_of ((table_of t).row (next - 1)).key ≡ bucket_of k = g.in_bucket_law (next - 1) (before next h) in
    let m : x ≡ last (in_bucket (table_of t) (bucket_of k)) (next - 1) =
    l ∙ d.links (next - 1) i ∙ ap (λ (u : ℕ). last (in_bucket (table_of t) u) (next - 1)) c in
    let v : last_key (table_of t) k next ≡ last_key (table_of t) k (next - 1) =
    ap (last_key (table_of t) k) (before next h) ∙ key_no (table_of t) k (next - 1) s in
    let w : last_key (table_of t) k (next - 1) ≡ last_key (table_of t) k x =
    to_bucket (table_of t) k (next - 1) ∙ ap (last_key (table_of t) k) (sym m) in
    record {
      within = omega (arith, g.within, m, last_most (in_bucket (table_of t) (bucket_of k)) (next - 1));
      in_bucket_law = λ j z. in_bucket_law (table_of t) k (next - 1) j (sym m ∙ z);
      same_last = sym (v ∙ w) ∙ g.same_last;
    }

-- ---- the records entered one by one

pub entering_start : (t : Table) (index : List ℕ) → index ≡ replicate 512 0 → Entered t 0 index
entering_start t index e =
    record {
      size = let z : ℕ = 0 in rw e (length-replicate 512 z);
      heads = λ b h. rw (e, last_none (in_bucket t b)) (get_or-replicate 512 b 0 0 (omega arith));
      links = λ i h. absurd (let f : ⊥ = omega arith in f);
    }

-- a record's link is in the index, and so is the head of a key's bucket, however many records are entered
pub link_place : (t index : List ℕ) (n i : ℕ) → Entered (table_of t) n index → length t / 20 ≤ 256 → i < length t / 20 → 256 + i < length index
link_place t index n i d h l = omega (arith, d.size)

pub head_place : (t k index : List ℕ) (i b : ℕ) → Entered (table_of t) i index → b ≡ bucket_of k → b < length index
head_place t k index i b d e = omega (arith, d.size, bucket_below k b e)

pub head_place_set : (t k index : List ℕ) (i b j x : ℕ) → Entered (table_of t) i index → b ≡ bucket_of k → b < length (set index j x)
head_place_set t k index i b j x d e = omega (arith, d.size, bucket_below k b e, length-set index j x)

pub entering_scaled : (k : List ℕ) (b : ℕ) → b ≡ bucket_of k → Fits w64 (b * 2)
entering_scaled k b e = omega (arith, bucket_below k b e)

pub entering_fits : (t : List ℕ) (i : ℕ) → length t / 20 ≤ 256 → i < length t / 20 → Fits w64 (256 + i)
entering_fits t i h l = omega arith

pub entering_number : (t : List ℕ) (i : ℕ) → length t / 20 ≤ 256 → i < length t / 20 → Fits w16 (i + 1)
entering_number t i h l = omega arith

pub entering_again : (t k index : List ℕ) (i b : ℕ) → length t / 20 ≤ 256 → Entered (table_of t) i index → i < length t / 20 → k ≡ ((table_of t).row i).key → b ≡ bucket_of k
    → Entered (table_of t) (i + 1) (set (set index (256 + i) (get_or index b 0)) b (i + 1))
entering_again t k index i b h d l e f =
    let s : length index ≡ 512 = d.size in
    let q : bucket_of ((table_of t).row i).key ≡ b = rw (← e) (sym f) in
    let m : b < 251 = bucket_below k b f in
    record {
      size = length-set (set index (256 + i) (get_or index b 0)) b (i + 1) ∙ (length-set index (256 + i) (get_or index b 0) ∙ s);
      heads = λ c a. head q m s c a;
      links = λ j a. link q m s j a;
    }
  where
    head : bucket_of ((table_of t).row i).key ≡ b → b < 251 → length index ≡ 512 → (c : ℕ) → c < 251
        → get_or (set (set index (256 + i) (get_or index b 0)) b (i + 1)) c 0 ≡ last (in_bucket (table_of t) c) (i + 1)
    head q m s c a =
        test_cases (in_bucket (table_of t) c i)
        (λ r.
        let g : b ≡ c = sym q ∙ eqb-true (bucket_of ((table_of t).row i).key) c r in
        let x : get_or (set (set index (256 + i) (get_or index b 0)) b (i + 1)) b 0 ≡ i + 1 =
        get_or-set_same (set index (256 + i) (get_or index b 0)) b (i + 1) 0 (omega (arith, length-set index (256 + i) (get_or index b 0))) in
        ap (λ (u : ℕ). get_or (set (set index (256 + i) (get_or index b 0)) b (i + 1)) u 0) (sym g)
        ∙ (x ∙ sym (rw add-one (last_yes (in_bucket (table_of t) c) i r))))
        (λ r.
        let g : c ≡ b → ⊥ = λ z. absurd_number (let v = eq-eqb (bucket_of ((table_of t).row i).key) c (q ∙ sym z) in cc) in
        get_or-set_other (set index (256 + i) (get_or index b 0)) b c (i + 1) 0 g
        ∙ (get_or-set_other index (256 + i) c (get_or index b 0) 0 (λ z. omega arith)
        ∙ (d.heads c a ∙ sym (rw add-one (last_no (in_bucket (table_of t) c) i r)))))

    link : bucket_of ((table_of t).row i).key ≡ b → b < 251 → length index ≡ 512 → (j : ℕ) → j < i + 1
        → get_or (set (set index (256 + i) (get_or index b 0)) b (i + 1)) (256 + j) 0
        ≡ last (in_bucket (table_of t) (bucket_of ((table_of t).row j).key)) j
    link q m s j a =
        get_or-set_other (set index (256 + i) (get_or index b 0)) b (256 + j) (i + 1) 0 (λ z. omega arith) ∙ inner
      where
        inner : get_or (set index (256 + i) (get_or index b 0)) (256 + j) 0 ≡ last (in_bucket (table_of t) (bucket_of ((table_of t).row j).key)) j
        inner =
            elim (dec_le i j) [
              | yes g ↦
                  let z : j ≡ i = omega arith in
                  rw (z, q) (get_or-set_same index (256 + i) (get_or index b 0) 0 (omega arith) ∙ d.heads b m)
              | no g ↦
                  get_or-set_other index (256 + i) (256 + j) (get_or index b 0) 0 (λ z. omega arith) ∙ d.links j (omega arith)
            ]

pub entering_end : (t index : List ℕ) (i : ℕ) → Entered (table_of t) i index → i ≤ length t / 20 → length t / 20 ≤ i → Indexed t index
entering_end t index i d a b = let q : i ≡ length t / 20 = omega arith in rw (← q) d

pub entering_length : (t : Table) (d index : List ℕ) (i : ℕ) → d ≡ replicate 512 0 → Entered t i index → length index ≡ length d
entering_length t d index i e x = let z : ℕ = 0 in x.size ∙ sym (rw e (length-replicate 512 z))

-- ---- whether a key is new

pub link_most : (t index : List ℕ) (i x : ℕ) → Indexed t index → i < length t / 20 → x ≡ get_or index (256 + i) 0 → x ≤ length t / 20
link_most t index i x d h e =
    omega (arith, e, d.links i h, last_most (in_bucket (table_of t) (bucket_of ((table_of t).row i).key)) i)

link_is : (t k index : List ℕ) (i x : ℕ) → Indexed t index → i < length t / 20 → k ≡ ((table_of t).row i).key → x ≡ get_or index (256 + i) 0
    → x ≡ last (in_bucket (table_of t) (bucket_of k)) i
link_is t k index i x d h e f = rw e (f ∙ d.links i h)

pub link_bucket : (t k index : List ℕ) (i x : ℕ) → Indexed t index → i < length t / 20 → k ≡ ((table_of t).row i).key → x ≡ get_or index (256 + i) 0
    → InBucketOf (table_of t) k x
link_bucket t k index i x d h e f = rw (link_is t k index i x d h e f) (in_bucket_law (table_of t) k i)

new_told : (t k index : List ℕ) (i x j : ℕ) (r : Option ℕ) → Indexed t index → i < length t / 20 → k ≡ ((table_of t).row i).key → x ≡ get_or index (256 + i) 0
    → r ≡ last_key (table_of t) k x → r ≡ Some j → false ≡ all_below (differ_from (table_of t) k) i
new_told t k index i x j r d h e f g z =
    let q : last_key (table_of t) k i ≡ Some j = to_bucket (table_of t) k i ∙ (ap (last_key (table_of t) k) (sym (link_is t k index i x d h e f)) ∙ (sym g ∙ z)) in
    sym (old_key (table_of t) k i j q)

new_found : (t k index : List ℕ) (i x : ℕ) (r : Option ℕ) → Indexed t index → i < length t / 20 → k ≡ ((table_of t).row i).key → x ≡ get_or index (256 + i) 0
    → r ≡ last_key (table_of t) k x → r ≡ None → true ≡ all_below (differ_from (table_of t) k) i
new_found t k index i x r d h e f g z =
    let q : last_key (table_of t) k i ≡ None = to_bucket (table_of t) k i ∙ (ap (last_key (table_of t) k) (sym (link_is t k index i x d h e f)) ∙ (sym g ∙ z)) in
    sym (new_key (table_of t) k i q)

pub new_is : (t k index : List ℕ) (i x : ℕ) (r : Option ℕ) (b : Bool) → Indexed t index → i < length t / 20 → k ≡ ((table_of t).row i).key → x ≡ get_or index (256 + i) 0
    → r ≡ last_key (table_of t) k x → is_some r ≡ not b → b ≡ all_below (differ_from (table_of t) k) i
new_is t k index i x (Some j) false d h e f g z = new_told t k index i x j (Some j) d h e f g refl
new_is t k index i x (Some j) true d h e f g z = absurd_number (let q = z in cc)
new_is t k index i x None true d h e f g z = new_found t k index i x None d h e f g refl
new_is t k index i x None false d h e f g z = absurd_number (let q = z in cc)
