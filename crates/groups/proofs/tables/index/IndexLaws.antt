-- Laws of the index: `last` finds the greatest number, so `last_key` the last record with a key, and going from record to
-- record along a bucket skips only records with other keys. From klv's law of equal bytes and the laws of `all_below`.
use mathlib.Core.Path.{◌≡◌, refl, sym, ap, ◌∙◌}
use mathlib.Core.Bool.{Bool, true, false}
use mathlib.Core.List.{List}
use Prim.Native.Nat.{ℕ, zero, suc, ◌<◌, ◌≤◌}
use native.Mathlib.Omega.{arith}
use native.Mathlib.Decide.{dec_le}
use borrow.Author.Tests.{eqb-true, eq-eqb}
use Rattle.klv.specs.Bytes.{same}
use Rattle.klv.proofs.Cases.{test_cases, absurd_number}
use Rattle.klv.proofs.BytesLaws.{same_true}
use Rattle.std.specs.Prelude.{Some, None}
use Rattle.groups.specs.Tables.{Table, all_below, differ_from}
use Rattle.groups.specs.Index.{has_key, record_of, bucket_of, last, last_key, in_bucket, InBucketOf}
use Rattle.groups.proofs.tables.Below.{each_all, all_fails}

-- ---- last

pub last_none : (p : ℕ → Bool) → last p 0 ≡ 0
unfolding last
last_none p = refl

pub last_yes : (p : ℕ → Bool) (n : ℕ) → p n ≡ true → last p (suc n) ≡ suc n
unfolding last
last_yes p n e = rw e

pub last_no : (p : ℕ → Bool) (n : ℕ) → p n ≡ false → last p (suc n) ≡ last p n
unfolding last
last_no p n e = rw e

pub last_most : (p : ℕ → Bool) (n : ℕ) → last p n ≤ n
last_most p zero = rw (last_none p) (omega arith)
last_most p (suc n) =
    test_cases (p n) (λ e. rw (last_yes p n e) (omega arith)) (λ e. rw (last_no p n e) (omega (arith, last_most p n)))

-- the test holds of it
pub last_holds : (p : ℕ → Bool) (n i : ℕ) → last p n ≡ suc i → p i ≡ true
last_holds p zero i e = absurd (let f : ⊥ = omega (arith, last_none p) in f)
last_holds p (suc n) i e =
    test_cases (p n)
    (λ h. let q : n ≡ i = omega (arith, last_yes p n h) in rw (← q) h)
    (λ h. last_holds p n i (sym (last_no p n h) ∙ e))

-- and of none above it
pub last_above : (p : ℕ → Bool) (n i : ℕ) → last p n ≤ i → i < n → p i ≡ false
last_above p zero i h l = absurd (let f : ⊥ = omega arith in f)
last_above p (suc n) i h l =
    test_cases (p n)
    (λ e. absurd (let f : ⊥ = omega (arith, last_yes p n e) in f))
    (λ e.
    elim (dec_le n i) [
      | yes g ↦ let q : i ≡ n = omega arith in rw q e
      | no g ↦ last_above p n i (omega (arith, last_no p n e)) (omega arith)
    ])

-- numbers of which the test does not hold are skipped
last_skip : (p : ℕ → Bool) (m n : ℕ) → m ≤ n → ((i : ℕ) → m ≤ i → i < n → p i ≡ false) → last p n ≡ last p m
last_skip p m zero h f = let q : m ≡ 0 = omega arith in rw q
last_skip p m (suc n) h f =
    elim (dec_le m n) [
      | yes g ↦ last_no p n (f n g (omega arith)) ∙ last_skip p m n g (λ i a b. f i a (omega arith))
      | no g ↦ let q : m ≡ suc n = omega arith in rw q
    ]

-- ---- the last record with a key

pub key_none : (t : Table) (k : List ℕ) → last_key t k 0 ≡ None
unfolding last_key
key_none t k = ap record_of (last_none (has_key t k))

pub key_yes : (t : Table) (k : List ℕ) (n : ℕ) → has_key t k n ≡ true → last_key t k (suc n) ≡ Some n
unfolding last_key
key_yes t k n e = ap record_of (last_yes (has_key t k) n e)

pub key_no : (t : Table) (k : List ℕ) (n : ℕ) → has_key t k n ≡ false → last_key t k (suc n) ≡ last_key t k n
unfolding last_key
key_no t k n e = ap record_of (last_no (has_key t k) n e)

record_at : (x i : ℕ) → record_of x ≡ Some i → x ≡ suc i
record_at zero i e = absurd_number (cc)
record_at (suc x) i e = cc

record_none : (x : ℕ) → record_of x ≡ None → x ≡ 0
record_none zero e = refl
record_none (suc x) e = absurd_number (cc)

-- what is found has the key; where nothing is, no record has it
pub found : (t : Table) (k : List ℕ) (n i : ℕ) → last_key t k n ≡ Some i → (i < n) × (has_key t k i ≡ true)
unfolding last_key
found t k n i e =
    let q : last (has_key t k) n ≡ suc i = record_at (last (has_key t k) n) i e in
    (omega (arith, last_most (has_key t k) n), last_holds (has_key t k) n i q)

pub none : (t : Table) (k : List ℕ) (n : ℕ) → last_key t k n ≡ None → (i : ℕ) → i < n → has_key t k i ≡ false
unfolding last_key
none t k n e i l =
    let q : last (has_key t k) n ≡ 0 = record_none (last (has_key t k) n) e in
    last_above (has_key t k) n i (omega arith) l

-- a key in another bucket is another key
apart : (t : Table) (k : List ℕ) (i : ℕ) → in_bucket t (bucket_of k) i ≡ false → same (t.row i).key k ≡ false
apart t k i e =
    test_cases (same (t.row i).key k)
    (λ h.
    let q : bucket_of (t.row i).key ≡ bucket_of k = ap bucket_of (same_true (t.row i).key k h) in
    let r = eq-eqb (bucket_of (t.row i).key) (bucket_of k) q in
    let z : ◌≡◌ {A = ℕ} 0 1 = cc in
    absurd_number z)
    (λ h. h)

-- from the records below n to the last of the key's bucket
pub to_bucket : (t : Table) (k : List ℕ) (n : ℕ) → last_key t k n ≡ last_key t k (last (in_bucket t (bucket_of k)) n)
unfolding last_key
to_bucket t k n =
    ap record_of (last_skip (has_key t k) (last (in_bucket t (bucket_of k)) n) n (last_most (in_bucket t (bucket_of k)) n)
    (λ i a b. apart t k i (last_above (in_bucket t (bucket_of k)) n i a b)))

-- that one is in the bucket
pub in_bucket_law : (t : Table) (k : List ℕ) (n : ℕ) → InBucketOf t k (last (in_bucket t (bucket_of k)) n)
in_bucket_law t k n i e = eqb-true (bucket_of (t.row i).key) (bucket_of k) (last_holds (in_bucket t (bucket_of k)) n i e)

-- ---- whether a key is new

-- the key of a record is new where no record before has it
pub new_key : (t : Table) (k : List ℕ) (i : ℕ) → last_key t k i ≡ None → all_below (differ_from t k) i ≡ true
new_key t k i e = each_all (differ_from t k) i (λ j l. rw (none t k i e j l))

pub old_key : (t : Table) (k : List ℕ) (i j : ℕ) → last_key t k i ≡ Some j → all_below (differ_from t k) i ≡ false
old_key t k i j e =
    let q = found t k i j e in
    all_fails (differ_from t k) i j q.0 (rw q.1)
