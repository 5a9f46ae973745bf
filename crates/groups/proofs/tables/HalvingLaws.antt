-- The search by halves: what it comes to in any table, and in a valid tag table, where it finds the record with the tag.
use mathlib.Core.Path.{◌≡◌, refl, sym, ◌∙◌}
use mathlib.Core.List.{List}
use mathlib.Core.Bool.{Bool, true}
use Prim.Native.Nat.{ℕ, zero, suc, ◌+◌, ◌-◌, ◌/◌, ◌^◌, ◌<◌, ◌≤◌}
use native.Mathlib.Omega.{arith}
use native.Mathlib.Decide.{dec_le}
use mir.Val.{Fits}
use mir.Syntax.{w64}
use lib.Dec.{eqb, ltb}
use lib.ListN.{length}
use borrow.Author.Tests.{eq-eqb, ne_eqb, lt-ltb, le-ltb, ltb-true, eqb-true, eqb-false}
use Rattle.klv.proofs.Cases.{test_cases}
use Rattle.groups.proofs.tables.Below.{at_first, nothing_first}
use Rattle.groups.proofs.tables.TableLaws.{tags_fit, table_count, tag_finds}
use Rattle.groups.proofs.tables.TableLoops.{Between, between_start, between_fits, between_in, between_next, between_up, between_down}
use Rattle.std.specs.Prelude.{Option, Some, None}
use Rattle.groups.specs.Tables.{Table, table_of, tag_table_ok, tag_index, Parted, halved, lower_tags, here_or, by_halves, find_tag}

abbrev has_tag : List ℕ → ℕ → ℕ → Bool
has_tag t tag i = eqb ((table_of t).row i).number tag

-- ---- the steps of the search

halved_done : (t : Table) (tag steps low high : ℕ) → high ≤ low → halved t tag steps low high ≡ low
unfolding halved
halved_done t tag zero low high h = refl
halved_done t tag (suc steps) low high h = rw (le-ltb low high h)

halved_up : (t : Table) (tag steps low high : ℕ) → low < high → (t.row ((low + high) / 2)).number < tag
    → halved t tag (suc steps) low high ≡ halved t tag steps ((low + high) / 2 + 1) high
unfolding halved
halved_up t tag steps low high l h = rw (lt-ltb low high l, lt-ltb (t.row ((low + high) / 2)).number tag h)

halved_down : (t : Table) (tag steps low high : ℕ) → low < high → tag ≤ (t.row ((low + high) / 2)).number
    → halved t tag (suc steps) low high ≡ halved t tag steps low ((low + high) / 2)
unfolding halved
halved_down t tag steps low high l h = rw (lt-ltb low high l, le-ltb (t.row ((low + high) / 2)).number tag h)

-- the loop: what is left of the search comes to what all of it comes to
pub record Searching (t : List ℕ) (tag low high : ℕ) : Type 0 where
  pub places : Between t low high
  pub steps : ℕ
  pub enough : high - low ≤ steps
  pub same : halved (table_of t) tag steps low high ≡ lower_tags (table_of t) tag

pub searching_start : (t : List ℕ) (tag : ℕ) → Searching t tag 0 (length t / 20)
unfolding lower_tags
searching_start t tag =
    record { places = between_start t; steps = length t / 20; enough = omega arith; same = rw (table_count t) }

pub searching_up : (t : List ℕ) (tag low high x : ℕ) → Searching t tag low high → low < high → x ≡ ((table_of t).row ((low + high) / 2)).number → x < tag
    → Searching t tag ((low + high) / 2 + 1) high
searching_up t tag low high x s l e f = fewer s.steps s.enough s.same
  where
    fewer : (n : ℕ) → high - low ≤ n → halved (table_of t) tag n low high ≡ lower_tags (table_of t) tag → Searching t tag ((low + high) / 2 + 1) high
    fewer zero a b = absurd (let z : ⊥ = omega arith in z)
    fewer (suc n) a b =
        record {
          places = between_up t low high s.places l;
          steps = n;
          enough = omega arith;
          same = sym (halved_up (table_of t) tag n low high l (omega arith)) ∙ b;
        }

pub searching_down : (t : List ℕ) (tag low high x : ℕ) → Searching t tag low high → low < high → x ≡ ((table_of t).row ((low + high) / 2)).number → tag ≤ x
    → Searching t tag low ((low + high) / 2)
searching_down t tag low high x s l e f = fewer s.steps s.enough s.same
  where
    fewer : (n : ℕ) → high - low ≤ n → halved (table_of t) tag n low high ≡ lower_tags (table_of t) tag → Searching t tag low ((low + high) / 2)
    fewer zero a b = absurd (let z : ⊥ = omega arith in z)
    fewer (suc n) a b =
        record {
          places = between_down t low high s.places l;
          steps = n;
          enough = omega arith;
          same = sym (halved_down (table_of t) tag n low high l (omega arith)) ∙ b;
        }

pub searching_end : (t : List ℕ) (tag low high : ℕ) → Searching t tag low high → high ≤ low → low ≡ lower_tags (table_of t) tag
searching_end t tag low high s l = sym (halved_done (table_of t) tag s.steps low high l) ∙ s.same

-- the sums of the loop
pub middle_fits : (t : List ℕ) (tag low high : ℕ) → Searching t tag low high → length t < 2 ^ 64 → Fits w64 (low + high)
middle_fits t tag low high s h = between_fits t low high s.places h

pub middle_in : (t : List ℕ) (tag low high : ℕ) → Searching t tag low high → low < high → (low + high) / 2 < length t / 20
middle_in t tag low high s l = between_in t low high s.places l

pub middle_next : (t : List ℕ) (tag low high : ℕ) → Searching t tag low high → length t < 2 ^ 64 → low < high → Fits w64 ((low + high) / 2 + 1)
middle_next t tag low high s h l = between_next t low high s.places h l

-- ---- the record at hand, or another answer

here_hit : (t : List ℕ) (tag i x : ℕ) (other : Option ℕ) → i < length t / 20 → x ≡ ((table_of t).row i).number → x ≡ tag → Some i ≡ here_or (table_of t) tag i other
here_hit t tag i x other l e f =
    rw (table_count t, lt-ltb i (length t / 20) l, eq-eqb ((table_of t).row i).number tag (sym e ∙ f))

here_miss : (t : List ℕ) (tag i x : ℕ) (r other : Option ℕ) → i < length t / 20 → x ≡ ((table_of t).row i).number → (x ≡ tag → ⊥) → r ≡ other
    → r ≡ here_or (table_of t) tag i other
here_miss t tag i x r other l e f g =
    rw (table_count t, lt-ltb i (length t / 20) l, ne_eqb ((table_of t).row i).number tag (λ q. f (e ∙ q))) g

here_past : (t : List ℕ) (tag i : ℕ) (r other : Option ℕ) → length t / 20 ≤ i → r ≡ other → r ≡ here_or (table_of t) tag i other
here_past t tag i r other l g = rw (table_count t, le-ltb i (length t / 20) l) g

-- ---- in a valid tag table: the records below `low` have lower tags, and those from `high` on have not

record Halving (t : List ℕ) (tag low high : ℕ) : Type 0 where
  pub places : Between t low high
  pub lower : (i : ℕ) → i < low → ((table_of t).row i).number < tag
  pub rest : (i : ℕ) → high ≤ i → i < length t / 20 → tag ≤ ((table_of t).row i).number

halving_start : (t : List ℕ) (tag : ℕ) → Halving t tag 0 (length t / 20)
halving_start t tag =
    record {
      places = between_start t;
      lower = λ i l. absurd (let f : ⊥ = omega arith in f);
      rest = λ i a b. absurd (let f : ⊥ = omega arith in f);
    }

halving_up : (t : List ℕ) (tag low high x : ℕ) → Halving t tag low high → tag_table_ok t ≡ true → low < high
    → x ≡ ((table_of t).row ((low + high) / 2)).number → x < tag → Halving t tag ((low + high) / 2 + 1) high
halving_up t tag low high x h v l e f =
    record {
      places = between_up t low high h.places l;
      lower = λ i a. up i a;
      rest = h.rest;
    }
  where
    up : (i : ℕ) → i < (low + high) / 2 + 1 → ((table_of t).row i).number < tag
    up i a =
        elim (dec_le ((low + high) / 2) i) [
          | yes b ↦ let q : i ≡ (low + high) / 2 = omega arith in rw q (omega arith)
          | no b ↦
              let r : ((table_of t).row i).number < ((table_of t).row ((low + high) / 2)).number =
              (tags_fit t v).rising i ((low + high) / 2) (omega arith) (rw (table_count t) (omega (arith, h.places.within))) in
              omega arith
        ]

halving_down : (t : List ℕ) (tag low high x : ℕ) → Halving t tag low high → tag_table_ok t ≡ true → low < high
    → x ≡ ((table_of t).row ((low + high) / 2)).number → tag ≤ x → Halving t tag low ((low + high) / 2)
halving_down t tag low high x h v l e f =
    record {
      places = between_down t low high h.places l;
      lower = h.lower;
      rest = λ i a b. down i a b;
    }
  where
    down : (i : ℕ) → (low + high) / 2 ≤ i → i < length t / 20 → tag ≤ ((table_of t).row i).number
    down i a b =
        elim (dec_le i ((low + high) / 2)) [
          | yes c ↦ let q : i ≡ (low + high) / 2 = omega arith in rw q (omega arith)
          | no c ↦
              let r : ((table_of t).row ((low + high) / 2)).number < ((table_of t).row i).number =
              (tags_fit t v).rising ((low + high) / 2) i (omega arith) (rw (table_count t) b) in
              omega arith
        ]

halving_end : (t : List ℕ) (tag low high : ℕ) → Halving t tag low high → high ≤ low → Parted (table_of t) tag low
halving_end t tag low high h l =
    record {
      within = rw (table_count t) (omega (arith, h.places.below, h.places.within));
      lower = h.lower;
      rest = λ i a b. h.rest i (omega arith) (rw (table_count t) at b);
    }

-- the first record that has no lower tag has the tag, or none has

part_hit : (t : List ℕ) (tag low x : ℕ) → Parted (table_of t) tag low → low < length t / 20 → x ≡ ((table_of t).row low).number → x ≡ tag
    → Some low ≡ tag_index (table_of t) tag
unfolding tag_index
part_hit t tag low x p l e f =
    sym (at_first (has_tag t tag) (table_of t).count low (rw (table_count t) l) (eq-eqb ((table_of t).row low).number tag (sym e ∙ f))
    (λ i a. ne_eqb ((table_of t).row i).number tag (λ q. omega (arith, p.lower i a))))

part_miss : (t : List ℕ) (tag low x : ℕ) → tag_table_ok t ≡ true → Parted (table_of t) tag low → low < length t / 20 → x ≡ ((table_of t).row low).number → (x ≡ tag → ⊥)
    → None ≡ tag_index (table_of t) tag
unfolding tag_index
part_miss t tag low x v p l e f = sym (nothing_first (has_tag t tag) (table_of t).count (λ i a. ne_eqb ((table_of t).row i).number tag (other i a)))
  where
    other : (i : ℕ) → i < (table_of t).count → ((table_of t).row i).number ≡ tag → ⊥
    other i a q =
        elim (dec_le low i) [
          | yes b ↦
              elim (dec_le i low) [
                | yes c ↦ let s : i ≡ low = omega arith in f (e ∙ (rw s at q))
                | no c ↦
                    let r : ((table_of t).row low).number < ((table_of t).row i).number = (tags_fit t v).rising low i (omega arith) a in
                    omega (arith, p.rest low (omega arith) (rw (table_count t) l))
              ]
          | no b ↦ omega (arith, p.lower i (omega arith))
        ]

part_past : (t : List ℕ) (tag low : ℕ) → Parted (table_of t) tag low → length t / 20 ≤ low → None ≡ tag_index (table_of t) tag
unfolding tag_index
part_past t tag low p l =
    sym (nothing_first (has_tag t tag) (table_of t).count
    (λ i a. ne_eqb ((table_of t).row i).number tag (λ q. omega (arith, p.lower i (omega (arith, table_count t))))))

-- what the search comes to parts a valid table
parted : (t : List ℕ) (tag steps low high : ℕ) → tag_table_ok t ≡ true → Halving t tag low high → high - low ≤ steps
    → Parted (table_of t) tag (halved (table_of t) tag steps low high)
parted t tag zero low high v h n = rw (halved_done (table_of t) tag 0 low high (omega arith)) (halving_end t tag low high h (omega arith))
parted t tag (suc steps) low high v h n =
    elim (dec_le high low) [
      | yes l ↦ rw (halved_done (table_of t) tag (suc steps) low high l) (halving_end t tag low high h l)
      | no l ↦
          let k : low < high = omega arith in
          elim (dec_le tag ((table_of t).row ((low + high) / 2)).number) [
            | yes g ↦
                rw (halved_down (table_of t) tag steps low high k g)
                (parted t tag steps low ((low + high) / 2) v (halving_down t tag low high ((table_of t).row ((low + high) / 2)).number h v k refl g) (omega arith))
            | no g ↦
                let s : ((table_of t).row ((low + high) / 2)).number < tag = omega arith in
                rw (halved_up (table_of t) tag steps low high k s)
                (parted t tag steps ((low + high) / 2 + 1) high v (halving_up t tag low high ((table_of t).row ((low + high) / 2)).number h v k refl s) (omega arith))
          ]
    ]

lower_parted : (t : List ℕ) (tag : ℕ) → tag_table_ok t ≡ true → Parted (table_of t) tag (lower_tags (table_of t) tag)
unfolding lower_tags
lower_parted t tag v =
    let n : (table_of t).count ≡ length t / 20 = table_count t in
    parted t tag (table_of t).count 0 (table_of t).count v (rw n (halving_start t tag)) (omega arith)

halves_find : (t : List ℕ) (tag : ℕ) → tag_table_ok t ≡ true → by_halves (table_of t) tag ≡ tag_index (table_of t) tag
unfolding by_halves
halves_find t tag v =
    let p : Parted (table_of t) tag (lower_tags (table_of t) tag) = lower_parted t tag v in
    let i : ℕ = lower_tags (table_of t) tag in
    elim (dec_le (length t / 20) i) [
      | yes l ↦ sym (here_past t tag i None None l refl) ∙ part_past t tag i p l
      | no l ↦
          let k : i < length t / 20 = omega arith in
          test_cases (eqb ((table_of t).row i).number tag)
          (λ q. sym (here_hit t tag i ((table_of t).row i).number None k refl (eqb-true ((table_of t).row i).number tag q))
          ∙ part_hit t tag i ((table_of t).row i).number p k refl (eqb-true ((table_of t).row i).number tag q))
          (λ q. sym (here_miss t tag i ((table_of t).row i).number None None k refl (eqb-false ((table_of t).row i).number tag q) refl)
          ∙ part_miss t tag i ((table_of t).row i).number v p k refl (eqb-false ((table_of t).row i).number tag q))
    ]

-- in a valid table the search finds the record with the tag, whatever the guess
pub find_tag_law : (t : List ℕ) (guess tag : ℕ) → tag_table_ok t ≡ true → find_tag (table_of t) guess tag ≡ tag_index (table_of t) tag
unfolding find_tag
find_tag_law t guess tag v =
    elim (dec_le (length t / 20) guess) [
      | yes l ↦ sym (here_past t tag guess (by_halves (table_of t) tag) (by_halves (table_of t) tag) l refl) ∙ halves_find t tag v
      | no l ↦
          let k : guess < length t / 20 = omega arith in
          test_cases (eqb ((table_of t).row guess).number tag)
          (λ q. sym (here_hit t tag guess ((table_of t).row guess).number (by_halves (table_of t) tag) k refl (eqb-true ((table_of t).row guess).number tag q))
          ∙ sym (rw (eqb-true ((table_of t).row guess).number tag q) at (tag_finds (table_of t) guess (tags_fit t v) (rw (table_count t) k))))
          (λ q. sym (here_miss t tag guess ((table_of t).row guess).number (by_halves (table_of t) tag) (by_halves (table_of t) tag) k refl (eqb-false ((table_of t).row guess).number tag q) refl)
          ∙ halves_find t tag v)
    ]

-- the same in the shape of the needs
pub search_hit : (t : List ℕ) (tag low x : ℕ) → low ≡ lower_tags (table_of t) tag → low < length t / 20 → x ≡ ((table_of t).row low).number → x ≡ tag
    → Some low ≡ by_halves (table_of t) tag
unfolding by_halves
search_hit t tag low x q l e f = rw (← q) (here_hit t tag low x None l e f)

pub search_miss : (t : List ℕ) (tag low x : ℕ) → low ≡ lower_tags (table_of t) tag → low < length t / 20 → x ≡ ((table_of t).row low).number → (x ≡ tag → ⊥)
    → None ≡ by_halves (table_of t) tag
unfolding by_halves
search_miss t tag low x q l e f = rw (← q) (here_miss t tag low x None None l e f refl)

pub search_past : (t : List ℕ) (tag low : ℕ) → low ≡ lower_tags (table_of t) tag → length t / 20 ≤ low → None ≡ by_halves (table_of t) tag
unfolding by_halves
search_past t tag low q l = rw (← q) (here_past t tag low None None l refl)

pub find_hit : (t : List ℕ) (guess tag x : ℕ) → guess < length t / 20 → x ≡ ((table_of t).row guess).number → x ≡ tag → Some guess ≡ find_tag (table_of t) guess tag
unfolding find_tag
find_hit t guess tag x l e f = here_hit t tag guess x (by_halves (table_of t) tag) l e f

pub find_miss : (t : List ℕ) (guess tag x : ℕ) (r : Option ℕ) → guess < length t / 20 → x ≡ ((table_of t).row guess).number → (x ≡ tag → ⊥)
    → r ≡ by_halves (table_of t) tag → r ≡ find_tag (table_of t) guess tag
unfolding find_tag
find_miss t guess tag x r l e f g = here_miss t tag guess x r (by_halves (table_of t) tag) l e f g

pub find_past : (t : List ℕ) (guess tag : ℕ) (r : Option ℕ) → length t / 20 ≤ guess → r ≡ by_halves (table_of t) tag → r ≡ find_tag (table_of t) guess tag
unfolding find_tag
find_past t guess tag r l g = here_past t tag guess r (by_halves (table_of t) tag) l g

-- what is found is a record of the table
here_in : (t : Table) (tag i j : ℕ) (other : Option ℕ) → here_or t tag i other ≡ Some j → (other ≡ Some j → j < t.count) → j < t.count
here_in t tag i j other e f =
    test_cases (ltb i t.count)
    (λ p. test_cases (eqb (t.row i).number tag)
    (λ q. let z : Some i ≡ Some j = rw (p, q) at e in let w : i ≡ j = cc in rw w at (ltb-true i t.count p))
    (λ q. f (rw (p, q) at e)))
    (λ p. f (rw p at e))

pub found_in : (t : List ℕ) (guess tag i : ℕ) (r : Option ℕ) → r ≡ find_tag (table_of t) guess tag → r ≡ Some i → i < length t / 20
unfolding find_tag by_halves
found_in t guess tag i r e f =
    rw (← table_count t)
    (here_in (table_of t) tag guess i (by_halves (table_of t) tag) (sym e ∙ f)
    (λ g. here_in (table_of t) tag (lower_tags (table_of t) tag) i None g (λ h. let z : ◌≡◌ {A = ℕ} 0 1 = cc in absurd (let b : ⊥ = omega arith in b))))
