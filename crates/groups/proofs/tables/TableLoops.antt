-- Module `tables`: rows, the checks and the look-ups; each fact in the shape of its need.
use mathlib.Core.Path.{◌≡◌, refl, sym, ap, ◌∙◌}
use mathlib.Core.List.{List}
use mathlib.Core.Bool.{Bool, true, false}
use Prim.Native.Nat.{ℕ, ◌+◌, ◌-◌, ◌*◌, ◌/◌, ◌%◌, ◌^◌, ◌<◌, ◌≤◌}
use native.Mathlib.Omega.{arith}
use mir.Val.{Fits}
use mir.Syntax.{w64}
use lib.Dec.{leb, eqb}
use lib.ListN.{length, take, drop, replicate, length-replicate, length-take, length-drop}
use lib.Seq.{drop-drop, take_all}
use borrow.Author.Tests.{eq-eqb, ne_eqb, lt-ltb, le-ltb, leb-true}
use Rattle.klv.specs.Number.{number}
use Rattle.klv.specs.Key.{is_key, key_or_zeros}
use Rattle.klv.specs.Compact.{FourBytes}
use Rattle.klv.proofs.Cases.{both_true}
use Rattle.klv.proofs.CompactLaws.{four_bytes_law}
use Rattle.klv.proofs.KeyLaws.{key_or_zeros_whole, key_at_tested}
use Rattle.groups.proofs.tables.TableLaws.{tags_fit, packs_fit, table_count}
use Rattle.groups.specs.Index.{Indexed, Checked}
use Rattle.groups.specs.Tables.{row_at, table_of, all_below, size_ok, differ_from, tag_row_ok, tag_table_ok, pack_row_ok, pack_table_ok}

-- a valid table has few records
pub tags_few : (t : List ℕ) → tag_table_ok t ≡ true → length t / 20 ≤ 256
tags_few t v = rw (← table_count t) (tags_fit t v).few

pub packs_few : (t : List ℕ) → pack_table_ok t ≡ true → length t / 20 ≤ 256
packs_few t v = rw (← table_count t) (packs_fit t v).few

-- ---- one record

pub row_key_is : (t : List ℕ) (i : ℕ) (r : List ℕ) → r ≡ key_or_zeros (drop (i * 20 + 4) t) → r ≡ ((table_of t).row i).key
unfolding table_of row_at
row_key_is t i r e = rw (drop-drop 4 (i * 20) t) e

-- ---- one record that the table has

pub listed_fits : (t : List ℕ) (i : ℕ) → i < length t / 20 → length t < 2 ^ 64 → Fits w64 (i * 20)
listed_fits t i l b = omega arith

pub listed_key_fits : (t : List ℕ) (i : ℕ) → i < length t / 20 → length t < 2 ^ 64 → Fits w64 (i * 20 + 4)
listed_key_fits t i l b = omega arith

pub listed_end_fits : (t : List ℕ) (i : ℕ) → i < length t / 20 → length t < 2 ^ 64 → Fits w64 (i * 20 + 4 + 16)
listed_end_fits t i l b = omega arith

pub record_four : (t : List ℕ) (i : ℕ) → i < length t / 20 → i * 20 + 4 ≤ length t
record_four t i l = omega arith

pub record_rest : (t : List ℕ) (i : ℕ) → i < length t / 20 → i * 20 + 4 + 16 ≤ length t
record_rest t i l = omega arith

-- the first n bytes of a part that has as many
part_front : (l : List ℕ) (n m : ℕ) → m ≡ n → take n (take m l) ≡ take n l
part_front l n m e = rw e (take_all n (take n l) (omega (arith, length-take n l)))

pub listed_value : (t : List ℕ) (i r : ℕ) → i < length t / 20 → FourBytes (take (i * 20 + 4 - i * 20) (drop (i * 20) t)) r → r ≡ ((table_of t).row i).number
unfolding table_of row_at
listed_value t i r l e =
    let m : i * 20 + 4 - i * 20 ≡ 4 = omega arith in
    let h : 4 ≤ length (drop (i * 20) t) = simp length-drop (omega arith) in
    let g : 4 ≤ length (take (i * 20 + 4 - i * 20) (drop (i * 20) t)) = rw m (omega (arith, length-take 4 (drop (i * 20) t))) in
    rw (four_bytes_law (drop (i * 20) t) h) (e.is ∙ four_bytes_law (take (i * 20 + 4 - i * 20) (drop (i * 20) t)) g ∙ ap (number 256 0) (part_front (drop (i * 20) t) 4 (i * 20 + 4 - i * 20) m))

-- a key out of a part of sixteen bytes
pub key_part_law : (l : List ℕ) (m : ℕ) (k : List ℕ) → m ≡ 16 → k ≡ take m l → k ≡ take 16 l
key_part_law l m k q e = rw q at e

pub listed_bytes : (t : List ℕ) (i : ℕ) (k : List ℕ) → i < length t / 20 → k ≡ take (i * 20 + 4 + 16 - (i * 20 + 4)) (drop (i * 20 + 4) t) → k ≡ ((table_of t).row i).key
unfolding table_of row_at
listed_bytes t i k l e =
    let h : 16 ≤ length (drop (i * 20 + 4) t) = simp length-drop (omega arith) in
    let b : k ≡ take 16 (drop (i * 20 + 4) t) = key_part_law (drop (i * 20 + 4) t) (i * 20 + 4 + 16 - (i * 20 + 4)) k (omega arith) e in
    rw (drop-drop 4 (i * 20) t, key_or_zeros_whole (drop (i * 20 + 4) t) h) b

-- ---- the size

pub size_broken : (t : List ℕ) → (length t % 20 ≡ 0 → ⊥) → false ≡ size_ok t
unfolding size_ok
size_broken t h = rw (ne_eqb (length t % 20) 0 h)

pub size_whole : (t : List ℕ) → length t % 20 ≡ 0 → leb (length t / 20) 256 ≡ size_ok t
unfolding size_ok
size_whole t h = rw (eq-eqb (length t % 20) 0 h)

pub size_most : (t : List ℕ) (b : Bool) → b ≡ size_ok t → b ≡ true → length t / 20 ≤ 256
unfolding size_ok
size_most t b e f =
    let p = both_true (eqb (length t % 20) 0) (leb (length t / 20) 256) (sym e ∙ f) in
    leb-true (length t / 20) 256 p.1

-- ---- the tag table

pub index_small : (n i : ℕ) → n ≤ 256 → i < n → i ≤ 256
index_small n i h l = omega arith

-- the check whole, and what it leaves in the index

pub tags_whole : (t x : List ℕ) (b s : Bool) → s ≡ size_ok t → s ≡ true → b ≡ all_below (tag_row_ok (table_of t)) (length t / 20) → Indexed t x → Checked t x b
unfolding tag_table_ok
tags_whole t x b s u v e d = record { answer = rw (← u, v) e; size = d.size }

pub tags_size : (t x : List ℕ) (s : Bool) → s ≡ size_ok t → s ≡ false → x ≡ replicate 512 0 → Checked t x false
unfolding tag_table_ok
tags_size t x s u v g = record { answer = rw (← u, v); size = let z : ℕ = 0 in rw g (length-replicate 512 z) }

-- ---- one record of a tag table

pub tag_row_no_key : (t : List ℕ) (i : ℕ) (k : List ℕ) (b : Bool) → k ≡ ((table_of t).row i).key → b ≡ is_key k → b ≡ false → false ≡ tag_row_ok (table_of t) i
unfolding tag_row_ok
tag_row_no_key t i k b e f h = let q : is_key ((table_of t).row i).key ≡ false = cc in rw q

pub tag_row_first : (t : List ℕ) (i : ℕ) (k : List ℕ) (b r : Bool) → k ≡ ((table_of t).row i).key → b ≡ is_key k → b ≡ true → i ≡ 0
    → r ≡ all_below (differ_from (table_of t) k) i → r ≡ tag_row_ok (table_of t) i
unfolding tag_row_ok
tag_row_first t i k b r e f h z g =
    let q : is_key ((table_of t).row i).key ≡ true = cc in
    let s : r ≡ all_below (differ_from (table_of t) ((table_of t).row i).key) i = rw e at g in
    rw (q, eq-eqb i 0 z) s

pub tag_row_rising : (t : List ℕ) (i : ℕ) (k : List ℕ) (b r : Bool) (x y : ℕ) → k ≡ ((table_of t).row i).key → b ≡ is_key k → b ≡ true → (i ≡ 0 → ⊥)
    → x ≡ ((table_of t).row (i - 1)).number → y ≡ ((table_of t).row i).number → x < y → r ≡ all_below (differ_from (table_of t) k) i → r ≡ tag_row_ok (table_of t) i
unfolding tag_row_ok
tag_row_rising t i k b r x y e f h z p u l g =
    let q : is_key ((table_of t).row i).key ≡ true = cc in
    let s : r ≡ all_below (differ_from (table_of t) ((table_of t).row i).key) i = rw e at g in
    rw (q, ne_eqb i 0 z, lt-ltb ((table_of t).row (i - 1)).number ((table_of t).row i).number (omega arith)) s

pub tag_row_falling : (t : List ℕ) (i : ℕ) (k : List ℕ) (b : Bool) (x y : ℕ) → k ≡ ((table_of t).row i).key → b ≡ is_key k → b ≡ true → (i ≡ 0 → ⊥)
    → x ≡ ((table_of t).row (i - 1)).number → y ≡ ((table_of t).row i).number → y ≤ x → false ≡ tag_row_ok (table_of t) i
unfolding tag_row_ok
tag_row_falling t i k b x y e f h z p u l =
    let q : is_key ((table_of t).row i).key ≡ true = cc in
    rw (q, ne_eqb i 0 z, le-ltb ((table_of t).row (i - 1)).number ((table_of t).row i).number (omega arith))

pub before_in : (t : List ℕ) (i : ℕ) → i < length t / 20 → i - 1 < length t / 20
before_in t i l = omega arith

pub before_small : (n i : ℕ) → n ≤ 256 → i < n → (i ≡ 0 → ⊥) → i - 1 ≤ 256
before_small n i h l z = omega arith

-- ---- the pack table

pack_row : (t : List ℕ) (i : ℕ) (b : Bool) → b ≡ is_key (take 16 (drop (i * 20 + 4) t)) → b ≡ pack_row_ok (table_of t) i
unfolding pack_row_ok
pack_row t i b e = e ∙ sym (key_at_tested (drop (i * 20 + 4) t)) ∙ ap is_key (row_key_is t i (key_or_zeros (drop (i * 20 + 4) t)) refl)

pub pack_row_good : (t : List ℕ) (i : ℕ) → is_key (take 16 (drop (i * 20 + 4) t)) ≡ true → pack_row_ok (table_of t) i ≡ true
pack_row_good t i e = sym (pack_row t i true (sym e))

pub pack_row_bad : (t : List ℕ) (i : ℕ) → is_key (take 16 (drop (i * 20 + 4) t)) ≡ false → pack_row_ok (table_of t) i ≡ false
pack_row_bad t i e = sym (pack_row t i false (sym e))

pub packs_whole : (t : List ℕ) (s b : Bool) → s ≡ size_ok t → s ≡ true → b ≡ all_below (pack_row_ok (table_of t)) (length t / 20) → b ≡ pack_table_ok t
unfolding pack_table_ok
packs_whole t s b u v e = rw (← u, v) e

pub packs_size : (t : List ℕ) (s : Bool) → s ≡ size_ok t → s ≡ false → s ≡ pack_table_ok t
unfolding pack_table_ok
packs_size t s u v = rw (← u, v)

-- ---- a search by halves: what is sought stands from `low` on, below `high`

pub record Between (t : List ℕ) (low high : ℕ) : Type 0 where
  pub below : low ≤ high
  pub within : high ≤ length t / 20

pub between_start : (t : List ℕ) → Between t 0 (length t / 20)
between_start t = record { below = omega arith; within = omega arith }

pub between_fits : (t : List ℕ) (low high : ℕ) → Between t low high → length t < 2 ^ 64 → Fits w64 (low + high)
between_fits t low high b h = omega (arith, b.below, b.within)

pub between_in : (t : List ℕ) (low high : ℕ) → Between t low high → low < high → (low + high) / 2 < length t / 20
between_in t low high b l = omega (arith, b.within)

pub between_next : (t : List ℕ) (low high : ℕ) → Between t low high → length t < 2 ^ 64 → low < high → Fits w64 ((low + high) / 2 + 1)
between_next t low high b h l = omega (arith, b.within)

pub between_up : (t : List ℕ) (low high : ℕ) → Between t low high → low < high → Between t ((low + high) / 2 + 1) high
between_up t low high b l = record { below = omega arith; within = b.within }

pub between_down : (t : List ℕ) (low high : ℕ) → Between t low high → low < high → Between t low ((low + high) / 2)
between_down t low high b l = record { below = omega arith; within = omega (arith, b.within) }
