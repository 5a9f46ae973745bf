-- Module `write::universal`: each fact in the shape of its need.
use mathlib.Core.Path.{◌≡◌}
use mathlib.Core.List.{List}
use Prim.Native.Nat.{ℕ, ◌+◌, ◌*◌, ◌<◌, ◌≤◌}
use native.Mathlib.Omega.{arith}
use mir.Val.{Fits}
use mir.Syntax.{w64}
use lib.ListN.{length, take, drop}
use Rattle.klv.specs.Layout.{written}
use Rattle.klv.specs.Compact.{compact_of}
use Rattle.klv.specs.declared.layout.Form.TheVariants.{Ber}
use Rattle.klv.specs.declared.compact.Compact.{Compact}
use Rattle.klv.proofs.LayoutLaws.{written_most}
use Rattle.groups.specs.Refusal.{ok}
use Rattle.groups.specs.Slots.{Held, Spanned, held_size, held_value, held_key}
use Rattle.groups.specs.Arrays.{Put, joined_items, part_of, fitting, total_size, none_after, keyed_size, keyed_item}
use Rattle.groups.proofs.label.LabelPuts.{key_long}
use Rattle.groups.proofs.span.PartFacts.{own_form, own_compact}
use Rattle.groups.proofs.slots.SlotFacts.{item_put, value_room}
use Rattle.groups.proofs.write.Totals.{Joining, joining_room, Summing, summing_again, summing_fits, summing_end, first_room, second_room}

-- ---- how many bytes the items take

module _ (slots : List ℕ) (n total i size w : ℕ) (m : Summing (keyed_size slots) none_after n total i) (l : i < n) (b : Held slots (4 * i + 1) size) (e : w ≡ length (written Ber size)) where
  keyed_most : 16 + w + size ≤ 8589934592
  keyed_most = omega (arith, b.small, written_most Ber size)

  keyed_is : keyed_size slots i ≡ ok (16 + w + size)
  keyed_is = let q : size ≡ held_size slots i = b.is in rw (← q, ← e)

  pub keyed_again : Summing (keyed_size slots) none_after n (total + (16 + w + size)) (i + 1)
  keyed_again = summing_again (keyed_size slots) none_after n total i m l (16 + w + size) keyed_is keyed_most

  pub keyed_fits : n ≤ 256 → Fits w64 (total + (16 + w + size))
  keyed_fits h = summing_fits (keyed_size slots) none_after n total i m l (16 + w + size) keyed_most h

pub keyed_all : (slots : List ℕ) (n total i : ℕ) → Summing (keyed_size slots) none_after n total i → n ≤ i → ok total ≡ total_size (keyed_size slots) none_after 0 n
keyed_all slots n total i m h = let z : total + 0 ≡ total = omega arith in rw z at (summing_end (keyed_size slots) none_after n total i m h)

pub width_fits : (size w : ℕ) → w ≡ length (written Ber size) → Fits w64 (16 + w)
width_fits size w e = omega (arith, written_most Ber size)

pub item_fits : (n w : ℕ) → w ≡ length (written Ber n) → n ≤ 4294967295 → Fits w64 (16 + w + n)
item_fits n w e h = omega (arith, written_most Ber n)

-- ---- an item

pub ber_known : (b : Compact) → b ≡ compact_of Ber → b ≡ compact_of b.layout.form
ber_known b e = own_compact Ber b e

module _ (keys slots s d : List ℕ) (i at : ℕ) (l : 16 * i + 16 ≤ length keys) (h : Spanned i slots s) (room : at + length (keyed_item keys slots s i) ≤ length d) where
  pub key_in : at + 16 ≤ length d
  unfolding keyed_item
  key_in = omega (arith, key_long keys i l, first_room (held_key keys i) (part_of (fitting Ber (held_size slots i))) (held_value slots s i) at d room)

  module _ (b : Compact) (size : ℕ) (e : b ≡ compact_of Ber) (c : Held slots (4 * i + 1) size) where
    length_is : part_of (fitting b.layout.form size) ≡ part_of (fitting Ber (held_size slots i))
    length_is = rw (own_form Ber b e, c.is)

    pub size_room : (x : List ℕ) (y : ℕ) → Put d at (take 16 (drop (16 * i) keys)) x y → y + length (part_of (fitting b.layout.form size)) ≤ length x
    unfolding keyed_item
    size_room x y p = rw length_is (second_room (held_key keys i) (part_of (fitting Ber (held_size slots i))) (held_value slots s i) at d room x y p)

    pub keyed_value : (x z : List ℕ) (y w : ℕ) → Put d at (take 16 (drop (16 * i) keys)) x y → Put x y (part_of (fitting b.layout.form size)) z w → w + size ≤ length z
    unfolding keyed_item
    keyed_value x z y w p q = value_room (held_key keys i) (part_of (fitting Ber (held_size slots i))) i at slots s d h room x z y w size c p (rw length_is at q)

    pub keyed_put : (x z v : List ℕ) (y w next offset : ℕ) → Held slots (4 * i) offset → Put d at (take 16 (drop (16 * i) keys)) x y
        → Put x y (part_of (fitting b.layout.form size)) z w → Put z w (take size (drop offset s)) v next → Put d at (keyed_item keys slots s i) v next
    unfolding keyed_item
    keyed_put x z v y w next offset o p q r =
        item_put (held_key keys i) (part_of (fitting Ber (held_size slots i))) i at slots s d h room x z v y w next offset size o c p (rw length_is at q) r

-- the next of n items has room
pub keyed_room : (keys slots s : List ℕ) (n from : ℕ) (d out : List ℕ) (at i : ℕ) → Joining (keyed_item keys slots s) n from d out at i → i < n
    → from + length (joined_items (keyed_item keys slots s) 0 n) ≤ length d → at + length (keyed_item keys slots s i) ≤ length out
keyed_room keys slots s n from d out at i w l h = joining_room (keyed_item keys slots s) n from d out at i w l h
