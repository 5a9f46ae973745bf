-- The listing refuses by its table.
use mathlib.Core.Path.{◌≡◌, sym, ap, ◌∙◌}
use mathlib.Core.Bool.{false}
use mathlib.Core.List.{List}
use Prim.Native.Nat.{ℕ, ◌*◌}
use native.Mathlib.Omega.{arith}
use lib.Dec.{leb}
use lib.ListN.{length}
use borrow.Author.Tests.{leb-false, lt-leb}
use Rattle.klv.specs.Pick.{both}
use Rattle.klv.proofs.Cases.{absurd_number, test_cases}
use Rattle.groups.specs.declared.refusal.Refusal.{Refusal}
use Rattle.groups.specs.declared.refusal.Refusal.TheVariants.{ShortSlice}
use Rattle.groups.specs.Refusal.{ok, refused}
use Rattle.groups.specs.Read.{Item, read, read_body, items}
use Rattle.groups.specs.Listing.{listing_of}
use Rattle.groups.proofs.regroup.Accepted.{reads_of, read_told}
use Rattle.groups.proofs.regroup.AnswerLaws.{then_refused, check_refused}
use Rattle.groups.proofs.read.ReadRefusals.{read_refused}
use Rattle.claims.specs.Condition.{ByTable}
use Rattle.claims.specs.ListingTable.{ListingInputs, listing, given, SlicesShort, short_keys, short_numbers, ListingCondition, is_of_reading, short_slice}
use Rattle.claims.proofs.ConditionLaws.{tabled}
use Rattle.claims.proofs.ConditionRefusals.{reads_body}
use Rattle.claims.proofs.Order.{RefusedBy, refused_before, refused_here, refused_first_step, refused_second_step, answer_cases}
use Rattle.claims.proofs.ReadTable.{reading_round, refused_told, reading_refuses, reads_items}
use Rattle.groups.proofs.item.GoodItems.{items_length_law}

module _ (j : ListingInputs) where
  -- a slice is short where the test of both rooms fails
  short_told : (xs : List Item) → both (leb (16 * length xs) j.key_room) (leb (3 * length xs) j.number_room) ≡ false → SlicesShort j xs
  short_told xs e =
      test_cases (leb (16 * length xs) j.key_room)
      (λ t. short_numbers (leb-false (3 * length xs) j.number_room (rw t at e)))
      (λ t. short_keys (leb-false (16 * length xs) j.key_room t))

  short_fails : (xs : List Item) → SlicesShort j xs → both (leb (16 * length xs) j.key_room) (leb (3 * length xs) j.number_room) ≡ false
  short_fails xs (short_keys h) = rw (lt-leb (16 * length xs) j.key_room h)
  short_fails xs (short_numbers h) =
      test_cases (leb (16 * length xs) j.key_room) (λ t. rw (t, lt-leb (3 * length xs) j.number_room h)) (λ t. rw t)

  told : (r : Refusal) (p : ℕ) → listing j ≡ refused r p → ListingCondition j r p
  unfolding listing_of
  told r p e =
      then_refused (read j.tags j.packs j.group) _ r p e
      (λ f. is_of_reading (read_refused j.tags j.packs j.group r p f) (refused_told (given j) r p f))
      (λ es f g. check_refused (both (leb (16 * length es) j.key_room) (leb (3 * length es) j.number_room)) ShortSlice _ r p g
      (λ t q z. short_slice (items es) q z (reads_items (given j) (items es) (reads_of j.tags j.packs j.group es f)) (short_told (items es) (rw (items_length_law es) t)))
      (λ t h. absurd_number (cc)))

  refuses : (r : Refusal) (p : ℕ) → ListingCondition j r p → RefusedBy (listing j) r p
  unfolding listing_of
  refuses r p (is_of_reading o c) = refused_first_step (read j.tags j.packs j.group) _ r p (reading_refuses (given j) r p o c)
  refuses r p (short_slice xs q z d h) =
      answer_cases (read j.tags j.packs j.group)
      (λ es e.
      let b : read_body j.tags j.packs j.group ≡ ok es = (read_told j.tags j.packs j.group es e).body in
      let s : d.entries ≡ es = (let k : ok d.entries ≡ ok es = sym (reads_body (given j) xs d) ∙ b in cc) in
      let x : xs ≡ items es = d.are ∙ ap items s in
      let f : both (leb (16 * length es) j.key_room) (leb (3 * length es) j.number_room) ≡ false = rw (items_length_law es) at (short_fails (items es) (rw x at h)) in
      rw q
      (refused_second_step (read j.tags j.packs j.group) _ es ShortSlice p e
      (refused_here (both (leb (16 * length es) j.key_room) (leb (3 * length es) j.number_room)) ShortSlice _ p f z)))
      (λ n m e.
      rw q
      (refused_first_step (read j.tags j.packs j.group) _ ShortSlice p
      (refused_before (read j.tags j.packs j.group) n m ShortSlice p e (omega (arith, reading_round n (read_refused j.tags j.packs j.group n m e))))))

pub listing_by_table : (j : ListingInputs) → ByTable (ListingCondition j) (listing j)
listing_by_table j = tabled (ListingCondition j) (listing j) (told j) (refuses j)
