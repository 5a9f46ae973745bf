-- Bytes read if none of 1, 2, 4, 5, 7 to 11, 19 and 20 applies to them (01; 02, point 2), and reading is refused with the
-- first of these that does. The rows of reading say nothing of the target; with a global target the call is refused by no
-- other row before them.
use mathlib.Core.Path.{◌≡◌, refl, sym, ap, ◌∙◌}
use mathlib.Core.Bool.{true}
use mathlib.Core.List.{List, [], ◌∷◌}
use mathlib.Core.Logic.{◌↔◌}
use mathlib.Core.Option.{none, some}
use Prim.Native.Nat.{ℕ, ◌<◌, ◌≤◌}
use native.Mathlib.Omega.{arith}
use lib.Dec.{leb}
use lib.ListN.{length, take}
use Rattle.klv.specs.Bytes.{all_zero}
use Rattle.klv.specs.Key.{in_range, words, is_key, before_zero, label_length}
use Rattle.klv.proofs.Cases.{absurd_number, test_cases}
use Rattle.groups.specs.declared.refusal.Refusal.{Refusal}
use Rattle.groups.specs.declared.refusal.Refusal.TheVariants.{TagTable, PackTable, Target, Oversize, GroupKey, Family, OuterLength, LabelCutOff, LabelMalformed, LabelUnlisted, Span, Count, Surplus, NoLabel, NoSpan, LongOutput, ShortSlice}
use Rattle.groups.specs.Refusal.{number_of, refused, and_then, of_reading}
use Rattle.groups.specs.Kind.{kind_of_byte, kind_of, is_global, global_ok, family_of, family}
use Rattle.groups.specs.Read.{Item, Entry, read, items, reads_as}
use Rattle.groups.specs.Write.{write}
use Rattle.groups.specs.Regroup.{target_ok, sized}
use Rattle.groups.proofs.regroup.Accepted.{reads_told, reads_of, read_told}
use Rattle.groups.proofs.regroup.AnswerLaws.{then_refused, check_refused}
use Rattle.groups.proofs.read.ReadRefusals.{regroup_reads, refused_reading, read_refused}
use Rattle.claims.specs.Condition.{Inputs, ReadTo, LabelDue, Reads, Condition, round, by_round, by_item, by_turn}
use Rattle.claims.specs.Applies.{Applies, one_of, reading_numbers}
use Rattle.claims.proofs.Order.{NotLater, sooner, at_once, RefusedBy, answer_cases}
use Rattle.claims.proofs.RefusedConditions.{call, refused_condition}
use Rattle.claims.proofs.RefusedConditions as conditions
use Rattle.claims.proofs.ConditionRefusals.{condition_refuses}
use Rattle.claims.proofs.SizeConditions.{write_round}
use Rattle.claims.proofs.NumberLaws.{reading_number}

-- ---- a global target

abbrev any_target : List ℕ
any_target = 0x06 ∷ 0x0E ∷ 0x2B ∷ 0x34 ∷ 0x02 ∷ 0x02 ∷ 0x05 ∷ 0x01 ∷ 0x01 ∷ 0x01 ∷ 0x01 ∷ 0x02 ∷ 0x03 ∷ 0x00 ∷ 0x00 ∷ 0x00 ∷ []

any_global : is_global (kind_of any_target) ≡ true
unfolding kind_of kind_of_byte global_ok is_key in_range words before_zero label_length all_zero
any_global = refl

any_group : target_ok any_target ≡ true
unfolding kind_of kind_of_byte global_ok is_key in_range words before_zero label_length all_zero
any_group = refl

any_family : (k : List ℕ) → family k any_target ≡ true
unfolding family_of
any_family k = test_cases (is_global (kind_of k)) (λ t. rw t) (λ t. rw (t, any_global))

-- ---- the same inputs with another target and another output slice

abbrev moved : List ℕ → ℕ → Inputs → Inputs
moved target room i = record { tags = i.tags; packs = i.packs; target = target; group = i.group; room = room }

module _ (target : List ℕ) (room : ℕ) (i : Inputs) where
  move_read : (n : ℕ) (es : List Entry) (l : List ℕ) → ReadTo i n es l → ReadTo (moved target room i) n es l
  move_read n es l t = record { body = t.body; outer = t.outer; passed = t.passed }

  move_due : (n : ℕ) (l : List ℕ) → LabelDue i n l → LabelDue (moved target room i) n l
  move_due n l d = record { before = d.before; read_to = move_read n d.before l d.read_to; due = d.due }

  pub move_condition : (r : Refusal) (p : ℕ) → of_reading r ≡ true → Condition i r p → Condition (moved target room i) r p
  move_condition TagTable p o c = c
  move_condition PackTable p o c = c
  move_condition Target p o c = absurd_number (cc)
  move_condition Oversize p o c = c
  move_condition GroupKey p o c = c
  move_condition Family p o c = absurd_number (cc)
  move_condition OuterLength p o c = c
  move_condition LabelCutOff p o (l, d, e) = (l, move_due p l d, e)
  move_condition LabelMalformed p o (l, d, e) = (l, move_due p l d, e)
  move_condition LabelUnlisted p o (l, d, e) = (l, move_due p l d, e)
  move_condition Span p o (l, x, d, e, f) = (l, x, move_due p l d, e, f)
  move_condition Count p o (es, l, z, k, t, h) = (es, l, z, k, move_read p es l t, h)
  move_condition Surplus p o (es, l, z, k, t, h) = (es, l, z, k, move_read p es l t, h)
  move_condition NoLabel p o c = absurd_number (cc)
  move_condition NoSpan p o c = absurd_number (cc)
  move_condition LongOutput p o c = absurd_number (cc)
  move_condition ShortSlice p o c = absurd_number (cc)

-- ---- rounds

pub reading_round : (r : Refusal) → of_reading r ≡ true → round r ≤ 9
reading_round TagTable o = omega arith
reading_round PackTable o = omega arith
reading_round Target o = omega arith
reading_round Oversize o = omega arith
reading_round GroupKey o = omega arith
reading_round Family o = omega arith
reading_round OuterLength o = omega arith
reading_round LabelCutOff o = omega arith
reading_round LabelMalformed o = omega arith
reading_round LabelUnlisted o = omega arith
reading_round Span o = omega arith
reading_round Count o = omega arith
reading_round Surplus o = omega arith
reading_round NoLabel o = absurd_number (cc)
reading_round NoSpan o = absurd_number (cc)
reading_round LongOutput o = absurd_number (cc)
reading_round ShortSlice o = absurd_number (cc)

-- what is written and measured is refused in the rounds after them
later_round : (tags packs target : List ℕ) (xs : List Item) (room : ℕ) (r : Refusal) (p : ℕ) → and_then (write tags packs target xs) (sized room) ≡ refused r p → 9 < round r
later_round tags packs target xs room r p e =
    then_refused (write tags packs target xs) (sized room) r p e
    (λ f. omega (arith, write_round tags packs target xs r p f))
    (λ w f g. check_refused (leb (length w) 65536) LongOutput _ r p g
    (λ t q z. rw q (omega arith))
    (λ t h. check_refused (leb (length w) room) ShortSlice _ r p h (λ t q z. rw q (omega arith)) (λ t k. absurd_number (cc))))

not_later : (q : Refusal) (n : ℕ) (r : Refusal) (p : ℕ) → NotLater q n r p → round q ≤ round r
not_later q n r p (sooner (by_round h)) = omega arith
not_later q n r p (sooner (by_item h k)) = omega arith
not_later q n r p (sooner (by_turn h k l)) = omega arith
not_later q n r p (at_once h k) = rw h (omega arith)

-- ---- reading

module _ (i : Inputs) where
  -- a refusal of reading has its condition
  pub refused_told : (r : Refusal) (p : ℕ) → read i.tags i.packs i.group ≡ refused r p → Condition i r p
  refused_told r p e =
      let o : of_reading r ≡ true = read_refused i.tags i.packs i.group r p e in
      let c : Condition (moved any_target 0 i) r p =
      refused_condition (moved any_target 0 i) r p
      (refused_reading i.tags i.packs any_target i.group 0 r p any_group (any_family (take 16 i.group)) e) in
      move_condition i.target i.room (moved any_target 0 i) r p o c

  -- where a condition of reading holds, reading is refused, no later than that
  pub reading_refuses : (r : Refusal) (p : ℕ) → of_reading r ≡ true → Condition i r p → RefusedBy (read i.tags i.packs i.group) r p
  reading_refuses r p o c =
      let w : RefusedBy (call (moved any_target 0 i)) r p = condition_refuses (moved any_target 0 i) r p (move_condition any_target 0 i r p o c) in
      let s : call (moved any_target 0 i) ≡ and_then (read i.tags i.packs i.group) (λ (es : List Entry). and_then (write i.tags i.packs any_target (items es)) (sized 0)) =
      regroup_reads i.tags i.packs any_target i.group 0 any_group (any_family (take 16 i.group)) in
      then_refused (read i.tags i.packs i.group) _ w.refusal w.place (sym s ∙ w.is)
      (λ e. record { refusal = w.refusal; place = w.place; is = e; no_later = w.no_later })
      (λ es e f.
      let a : 9 < round w.refusal = later_round i.tags i.packs any_target (items es) 0 w.refusal w.place f in
      let b : round w.refusal ≤ round r = not_later w.refusal w.place r p w.no_later in
      absurd (let z : ⊥ = omega (arith, reading_round r o) in z))

  -- a number of reading that applies refuses the reading
  applies_unread : (n : ℕ) → one_of reading_numbers n ≡ true → Applies i n → reads_as i.tags i.packs i.group ≡ none
  unfolding reads_as
  applies_unread n o a =
      let h : of_reading a.row ≡ true = sym (reading_number a.row) ∙ (ap (one_of reading_numbers) a.numbered ∙ o) in
      let w : RefusedBy (read i.tags i.packs i.group) a.row a.place = reading_refuses a.row a.place h a.holds in
      rw w.is

  -- bytes read exactly if no number of reading applies to them
  pub reads_iff : ((xs : List Item) × (reads_as i.tags i.packs i.group ≡ some xs)) ↔ ((n : ℕ) → one_of reading_numbers n ≡ true → Applies i n → ⊥)
  reads_iff = (there, back)
    where
      there : (xs : List Item) × (reads_as i.tags i.packs i.group ≡ some xs) → (n : ℕ) → one_of reading_numbers n ≡ true → Applies i n → ⊥
      there (xs, e) n o a =
          let z : some xs ≡ none = sym e ∙ applies_unread n o a in
          absurd_number (cc)

      back : ((n : ℕ) → one_of reading_numbers n ≡ true → Applies i n → ⊥) → (xs : List Item) × (reads_as i.tags i.packs i.group ≡ some xs)
      back f =
          answer_cases (read i.tags i.packs i.group)
          (λ es e. (items es, reads_of i.tags i.packs i.group es e))
          (λ r p e.
          absurd (f (number_of r) (reading_number r ∙ read_refused i.tags i.packs i.group r p e)
          (record { row = r; place = p; numbered = refl; holds = refused_told r p e })))

  -- bytes to which 19 or 20 applies do not read either
  pub label_faults_unread : (Applies i 19 → reads_as i.tags i.packs i.group ≡ none) × (Applies i 20 → reads_as i.tags i.packs i.group ≡ none)
  label_faults_unread = (applies_unread 19 refl, applies_unread 20 refl)

  -- the item list is each item's full key with its value, in order
  pub reads_items : (xs : List Item) → reads_as i.tags i.packs i.group ≡ some xs → Reads i xs
  reads_items xs e =
      let t = reads_told i.tags i.packs i.group xs e in
      rw t.2 at (conditions.reads_of i t.0 (read_told i.tags i.packs i.group t.0 t.1).body)
