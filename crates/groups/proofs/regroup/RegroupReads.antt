-- `regroup::regroup_by`, `regroup_items` and the calls before them: each fact in the shape of its need.
use mathlib.Core.Path.{◌≡◌, refl, sym, ap, ◌∙◌}
use mathlib.Core.List.{List, ◌++◌}
use mathlib.Core.Bool.{Bool, true, false}
use Prim.Native.Nat.{ℕ, ◌+◌, ◌*◌, ◌/◌, ◌<◌, ◌≤◌}
use native.Mathlib.Omega.{arith}
use lib.Dec.{leb, eqb}
use lib.ListN.{length, take, drop, replicate, length-take, length-replicate, get_or-append}
use lib.Seq.{take_all}
use borrow.Author.Tests.{le-leb, lt-leb, eq-eqb, ne_eqb, eqb-false}
use Rattle.std.specs.Prelude.{Result, Ok, Err}
use Rattle.klv.specs.Bytes.{pasted}
use Rattle.klv.specs.Key.{is_key, key_or_zeros}
use Rattle.klv.specs.Pick.{pick}
use Rattle.klv.proofs.Cases.{absurd_number, test_cases}
use Rattle.klv.proofs.KeyLaws.{key_or_zeros_whole, key_size, zeros_no_key}
use Rattle.klv.proofs.Paste.{pasted_is}
use Rattle.groups.specs.declared.kind.Kind.{Kind}
use Rattle.groups.specs.declared.refusal.Refusal.{Refusal}
use Rattle.groups.specs.declared.refusal.Refused.{Refused}
use Rattle.groups.specs.declared.refusal.Refusal.TheVariants.{TagTable, PackTable, Target, Oversize, GroupKey, Family, Count}
use Rattle.groups.specs.declared.root.Group.{Group}
use Rattle.groups.specs.Refusal.{Answer, ok, refused, said}
use Rattle.groups.specs.Kind.{kind_of, is_group, is_pack, family, family_of}
use Rattle.groups.specs.Root.{group_of}
use Rattle.groups.specs.Tables.{tag_table_ok, pack_table_ok}
use Rattle.groups.specs.Read.{Entry, under, under_of, group_key_ok, read_body, items, read}
use Rattle.groups.specs.Listing.{keys_of, start, read_up_to}
use Rattle.groups.specs.Slots.{Filled, Holding, Roomy, held_items, slots_from}
use Rattle.groups.specs.Write.{write}
use Rattle.groups.specs.Arrays.{write_held, whole_key}
use Rattle.groups.specs.Regroup.{target_ok, regroup_read, regroup_up_to, sourced, regroup_of, regrouped, Outcome, regrouped_says, Regroups}
use Rattle.groups.proofs.regroup.Accepted.{read_of}
use Rattle.groups.proofs.read.BodyFacts.{under_of_law, up_to_most, front_is}
use Rattle.groups.proofs.read.FewItems.{up_to_read, up_to_refused, up_to_count}
use Rattle.groups.proofs.slots.HeldItems.{held_items_law, length_slots, slot_offset, slot_size}
use Rattle.groups.proofs.kind.KindLaws.{group_size}
use Rattle.groups.proofs.listing.ListingFacts.{count_told}
use Rattle.groups.proofs.read.ReadGood.{read_good}
use Rattle.groups.proofs.tables.TableLoops.{packs_few}
use Rattle.groups.proofs.span.SpanLaws.{span_lies, values_stand}

-- ---- what the arrays hold after a reading

front_pasted : (d l : List ℕ) → pasted d 0 l ≡ l ++ drop (0 + length l) d
front_pasted d l = pasted_is d 0 l

-- n items were read, of at most m: those of a pack's records, or k of a set
module _ (tags packs s : List ℕ) {kd kx sd sx : List ℕ} {n m : ℕ} (f : Filled (start s) (read_up_to m tags packs s) kd kx sd sx (Ok n)) (g : Group) (i : tag_table_ok tags ≡ true)
    (p : pack_table_ok packs ≡ true) (q : g ≡ group_of (take 16 s)) (h : is_group g.kind ≡ true) (l : length s ≤ 65536) (k : ℕ) (e : m ≡ pick (is_pack g.kind) (length packs / 20) k) (o : k ≤ 256) where
  all_read : {P : Type 0} → ((es : List Entry) → read_up_to m tags packs s ≡ ok es → read tags packs s ≡ ok es → length es ≡ n → P) → P
  unfolding group_of
  all_read w =
      count_told (read_up_to m tags packs s) n f.answer
      (λ es r c.
      let z : group_key_ok s ≡ true = rw q at h in
      let b : read_body tags packs s ≡ ok es = up_to_read tags packs s g k m o q e es r in
      w es r (read_of tags packs s es (record { tags_ok = i; packs_ok = p; most = le-leb (length s) 65536 l; group = z; body = b })) c)

  held_is : {P : Type 0} → ((es : List Entry) → read_up_to m tags packs s ≡ ok es → held_items 0 n kx sx s ≡ items es → P) → P
  held_is w =
      all_read
      (λ es r y c.
      let a = read_good tags packs s es y in
      let kf : kx ≡ keys_of es ++ drop (0 + length (keys_of es)) kd = f.keys es r ∙ front_pasted kd (keys_of es) in
      let sf : sx ≡ slots_from (start s) es ++ drop (0 + length (slots_from (start s) es)) sd = f.slots es r ∙ front_pasted sd (slots_from (start s) es) in
      w es r (rw (← c) (held_items_law s 0 (start s) es kx sx (drop (0 + length (keys_of es)) kd) (drop (0 + length (slots_from (start s) es)) sd) kf sf a.0 (values_stand tags packs s es y))))

  pub arrays_hold : 16 * m ≤ length kx → 4 * m ≤ length sx → Holding n kx sx s
  arrays_hold lk ls =
      all_read
      (λ es r y c.
      let a = read_good tags packs s es y in
      let b : length es ≤ 256 = a.1 in
      let u : length es ≤ m = up_to_count tags packs s m es r in
      let sf : sx ≡ slots_from (start s) es ++ drop (0 + length (slots_from (start s) es)) sd = f.slots es r ∙ front_pasted sd (slots_from (start s) es) in
      let sl : length (slots_from (start s) es) ≡ 4 * length es = length_slots (start s) es in
      record {
        keys_in = omega arith;
        spans = record {
          few = omega arith;
          slots_in = omega arith;
          inside = λ j v.
              rw (
                sf,
                get_or-append (slots_from (start s) es) (drop (0 + length (slots_from (start s) es)) sd) 0 (4 * j) (omega arith),
                get_or-append (slots_from (start s) es) (drop (0 + length (slots_from (start s) es)) sd) 0 (4 * j + 1) (omega arith),
                slot_offset (start s) es j,
                slot_size (start s) es j,
              )
              (span_lies tags packs s es j y (omega arith));
          small = l;
        };
      })

  pub items_written : (target d x : List ℕ) (to : Group) (r : Result ℕ (Refused Refusal)) → to ≡ group_of target
      → Outcome (write_held (under_of to tags packs) target (held_items 0 n kx sx s) (length d)) d x r
      → Outcome (regroup_up_to (pick (is_pack g.kind) (length packs / 20) k) tags packs target s (length d)) d x r
  unfolding write
  items_written target d x to r z w =
      held_is
      (λ es y v.
      let u : under_of to tags packs ≡ under target tags packs = ap (λ (a : Group). under_of a tags packs) z ∙ under_of_law target tags packs in
      rw (← e, y) (rw (u, v) at w))

-- the arrays have room for m items
pub rooms_for : (m b c : ℕ) → m ≤ 256 → 16 * m ≤ b → 4 * m ≤ c → Roomy m (replicate b 0) (replicate c 0)
rooms_for m b c h u v = record { few = h; keys = rw length-replicate u; slots = rw length-replicate v }

pub limit_most : (packs : List ℕ) (kd : Kind) (m k : ℕ) → m ≡ pick (is_pack kd) (length packs / 20) k → pack_table_ok packs ≡ true → k ≤ 256 → m ≤ 256
limit_most packs kd m k e h o =
    test_cases (is_pack kd) (λ t. let a : m ≡ length packs / 20 = rw t at e in omega (arith, packs_few packs h)) (λ t. let a : m ≡ k = rw t at e in omega arith)

-- ---- of at most 16 items, or of at most 256, which are all

module _ (tags packs s : List ℕ) (g : Group) (q : g ≡ group_of (take 16 s)) (target d x : List ℕ) (r : Result ℕ (Refused Refusal)) where
  -- what writing answers after an accepted reading is final
  pub few_written : (es : List Entry) → read_up_to (pick (is_pack g.kind) (length packs / 20) 16) tags packs s ≡ ok es
      → Outcome (regroup_up_to (pick (is_pack g.kind) (length packs / 20) 16) tags packs target s (length d)) d x r
      → Outcome (regroup_read tags packs target s (length d)) d x r
  few_written es e o =
      let b : read_body tags packs s ≡ ok es = up_to_read tags packs s g 16 (pick (is_pack g.kind) (length packs / 20) 16) (omega arith) q refl es e in
      rw b (rw e at o)

  -- every answer is final but `Count` at place 16 or later: a set has bytes left after its 16th item
  pub few_final : ((w : Refused Refusal) → r ≡ Err w → w.why ≡ Count → w.place < 16)
      → Outcome (regroup_up_to (pick (is_pack g.kind) (length packs / 20) 16) tags packs target s (length d)) d x r
      → Outcome (regroup_read tags packs target s (length d)) d x r
  few_final c o = up_to_cases (read_up_to m tags packs s) refl
    where
      m : ℕ
      m = pick (is_pack g.kind) (length packs / 20) 16

      up_to_cases : (a : Answer (List Entry)) → read_up_to m tags packs s ≡ a → Outcome (regroup_read tags packs target s (length d)) d x r
      up_to_cases (ok es) e = few_written es e o
      up_to_cases (refused why p) e =
          let h : Outcome (refused why p) d x r = rw e at o in
          let b : read_body tags packs s ≡ refused why p = up_to_refused tags packs s g 16 m (omega arith) q refl why p (c (record { why = why; place = p }) h.answer) e in
          rw b h

  -- into a slice that is as it was at entry
  pub many_regrouped : (y : List ℕ) → y ≡ d → Outcome (regroup_up_to (pick (is_pack g.kind) (length packs / 20) 256) tags packs target s (length y)) y x r
      → Outcome (regroup_read tags packs target s (length d)) d x r
  many_regrouped y e o = rw (e, up_to_most tags packs s g (pick (is_pack g.kind) (length packs / 20) 256) q refl) at o

-- a refusal leaves the slice as it was
pub refusal_kept : (a : Answer (List ℕ)) (d x : List ℕ) (w : Refused Refusal) → Outcome a d x (Err w) → x ≡ d
refusal_kept (ok l) d x w o = let z : Err w ≡ regrouped (ok l) = o.answer in absurd_number (cc)
refusal_kept (refused r p) d x w o = o.bytes

-- ---- the target

pub whole_is : (s : List ℕ) (f : List ℕ) → f ≡ key_or_zeros (drop 0 s) → length s ≡ 16 → f ≡ whole_key s
whole_is s f e h =
    let a : f ≡ take 16 s = (e ∙ key_or_zeros_whole s (omega arith)) in
    rw (eq-eqb (length s) 16 h) (a ∙ take_all 16 s (omega arith))

pub whole_not : (s : List ℕ) → (length s ≡ 16 → ⊥) → replicate 16 0x00 ≡ whole_key s
whole_not s h = rw (ne_eqb (length s) 16 h)

no_kind : (k : List ℕ) → is_key k ≡ false → is_group (kind_of k) ≡ false
unfolding kind_of
no_kind k e = rw e

not_sixteen : (s : List ℕ) → (length s ≡ 16 → ⊥) → is_key s ≡ false
not_sixteen s h = test_cases (is_key s) (λ t. absurd (h (key_size s t))) (λ t. t)

-- a slice of another length has no group's key
whole_kind : (s : List ℕ) → is_group (kind_of (whole_key s)) ≡ is_group (kind_of s)
whole_kind s =
    test_cases (eqb (length s) 16)
    (λ t. rw t)
    (λ t. rw t (no_kind (replicate 16 0x00) zeros_no_key ∙ sym (no_kind s (not_sixteen s (eqb-false (length s) 16 t)))))

kind_of_law : (k : List ℕ) (g : Group) → g ≡ group_of k → g.kind ≡ kind_of k
unfolding group_of
kind_of_law k g e = ap (λ (x : Group). x.kind) e

target_told : (s k : List ℕ) (g : Group) (b : Bool) → k ≡ whole_key s → g ≡ group_of k → b ≡ is_group g.kind → target_ok s ≡ b
target_told s k g b e f h = sym (h ∙ ap is_group (kind_of_law k g f) ∙ ap (λ (x : List ℕ). is_group (kind_of x)) e ∙ whole_kind s)

target_sixteen : (s k : List ℕ) (g : Group) (b : Bool) → k ≡ whole_key s → g ≡ group_of k → b ≡ is_group g.kind → b ≡ true → length s ≡ 16
target_sixteen s k g b e f h t = group_size s (target_told s k g b e f h ∙ t)

target_key : (s k : List ℕ) (g : Group) (b : Bool) → k ≡ whole_key s → g ≡ group_of k → b ≡ is_group g.kind → b ≡ true → k ≡ s
target_key s k g b e f h t = e ∙ rw (eq-eqb (length s) 16 (target_sixteen s k g b e f h t))

-- ---- refusals 4 to 6

pub oversize_refused : (tags packs target s d : List ℕ) → 65536 < length s → Outcome (sourced tags packs target s (length d)) d d (Err (record { why = Oversize; place = 0 }))
oversize_refused tags packs target s d l = let y : leb (length s) 65536 ≡ false = lt-leb (length s) 65536 l in record { answer = rw y; bytes = rw y }

module _ (tags packs target s d : List ℕ) (from : Group) (a : List ℕ) (b : Bool) (p : a ≡ key_or_zeros (drop 0 s)) (q : from ≡ group_of a) (r : b ≡ is_group from.kind) (l : length s ≤ 65536) where
  small : leb (length s) 65536 ≡ true
  small = le-leb (length s) 65536 l

  front_told : group_key_ok s ≡ b
  front_told = sym (r ∙ ap is_group (kind_of_law (take 16 s) from (front_is s a from p q)))

  pub key_refused : b ≡ false → Outcome (sourced tags packs target s (length d)) d d (Err (record { why = GroupKey; place = 0 }))
  key_refused u = let x : group_key_ok s ≡ false = front_told ∙ u in record { answer = rw (small, x); bytes = rw (small, x) }

  akin_told : (to : Group) (v : Bool) → b ≡ true → to ≡ group_of target → v ≡ family_of from.kind to.kind a target → family (take 16 s) target ≡ v
  akin_told to v u f w =
      let g : is_group (kind_of (take 16 s)) ≡ true = front_told ∙ u in
      let m : 16 ≤ length s = omega (arith, group_size (take 16 s) g, length-take 16 s) in
      let ab : a ≡ take 16 s = (p ∙ key_or_zeros_whole s m) in
      let fk : from.kind ≡ kind_of (take 16 s) = kind_of_law (take 16 s) from (front_is s a from p q) in
      let tk : to.kind ≡ kind_of target = kind_of_law target to f in
      sym (rw (fk, tk, ab) at w)

  pub family_refused : (to : Group) (v : Bool) → b ≡ true → to ≡ group_of target → v ≡ family_of from.kind to.kind a target → v ≡ false
      → Outcome (sourced tags packs target s (length d)) d d (Err (record { why = Family; place = 0 }))
  family_refused to v u f w o =
      let x : group_key_ok s ≡ true = front_told ∙ u in
      let c : family (take 16 s) target ≡ false = akin_told to v u f w ∙ o in
      record { answer = rw (small, x, c); bytes = rw (small, x, c) }

  pub source_regroups : (to : Group) (v : Bool) (y : List ℕ) (i : Result ℕ (Refused Refusal)) → Outcome (regroup_read tags packs target s (length d)) d y i
      → b ≡ true → to ≡ group_of target → v ≡ family_of from.kind to.kind a target → v ≡ true → Outcome (sourced tags packs target s (length d)) d y i
  source_regroups to v y i o u f w j =
      let x : group_key_ok s ≡ true = front_told ∙ u in
      let c : family (take 16 s) target ≡ true = akin_told to v u f w ∙ j in
      rw (small, x, c) o

-- ---- refusals 1 to 3

pub tags_refused : (tags packs target s d : List ℕ) (t : Bool) → t ≡ tag_table_ok tags → t ≡ false → Regroups tags packs target s d d (Err (record { why = TagTable; place = 0 }))
unfolding regroup_of
tags_refused tags packs target s d t e f = let z : tag_table_ok tags ≡ false = sym e ∙ f in record { answer = rw z; says = rw z; bytes = rw z }

pub packs_refused : (tags packs target s d : List ℕ) (t u : Bool) → t ≡ tag_table_ok tags → t ≡ true → u ≡ pack_table_ok packs → u ≡ false
    → Regroups tags packs target s d d (Err (record { why = PackTable; place = 0 }))
unfolding regroup_of
packs_refused tags packs target s d t u e f g h =
    let z : tag_table_ok tags ≡ true = sym e ∙ f in
    let y : pack_table_ok packs ≡ false = sym g ∙ h in
    record { answer = rw (z, y); says = rw (z, y); bytes = rw (z, y) }

module _ (tags packs target s d k : List ℕ) (to : Group) (b : Bool) (z : tag_table_ok tags ≡ true) (y : pack_table_ok packs ≡ true) (p : k ≡ whole_key target) (q : to ≡ group_of k)
    (r : b ≡ is_group to.kind) where
  pub target_refused : b ≡ false → Outcome (regroup_of tags packs target s (length d)) d d (Err (record { why = Target; place = 0 }))
  unfolding regroup_of
  target_refused w = let x : target_ok target ≡ false = target_told target k to b p q r ∙ w in record { answer = rw (z, y, x); bytes = rw (z, y, x) }

  pub target_regroups : (x : List ℕ) (i : Result ℕ (Refused Refusal)) → Outcome (sourced tags packs k s (length d)) d x i → b ≡ true → Outcome (regroup_of tags packs target s (length d)) d x i
  unfolding regroup_of
  target_regroups x i o w = let v : target_ok target ≡ true = target_told target k to b p q r ∙ w in rw (z, y, v) (rw (target_key target k to b p q r w) at o)

-- the answer in 01's words
pub says_of : (a : Answer (List ℕ)) → regrouped_says (regrouped a) ≡ said a
says_of (ok w) = refl
says_of (refused r p) = refl

pub regroups : (tags packs target s d x : List ℕ) (r : Result ℕ (Refused Refusal)) → Outcome (regroup_of tags packs target s (length d)) d x r → Regroups tags packs target s d x r
regroups tags packs target s d x r o = record {
  answer = o.answer;
  says = ap regrouped_says o.answer ∙ says_of (regroup_of tags packs target s (length d));
  bytes = o.bytes;
}
