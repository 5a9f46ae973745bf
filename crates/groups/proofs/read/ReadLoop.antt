-- `read::read_items` and what it calls: each fact in the shape of its need. The loop's invariant has the entries read so
-- far: with what is left they make the whole answer, and the two slices hold their keys and slots.
use mathlib.Core.Path.{◌≡◌, refl, sym, ap, ◌∙◌}
use mathlib.Core.List.{List, [], ◌∷◌, ◌++◌}
use mathlib.Core.Bool.{Bool, true, false}
use Prim.Native.Nat.{ℕ, suc, ◌+◌, ◌-◌, ◌*◌, ◌<◌, ◌≤◌}
use native.Mathlib.Omega.{arith}
use native.Mathlib.Decide.{dec_le}
use native.Mathlib.Numerals.{add-one}
use lib.Dec.{eqb, ltb}
use lib.ListN.{length, drop, length-append, length-drop}
use lib.Seq.{drop-drop}
use borrow.Author.Tests.{lt-ltb, le-ltb}
use Rattle.std.specs.Prelude.{Result, Ok, Err}
use Rattle.klv.specs.Pick.{pick}
use Rattle.klv.specs.Bytes.{pasted}
use Rattle.klv.proofs.Cases.{absurd_number}
use Rattle.klv.proofs.Paste.{pasted_none, pasted_pasted}
use Rattle.groups.specs.declared.item.Item.{Item}
use Rattle.groups.specs.declared.reader.Next.{Next}
use Rattle.groups.specs.declared.refusal.Refusal.{Refusal}
use Rattle.groups.specs.declared.refusal.Refused.{Refused}
use Rattle.groups.specs.declared.refusal.Refusal.TheVariants.{Surplus, Count}
use Rattle.groups.specs.declared.root.Group.{Group}
use Rattle.groups.specs.Refusal.{Answer, ok, refused}
use Rattle.groups.specs.Kind.{is_pack}
use Rattle.groups.specs.Read.{Entry, Under, head_of, read_item, size, cons, ended, read_items, under_of}
use Rattle.groups.specs.Reader.{next_of, next_offset}
use Rattle.groups.specs.Listing.{keys_of}
use Rattle.groups.specs.Slots.{slots_from, Roomy, Filled, Slot}
use Rattle.groups.proofs.reader.ReaderFacts.{next_is}
use Rattle.groups.proofs.item.EntryLaws.{entry_within, item_place, read_full, read_over, read_ended, read_next, read_refused, ended_at, total, total_more, prepend, prepend_more, prepend_none, prepend_refused, keys_more, slots_more}

-- ---- the loop

pub record Progress (g : Group) (tags packs s : List ℕ) (from : ℕ) (d e : List ℕ) (n at i : ℕ) (keys slots : List ℕ) : Type 0 where
  pub entries : List Entry
  pub count : length entries ≡ i
  pub within : i ≤ n
  pub inside : at ≤ length s
  pub place : at ≡ from + total entries
  pub rest : prepend entries (read_items (under_of g tags packs) (n - i) i (drop at s)) ≡ read_items (under_of g tags packs) n 0 (drop from s)
  pub key_size : length (keys_of entries) ≡ 16 * i
  pub slot_size : length (slots_from from entries) ≡ 4 * i
  pub key_bytes : keys ≡ pasted d 0 (keys_of entries)
  pub slot_numbers : slots ≡ pasted e 0 (slots_from from entries)
  pub key_length : length keys ≡ length d
  pub slot_length : length slots ≡ length e

pub progress_start : (g : Group) (tags packs s : List ℕ) (from : ℕ) (d e : List ℕ) (n : ℕ) → from ≤ length s → Progress g tags packs s from d e n from 0 d e
unfolding keys_of slots_from
progress_start g tags packs s from d e n h =
    let z : n - 0 ≡ n = omega arith in
    record {
      entries = [];
      count = refl;
      within = omega arith;
      inside = h;
      place = omega arith;
      rest = rw z;
      key_size = refl;
      slot_size = refl;
      key_bytes = sym (pasted_none d 0);
      slot_numbers = sym (pasted_none e 0);
      key_length = refl;
      slot_length = refl;
    }

-- an item by value tells the entry
item_told : {P : Type 0} (at : ℕ) (x : Answer Entry) (y : Result Next Refusal) (h : Next) → y ≡ next_of at (head_of x) → y ≡ Ok h
    → ((e : Entry) → x ≡ ok e → e.label ≡ h.item.label → e.width ≡ h.item.width → length e.value ≡ h.item.length → e.key ≡ h.item.key
    → h.at ≡ at + h.item.label + h.item.width + h.item.length → P) → P
item_told at (ok e) y h p q f =
    let i : Item = record { label = e.label; width = e.width; length = length e.value; key = e.key } in
    let n : Next = record { item = i; at = next_offset at i } in
    let z : n ≡ h = cc in
    f e refl (ap (λ (m : Next). m.item.label) z) (ap (λ (m : Next). m.item.width) z) (ap (λ (m : Next). m.item.length) z) (ap (λ (m : Next). m.item.key) z)
    (rw (← z) (sym (next_is at i)))
item_told at (refused r p) y h q f k = absurd_number (cc)

refused_told : {P : Type 0} (at : ℕ) (x : Answer Entry) (y : Result Next Refusal) (r : Refusal) → y ≡ next_of at (head_of x) → y ≡ Err r → ((p : ℕ) → x ≡ refused r p → P) → P
refused_told at (ok e) y r p q f = absurd_number (cc)
refused_told at (refused r' p') y r p q f = let z : r' ≡ r = cc in f p' (rw z)

not_ended : (u : Under) (s : List ℕ) (at : ℕ) (pack stop : Bool) → at ≤ length s → pack ≡ is_pack u.kind → stop ≡ pick pack false (eqb at (length s)) → stop ≡ false
    → ended u (drop at s) ≡ false
not_ended u s at pack stop h e f g = rw (ended_at u s at h, ← e) (sym f ∙ g)

-- ---- what an item leads to

module _ (g : Group) (tags packs s : List ℕ) (from : ℕ) (d e : List ℕ) (n at i : ℕ) (keys slots : List ℕ) (y : Result Next Refusal) (h : Next)
    (p : Progress g tags packs s from d e n at i keys slots) (q : y ≡ next_of at (head_of (read_item (under_of g tags packs) i (drop at s)))) (f : y ≡ Ok h) where
  item_inside : at + h.item.label + h.item.width + h.item.length ≤ length s
  item_inside =
      item_told at (read_item (under_of g tags packs) i (drop at s)) y h q f
      (λ x r la lw lm lk o.
      let b : size x ≤ length (drop at s) = entry_within (under_of g tags packs) i (drop at s) x r in
      let l : length (drop at s) ≡ length s - at = length-drop at s in
      let v : at ≤ length s = p.inside in
      omega arith)

  pub item_small : length s ≤ 65536 → at + h.item.label + h.item.width + h.item.length ≤ 65536
  item_small l = omega (arith, item_inside)

  pub progress_again : (pack stop : Bool) (keys' slots' : List ℕ) (j : ℕ) → Slot i h.item.key at h.item.label h.item.width h.item.length keys keys' slots slots' j
      → pack ≡ is_pack g.kind → stop ≡ pick pack false (eqb at (length s)) → stop ≡ false → i < n
      → length h.item.key ≡ 16 → Roomy n d e → length keys' ≡ length keys → length slots' ≡ length slots
      → Progress g tags packs s from d e n h.at j keys' slots'
  progress_again pack stop keys' slots' j slot is-pack stops go less size16 roomy lk ls =
      let a : ℕ = h.item.label in
      let w : ℕ = h.item.width in
      let m : ℕ = h.item.length in
      item_told at (read_item (under_of g tags packs) i (drop at s)) y h q f
      (λ x r la lw lm xk ta.
      rw (ta, slot.place)
      (
      let b : at + a + w + m ≤ length s = item_inside in
      let z : n - i ≡ suc (n - (i + 1)) = omega arith in
      let v : at + size x ≡ at + a + w + m = omega arith in
      let o : ended (under_of g tags packs) (drop at s) ≡ false = not_ended (under_of g tags packs) s at pack stop p.inside is-pack stops go in
      let st : read_items (under_of g tags packs) (suc (n - (i + 1))) i (drop at s) ≡ cons x (read_items (under_of g tags packs) (n - (i + 1)) (suc i) (drop (size x) (drop at s))) =
      read_next (under_of g tags packs) (n - (i + 1)) i (drop at s) x o r in
      let dd : drop (size x) (drop at s) ≡ drop (at + a + w + m) s = drop-drop (size x) at s ∙ ap (λ (y : ℕ). drop y s) v in
      let rs : prepend p.entries (cons x (read_items (under_of g tags packs) (n - (i + 1)) (suc i) (drop (at + a + w + m) s))) ≡ read_items (under_of g tags packs) n 0 (drop from s) =
      rw dd at (rw st at (rw z at p.rest)) in
      let ks : length (keys_of p.entries) ≡ 16 * i = p.key_size in
      let ps : length (slots_from from p.entries) ≡ 4 * i = p.slot_size in
      let xl : length x.key ≡ 16 = ap length xk ∙ size16 in
      let kb : length keys ≡ length d = p.key_length in
      let sb : length slots ≡ length e = p.slot_length in
      let kr : 16 * n ≤ length d = roomy.keys in
      let sr : 4 * n ≤ length e = roomy.slots in
      let pl : at ≡ from + total p.entries = p.place in
      record {
        entries = p.entries ++ (x ∷ []);
        count = length-append p.entries (x ∷ []) ∙ (let c : length p.entries ≡ i = p.count in omega arith);
        within = omega arith;
        inside = b;
        place = rw (total_more p.entries x) (omega arith);
        rest = rw (add-one i, ← prepend_more p.entries x (read_items (under_of g tags packs) (n - suc i) (suc i) (drop (at + a + w + m) s))) (rw (add-one i) at rs);
        key_size = rw (keys_more p.entries x, length-append (keys_of p.entries) x.key, ks, xl) (omega arith);
        slot_size = rw (slots_more from p.entries x, length-append (slots_from from p.entries) ((from + total p.entries + x.label + x.width) ∷ length x.value ∷ x.width ∷ x.label ∷ []), ps) (omega arith);
        key_bytes =
            slot.key_bytes
            ∙ ap (λ (y : List ℕ). pasted y (16 * i) h.item.key) p.key_bytes
            ∙ ap (λ (y : ℕ). pasted (pasted d 0 (keys_of p.entries)) y h.item.key) (let c : 16 * i ≡ 0 + length (keys_of p.entries) = omega arith in c)
            ∙ pasted_pasted d 0 (keys_of p.entries) h.item.key (omega arith)
            ∙ ap (pasted d 0) (sym (keys_more p.entries x ∙ ap (λ (y : List ℕ). keys_of p.entries ++ y) xk));
        slot_numbers =
            slot.numbers
            ∙ ap (λ (y : List ℕ). pasted y (4 * i) ((at + a + w) ∷ m ∷ w ∷ a ∷ [])) p.slot_numbers
            ∙ ap (λ (y : ℕ). pasted (pasted e 0 (slots_from from p.entries)) y ((at + a + w) ∷ m ∷ w ∷ a ∷ [])) (let c : 4 * i ≡ 0 + length (slots_from from p.entries) = omega arith in c)
            ∙ pasted_pasted e 0 (slots_from from p.entries) ((at + a + w) ∷ m ∷ w ∷ a ∷ []) (omega arith)
            ∙ ap (pasted e 0) (sym (slots_more from p.entries x ∙ ap (λ (y : List ℕ). slots_from from p.entries ++ y) (slot_is x la lw lm pl)));
        key_length = lk ∙ kb;
        slot_length = ls ∙ sb;
      }))
    where
      slot_is : (x : Entry) → x.label ≡ h.item.label → x.width ≡ h.item.width → length x.value ≡ h.item.length → at ≡ from + total p.entries
          → (from + total p.entries + x.label + x.width) ∷ length x.value ∷ x.width ∷ x.label ∷ []
          ≡ (at + h.item.label + h.item.width) ∷ h.item.length ∷ h.item.width ∷ h.item.label ∷ []
      slot_is x la lw lm pl = rw (la, lw, lm, ← pl)

-- ---- where the loop returns

module _ (g : Group) (tags packs s : List ℕ) (from : ℕ) (d e : List ℕ) (n at i : ℕ) (keys slots : List ℕ) (p : Progress g tags packs s from d e n at i keys slots) where
  -- the answer is the entries so far
  filled_all : read_items (under_of g tags packs) (n - i) i (drop at s) ≡ ok []
      → Filled from (read_items (under_of g tags packs) n 0 (drop from s)) d keys e slots (Ok i)
  filled_all r =
      let all : read_items (under_of g tags packs) n 0 (drop from s) ≡ ok p.entries = sym p.rest ∙ ap (prepend p.entries) r ∙ prepend_none p.entries in
      record {
        answer = rw all (ap Ok (sym p.count));
        keys = λ es q. p.key_bytes ∙ ap (λ (y : List Entry). pasted d 0 (keys_of y)) (same_entries es (sym all ∙ q));
        slots = λ es q. p.slot_numbers ∙ ap (λ (y : List Entry). pasted e 0 (slots_from from y)) (same_entries es (sym all ∙ q));
      }
    where
      same_entries : (es : List Entry) → ok p.entries ≡ ok es → p.entries ≡ es
      same_entries es q = cc

  filled_refused : (r : Refusal) (x : ℕ) → read_items (under_of g tags packs) (n - i) i (drop at s) ≡ refused r x
      → Filled from (read_items (under_of g tags packs) n 0 (drop from s)) d keys e slots (Err (record { why = r; place = x }))
  filled_refused r x q =
      let all : read_items (under_of g tags packs) n 0 (drop from s) ≡ refused r x = sym p.rest ∙ ap (prepend p.entries) q ∙ prepend_refused p.entries r x in
      record {
        answer = rw all;
        keys = λ es z. let y : refused r x ≡ ok es = sym all ∙ z in absurd_number (cc);
        slots = λ es z. let y : refused r x ≡ ok es = sym all ∙ z in absurd_number (cc);
      }

  pub progress_stop : (pack stop : Bool) → pack ≡ is_pack g.kind → stop ≡ pick pack false (eqb at (length s)) → stop ≡ true → i < n
      → Filled from (read_items (under_of g tags packs) n 0 (drop from s)) d keys e slots (Ok i)
  progress_stop pack stop is-pack stops go less =
      let z : n - i ≡ suc (n - (i + 1)) = omega arith in
      let o : ended (under_of g tags packs) (drop at s) ≡ true = rw (ended_at (under_of g tags packs) s at p.inside, ← is-pack) (sym stops ∙ go) in
      filled_all (rw z (read_ended (under_of g tags packs) (n - (i + 1)) i (drop at s) o))

  pub progress_refused : (pack stop : Bool) (y : Result Next Refusal) (r : Refusal) → y ≡ next_of at (head_of (read_item (under_of g tags packs) i (drop at s))) → y ≡ Err r
      → pack ≡ is_pack g.kind → stop ≡ pick pack false (eqb at (length s)) → stop ≡ false → i < n
      → Filled from (read_items (under_of g tags packs) n 0 (drop from s)) d keys e slots (Err (record { why = r; place = i }))
  progress_refused pack stop y r q f is-pack stops go less =
      refused_told at (read_item (under_of g tags packs) i (drop at s)) y r q f
      (λ x v.
      let z : n - i ≡ suc (n - (i + 1)) = omega arith in
      let o : ended (under_of g tags packs) (drop at s) ≡ false = not_ended (under_of g tags packs) s at pack stop p.inside is-pack stops go in
      let xi : x ≡ i = item_place (under_of g tags packs) i (drop at s) r x v in
      let y' : read_item (under_of g tags packs) i (drop at s) ≡ refused r i = rw xi at v in
      filled_refused r i (rw z (read_refused (under_of g tags packs) (n - (i + 1)) i (drop at s) r i o y')))

  pub progress_end : (pack : Bool) (r : Result ℕ (Refused Refusal)) → pack ≡ is_pack g.kind → n ≤ i
      → r ≡ pick (ltb at (length s)) (Err (record { why = pick pack Surplus Count; place = i })) (Ok i)
      → Filled from (read_items (under_of g tags packs) n 0 (drop from s)) d keys e slots r
  progress_end pack r is-pack full q =
      let z : n - i ≡ 0 = omega arith in
      let l : length (drop at s) ≡ length s - at = length-drop at s in
      elim (dec_le (length s) at) [
        | yes h ↦ let q' : r ≡ Ok i = rw (le-ltb at (length s) h) at q in rw q' (filled_all (rw z (read_full (under_of g tags packs) i (drop at s) (omega arith))))
        | no h ↦
            let k : at < length s = omega arith in
            let q' : r ≡ Err (record { why = pick pack Surplus Count; place = i }) = rw (lt-ltb at (length s) k) at q in
            let o : read_items (under_of g tags packs) 0 i (drop at s) ≡ refused (pick pack Surplus Count) i = rw is-pack (read_over (under_of g tags packs) i (drop at s) (omega arith)) in
            rw q' (filled_refused (pick pack Surplus Count) i (rw z o))
      ]

-- ---- each pass holds one item

pub held_again : (i j k at label width size : ℕ) (key d x e y : List ℕ) → Slot i key at label width size d x e y j → i ≡ k → j ≡ k + 1
held_again i j k at label width size key d x e y slot same = rw (slot.place, same)

pub held_less : (i k n : ℕ) → i ≡ k → k < n → i < n
held_less i k n same less = omega arith

pub held_full : (i k n : ℕ) → i ≡ k → n ≤ k → n ≤ i
held_full i k n same full = omega arith

-- ---- what the calls ask

pub place_small : (n i : ℕ) (d e : List ℕ) → Roomy n d e → i < n → i ≤ 256
place_small n i d e r h = omega (arith, r.few)

pub place_less : (n i : ℕ) (d e : List ℕ) → Roomy n d e → i < n → i ≤ 255
place_less n i d e r h = omega (arith, r.few)

pub key_room_law : (g : Group) (tags packs s : List ℕ) (from : ℕ) (d e : List ℕ) (n at i : ℕ) (keys slots : List ℕ)
    → Progress g tags packs s from d e n at i keys slots → Roomy n d e → i < n → 16 * i + 16 ≤ length keys
key_room_law g tags packs s from d e n at i keys slots p r h = omega (arith, p.key_length, r.keys)

pub slot_room : (g : Group) (tags packs s : List ℕ) (from : ℕ) (d e : List ℕ) (n at i : ℕ) (keys slots : List ℕ)
    → Progress g tags packs s from d e n at i keys slots → Roomy n d e → i < n → 4 * i + 4 ≤ length slots
slot_room g tags packs s from d e n at i keys slots p r h = omega (arith, p.slot_length, r.slots)
