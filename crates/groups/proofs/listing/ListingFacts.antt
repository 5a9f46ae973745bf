-- Module `listing`: the numbers, and the answer; each fact in the shape of its need.
use mathlib.Core.Path.{◌≡◌, refl, sym, ap, ◌∙◌}
use mathlib.Core.List.{List, [], ◌∷◌, ◌++◌, append_assoc}
use mathlib.Core.Bool.{true, false}
use mathlib.Core.Option.{some}
use Prim.Native.Nat.{ℕ, zero, suc, ◌+◌, ◌*◌, ◌<◌, ◌≤◌}
use native.Mathlib.Omega.{arith}
use native.Mathlib.Numerals.{add-one}
use lib.Dec.{leb}
use lib.ListN.{length, get_or, take, drop, set, replicate, length-append, length-replicate, length-set, get_or-append}
use lib.Seq.{take_at, take-suc, take_all}
use borrow.Author.Tests.{le-leb, lt-leb}
use Rattle.std.specs.Prelude.{Ok, Err}
use Rattle.klv.specs.Pick.{pick, both}
use Rattle.klv.specs.Bytes.{pasted}
use Rattle.klv.proofs.Cases.{absurd_number}
use Rattle.klv.proofs.KeyLaws.{key_size}
use Rattle.klv.proofs.Paste.{pasted_is, pasted_none, pasted_pasted, set_after, set_is_pasted}
use Rattle.groups.specs.declared.kind.Kind.{Kind}
use Rattle.groups.specs.declared.listing.Listed.{Listed}
use Rattle.groups.specs.declared.refusal.Refusal.{Refusal}
use Rattle.groups.specs.declared.refusal.Refused.{Refused}
use Rattle.groups.specs.declared.refusal.Refusal.TheVariants.{ShortSlice}
use Rattle.groups.specs.Refusal.{Answer, ok, refused, accepted}
use Rattle.groups.specs.Kind.{kind_of}
use Rattle.groups.specs.Span.{ber_lengths}
use Rattle.groups.specs.Read.{Entry, items, read}
use Rattle.groups.specs.Listing.{keys_of, numbers_from, tally, start, listing_of, listed, longer_items, Lists}
use Rattle.groups.specs.Slots.{Filled, Roomy, held_offset, held_size, held_numbers, longer_slots, slots_from}
use Rattle.groups.proofs.item.GoodItems.{AllKeys}
use Rattle.groups.proofs.slots.HeldItems.{length_slots, slot_offset, slot_size}
use Rattle.groups.proofs.read.ReadGood.{read_good}
use Rattle.groups.proofs.span.SpanLaws.{length_numbers, depth_one}
use Rattle.groups.proofs.listing.LongerFacts.{longer_counted}

-- ---- the numbers of the slots, one after another

held_length : (n : ℕ) (slots : List ℕ) → length (held_numbers n slots) ≡ 3 * n
unfolding held_numbers
held_length zero slots = refl
held_length (suc n) slots = rw (length-append (held_numbers n slots) (held_offset slots n ∷ held_size slots n ∷ 1 ∷ []), held_length n slots) (omega arith)

held_more : (n : ℕ) (slots : List ℕ) → held_numbers (suc n) slots ≡ held_numbers n slots ++ (held_offset slots n ∷ held_size slots n ∷ 1 ∷ [])
unfolding held_numbers
held_more n slots = refl

pub record Recording (d slots out : List ℕ) (n i : ℕ) : Type 0 where
  pub within : i ≤ n
  pub size : length out ≡ length d
  pub front : out ≡ pasted d 0 (held_numbers i slots)

pub listing_start : (d slots : List ℕ) (n : ℕ) → Recording d slots d n 0
unfolding held_numbers
listing_start d slots n = record { within = omega arith; size = refl; front = sym (pasted_none d 0) }

pub listing_again : (d slots out : List ℕ) (n i : ℕ) → Recording d slots out n i → i < n → 3 * n ≤ length d
    → Recording d slots (set (set (set out (3 * i) (get_or slots (4 * i) 0)) (3 * i + 1) (get_or slots (4 * i + 1) 0)) (3 * i + 2) 1) n (i + 1)
listing_again d slots out n i p l h =
    let a : ℕ = held_offset slots i in
    let b : ℕ = held_size slots i in
    let e : 3 * i ≡ 0 + length (held_numbers i slots) = omega (arith, held_length i slots) in
    let q : set out (3 * i) a ≡ pasted out (3 * i) (a ∷ []) = set_is_pasted out (3 * i) a (omega (arith, p.size)) in
    let r : set (pasted out (3 * i) (a ∷ [])) (3 * i + 1) b ≡ pasted out (3 * i) (a ∷ b ∷ []) = set_after out (3 * i) (a ∷ []) b (omega (arith, p.size)) in
    let t : set (pasted out (3 * i) (a ∷ b ∷ [])) (3 * i + 2) 1 ≡ pasted out (3 * i) (a ∷ b ∷ 1 ∷ []) = set_after out (3 * i) (a ∷ b ∷ []) 1 (omega (arith, p.size)) in
    record {
      within = omega arith;
      size = length-set (set (set out (3 * i) a) (3 * i + 1) b) (3 * i + 2) 1 ∙ length-set (set out (3 * i) a) (3 * i + 1) b ∙ length-set out (3 * i) a ∙ p.size;
      front =
          ap (λ (x : List ℕ). set (set x (3 * i + 1) b) (3 * i + 2) 1) q
          ∙ ap (λ (x : List ℕ). set x (3 * i + 2) 1) r
          ∙ t
          ∙ ap (λ (x : List ℕ). pasted x (3 * i) (a ∷ b ∷ 1 ∷ [])) p.front
          ∙ ap (λ (x : ℕ). pasted (pasted d 0 (held_numbers i slots)) x (a ∷ b ∷ 1 ∷ [])) e
          ∙ pasted_pasted d 0 (held_numbers i slots) (a ∷ b ∷ 1 ∷ []) (omega (arith, held_length i slots))
          ∙ ap (pasted d 0) (rw (add-one i) (sym (held_more i slots)));
    }

pub listing_end : (d slots out : List ℕ) (n i : ℕ) → Recording d slots out n i → n ≤ i → out ≡ pasted d 0 (held_numbers n slots)
listing_end d slots out n i p h = let w : i ≤ n = p.within in let e : i ≡ n = omega arith in rw e at p.front

pub first_in : (n i l : ℕ) → 3 * n ≤ l → i < n → 3 * i < l
first_in n i l h k = omega arith

pub second_in : (n i v : ℕ) (d slots out : List ℕ) → Recording d slots out n i → 3 * n ≤ length d → i < n → 3 * i + 1 < length (set out (3 * i) v)
second_in n i v d slots out p h k = rw (length-set out (3 * i) v) (omega (arith, p.size))

pub third_in : (n i v w : ℕ) (d slots out : List ℕ) → Recording d slots out n i → 3 * n ≤ length d → i < n
    → 3 * i + 2 < length (set (set out (3 * i) v) (3 * i + 1) w)
third_in n i v w d slots out p h k = rw (length-set (set out (3 * i) v) (3 * i + 1) w, length-set out (3 * i) v) (omega (arith, p.size))

pub front_in : (n i : ℕ) (d slots out : List ℕ) → Recording d slots out n i → 3 * n ≤ length d → i < n → 3 * i < length out
front_in n i d slots out p h k = omega (arith, p.size)

pub listing_length : (n i : ℕ) (d slots out : List ℕ) → Recording d slots out n i → length out ≡ length d
listing_length n i d slots out p = p.size

-- the slots of entries hold the listing's numbers
held_front : (at n : ℕ) (es : List Entry) (sr : List ℕ) → n ≤ length es → held_numbers n (slots_from at es ++ sr) ≡ take (3 * n) (numbers_from at es)
unfolding held_numbers
held_front at zero es sr h = refl
held_front at (suc n) es sr h =
    let l : List ℕ = numbers_from at es in
    let s : length (slots_from at es) ≡ 4 * length es = length_slots at es in
    let t : length l ≡ 3 * length es = length_numbers at es in
    let a : held_offset (slots_from at es ++ sr) n ≡ get_or l (3 * n) 0 = get_or-append (slots_from at es) sr 0 (4 * n) (omega arith) ∙ slot_offset at es n in
    let b : held_size (slots_from at es ++ sr) n ≡ get_or l (3 * n + 1) 0 = get_or-append (slots_from at es) sr 0 (4 * n + 1) (omega arith) ∙ slot_size at es n in
    let c : 3 * suc n ≡ suc (suc (suc (3 * n))) = omega arith in
    let e : 3 * n + 1 ≡ suc (3 * n) = omega arith in
    let f : 3 * n + 2 ≡ suc (suc (3 * n)) = omega arith in
    let g : get_or l (suc (suc (3 * n))) 0 ≡ 1 = rw f at (depth_one at es n (omega arith)) in
    let u : take (suc (3 * n)) l ≡ take (3 * n) l ++ (get_or l (3 * n) 0 ∷ []) = take_suc_is l (3 * n) (omega arith) in
    let v : take (suc (suc (3 * n))) l ≡ take (suc (3 * n)) l ++ (get_or l (suc (3 * n)) 0 ∷ []) = take_suc_is l (suc (3 * n)) (omega arith) in
    let w : take (suc (suc (suc (3 * n)))) l ≡ take (suc (suc (3 * n))) l ++ (get_or l (suc (suc (3 * n))) 0 ∷ []) = take_suc_is l (suc (suc (3 * n))) (omega arith) in
    let z : (take (3 * n) l ++ (get_or l (3 * n) 0 ∷ [])) ++ (get_or l (suc (3 * n)) 0 ∷ []) ≡ take (3 * n) l ++ (get_or l (3 * n) 0 ∷ get_or l (suc (3 * n)) 0 ∷ []) =
    append_assoc (take (3 * n) l) (get_or l (3 * n) 0 ∷ []) (get_or l (suc (3 * n)) 0 ∷ []) in
    rw (held_front at n es sr (omega arith), a, b, c, e, w, v, u, g, z, append_assoc)
  where
    take_suc_is : (l : List ℕ) (j : ℕ) → j < length l → take (suc j) l ≡ take j l ++ (get_or l j 0 ∷ [])
    take_suc_is l j h = take-suc l j 0 h

-- ---- the arrays hold the listing at their front

pub arrays_roomy : Roomy 256 (replicate 4096 0) (replicate 1024 0)
arrays_roomy = record { few = omega arith; keys = rw length-replicate (omega arith); slots = rw length-replicate (omega arith) }

keys_length : (es : List Entry) → AllKeys (items es) → length (keys_of es) ≡ 16 * length es
unfolding keys_of
keys_length [] a = refl
keys_length (e ∷ es) (k, a) = rw (length-append e.key (keys_of es), key_size e.key k, keys_length es a) (omega arith)

front_of : (d l : List ℕ) (n : ℕ) → length l ≡ n → take n (pasted d 0 l) ≡ l
front_of d l n e = rw (pasted_is d 0 l) (take_at l (drop (0 + length l) d) n e)

held_all : (at : ℕ) (es : List Entry) (n : ℕ) (x d : List ℕ) → length es ≡ n → x ≡ pasted d 0 (slots_from at es) → held_numbers n x ≡ numbers_from at es
held_all at es n x d l e =
    let f : x ≡ slots_from at es ++ drop (0 + length (slots_from at es)) d = e ∙ pasted_is d 0 (slots_from at es) in
    rw (← l, f, held_front at (length es) es (drop (0 + length (slots_from at es)) d) (omega arith)) (take_all (3 * length es) (numbers_from at es) (omega (arith, length_numbers at es)))

-- what an answer by value tells of the answer
pub count_told : {P : Type 0} (x : Answer (List Entry)) (n : ℕ) → Ok n ≡ tally x → ((es : List Entry) → x ≡ ok es → length es ≡ n → P) → P
count_told (ok es) n e f = f es refl (cc)
count_told (refused r p) n e f = absurd_number (cc)

-- and so of the listing's answer
pub listed_told : {P : Type 0} (kind : Kind) (x : Answer (List Entry)) (l : Listed) → Ok l ≡ listed kind x
    → ((es : List Entry) → x ≡ ok es → length es ≡ l.count → length (longer_items kind es) ≡ l.longer → P) → P
listed_told kind (ok es) l e f = f es refl (cc) (cc)
listed_told kind (refused r p) l e f = absurd_number (cc)

pub unlisted_told : {P : Type 0} (kind : Kind) (x : Answer (List Entry)) (w : Refused Refusal) → Err w ≡ listed kind x → (x ≡ refused w.why w.place → P) → P
unlisted_told kind (ok es) w e f = absurd_number (cc)
unlisted_told kind (refused r p) w e f = let a : r ≡ w.why = cc in let b : p ≡ w.place = cc in f (rw (a, b))

pub count_most : (tags packs group : List ℕ) {kd kx sd sx : List ℕ} {n : ℕ} → Filled (start group) (read tags packs group) kd kx sd sx (Ok n) → n ≤ 256
count_most tags packs group {kd} {kx} {sd} {sx} {n} f = count_told (read tags packs group) n f.answer (λ es r l. omega (arith, (read_good tags packs group es r).1))

-- n items were read
module _ (tags packs group : List ℕ) {kd kx sd sx : List ℕ} {n : ℕ} (f : Filled (start group) (read tags packs group) kd kx sd sx (Ok n)) where
  pub items_listed : (d e : List ℕ) (m : ℕ) (x y : List ℕ) → 16 * n ≤ length d → 3 * n ≤ length e → length kx ≡ 4096
      → x ≡ pick (both (leb (16 * n) (length d)) (leb (16 * n) (length kx))) (pasted d 0 (take (16 * n) kx)) d → y ≡ pasted e 0 (held_numbers n sx)
      → m ≡ pick (ber_lengths (kind_of (take 16 group))) (longer_slots n sx) 0
      → Lists tags packs group d x e y (Ok (record { count = n; longer = m }))
  unfolding listing_of
  items_listed d e m x y a b z o h w =
      let g : x ≡ pasted d 0 (take (16 * n) kx) = rw (le-leb (16 * n) (length d) a, le-leb (16 * n) (length kx) (omega (arith, count_most tags packs group f))) at o in
      count_told (read tags packs group) n f.answer
      (λ es r l.
      let k : length (keys_of es) ≡ 16 * n = keys_length es (read_good tags packs group es r).0 ∙ ap (λ (z : ℕ). 16 * z) l in
      let kf : take (16 * n) kx ≡ keys_of es = ap (take (16 * n)) (f.keys es r) ∙ front_of kd (keys_of es) (16 * n) k in
      let sf : held_numbers n sx ≡ numbers_from (start group) es = held_all (start group) es n sx sd l (f.slots es r) in
      let v : m ≡ length (longer_items (kind_of (take 16 group)) es) = w ∙ longer_counted (kind_of (take 16 group)) (start group) n es sx sd l (f.slots es r) in
      let t : leb (16 * length es) (length d) ≡ true = le-leb (16 * length es) (length d) (omega arith) in
      let u : leb (3 * length es) (length e) ≡ true = le-leb (3 * length es) (length e) (omega arith) in
      record {
        answer = rw (r, t, u) (cc (l, v));
        says = rw (r, t, u) (ap accepted (sym l));
        longer_forms = rw (r, t, u) (ap some v);
        keys = rw (r, t, u) (g ∙ ap (pasted d 0) kf);
        numbers = rw (r, t, u) (h ∙ ap (pasted e 0) sf);
      })

  pub short_keys : (d e : List ℕ) → length d < 16 * n → Lists tags packs group d d e e (Err (record { why = ShortSlice; place = 0 }))
  unfolding listing_of
  short_keys d e a =
      count_told (read tags packs group) n f.answer
      (λ es r l.
      let t : leb (16 * length es) (length d) ≡ false = lt-leb (16 * length es) (length d) (omega arith) in
      record { answer = rw (r, t); says = rw (r, t); longer_forms = rw (r, t); keys = rw (r, t); numbers = rw (r, t) })

  pub short_numbers : (d e : List ℕ) → 16 * n ≤ length d → length e < 3 * n → Lists tags packs group d d e e (Err (record { why = ShortSlice; place = 0 }))
  unfolding listing_of
  short_numbers d e a b =
      count_told (read tags packs group) n f.answer
      (λ es r l.
      let t : leb (16 * length es) (length d) ≡ true = le-leb (16 * length es) (length d) (omega arith) in
      let u : leb (3 * length es) (length e) ≡ false = lt-leb (3 * length es) (length e) (omega arith) in
      record { answer = rw (r, t, u); says = rw (r, t, u); longer_forms = rw (r, t, u); keys = rw (r, t, u); numbers = rw (r, t, u) })
