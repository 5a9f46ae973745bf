-- Sizes and bytes of items summed and joined from a place on: the loops of `write`, one law for every kind of item.
use mathlib.Core.Path.{◌≡◌, refl, sym, ap, ◌∙◌, subst}
use mathlib.Core.List.{List, [], ◌++◌, append_assoc, append-nil}
use Prim.Native.Nat.{ℕ, zero, suc, ◌+◌, ◌-◌, ◌*◌, ◌<◌, ◌≤◌}
use native.Mathlib.Omega.{arith}
use native.Mathlib.Numerals.{add-one}
use native.Mathlib.Nat.{add_assoc, zero-add, suc-mul}
use mir.Val.{Fits}
use mir.Syntax.{w64}
use lib.ListN.{length, length-append}
use Rattle.klv.specs.Bytes.{pasted}
use Rattle.klv.proofs.Cases.{absurd_number}
use Rattle.klv.proofs.Paste.{pasted_none, pasted_pasted, length_pasted}
use Rattle.groups.specs.declared.refusal.Refusal.{Refusal}
use Rattle.groups.specs.Refusal.{Answer, ok, refused, and_then}
use Rattle.groups.specs.Arrays.{Put, plus, total_size, joined_items}

-- ---- sums

plus_none : (x : Answer ℕ) → plus 0 x ≡ x
plus_none (ok b) = ap ok (zero-add b)
plus_none (refused r p) = refl

plus_plus : (a b : ℕ) (x : Answer ℕ) → plus a (plus b x) ≡ plus (a + b) x
plus_plus a b (ok c) = ap ok (sym (add_assoc a b c))
plus_plus a b (refused r p) = refl

total_more : (f after : ℕ → Answer ℕ) (place n a : ℕ) → f place ≡ ok a → total_size f after place (suc n) ≡ plus a (total_size f after (suc place) n)
unfolding total_size
total_more f after place n a e = rw e

total_refused : (f after : ℕ → Answer ℕ) (place n p : ℕ) (r : Refusal) → f place ≡ refused r p → total_size f after place (suc n) ≡ refused r p
unfolding total_size
total_refused f after place n p r e = rw e

total_none : (f after : ℕ → Answer ℕ) (place : ℕ) → total_size f after place 0 ≡ after place
unfolding total_size
total_none f after place = refl

-- i of n items are summed, `size` bytes so far, none of them above 2^33
pub record Summing (f after : ℕ → Answer ℕ) (n size i : ℕ) : Type 0 where
  pub within : i ≤ n
  pub small : size ≤ i * 8589934592
  pub rest : plus size (total_size f after i (n - i)) ≡ total_size f after 0 n

pub summing_start : (f after : ℕ → Answer ℕ) (n : ℕ) → Summing f after n 0 0
summing_start f after n =
    let z : n - 0 ≡ n = omega arith in
    record { within = omega arith; small = omega arith; rest = rw z (plus_none (total_size f after 0 n)) }

module _ (f after : ℕ → Answer ℕ) (n size i : ℕ) (m : Summing f after n size i) (l : i < n) where
  pub summing_again : (more : ℕ) → f i ≡ ok more → more ≤ 8589934592 → Summing f after n (size + more) (i + 1)
  summing_again more e h =
      let z : n - i ≡ suc (n - (i + 1)) = omega arith in
      let w : size ≤ i * 8589934592 = m.small in
      let t : plus size (plus more (total_size f after (suc i) (n - (i + 1)))) ≡ total_size f after 0 n =
      rw (total_more f after i (n - (i + 1)) more e) at (rw z at m.rest) in
      record {
        within = omega arith;
        small = omega arith;
        rest = rw (← plus_plus size more (total_size f after (i + 1) (n - (i + 1)))) (rw (add-one i) (rw (add-one i) at t));
      }

  pub summing_refused : (place : ℕ) (why : Refusal) → f i ≡ refused why place → total_size f after 0 n ≡ refused why place
  summing_refused place why e =
      let z : n - i ≡ suc (n - (i + 1)) = omega arith in
      sym (rw (total_refused f after i (n - (i + 1)) place why e) at (rw z at m.rest))

  pub summing_fits : (more : ℕ) → more ≤ 8589934592 → n ≤ 256 → Fits w64 (size + more)
  summing_fits more h k = omega (arith, m.small)

pub summing_end : (f after : ℕ → Answer ℕ) (n size i : ℕ) → Summing f after n size i → n ≤ i → plus size (after n) ≡ total_size f after 0 n
summing_end f after n size i m h =
    let w : i ≤ n = m.within in
    let e : i ≡ n = omega arith in
    let z : n - n ≡ 0 = omega arith in
    rw (total_none f after n) at (rw z at (rw e at m.rest))

-- sums of the same sizes are the same
pub total_alike : (f g after : ℕ → Answer ℕ) (place n : ℕ) → ((i : ℕ) → i < place + n → f i ≡ g i) → total_size f after place n ≡ total_size g after place n
unfolding total_size
total_alike f g after place zero h = refl
total_alike f g after place (suc n) h =
    rw (h place (omega arith), total_alike f g after (suc place) n (λ i l. h i (omega arith)))

-- ---- how large a sum can be

sum_told : {P : Type 0} (a n : ℕ) (x : Answer ℕ) → plus a x ≡ ok n → ((b : ℕ) → x ≡ ok b → n ≡ a + b → P) → P
sum_told a n (ok b) e f = f b refl (cc)
sum_told a n (refused r p) e f = absurd_number (cc)

then_told : {P : Type 0} (n : ℕ) (x : Answer ℕ) (f : ℕ → Answer ℕ) → and_then x f ≡ ok n → ((a : ℕ) → x ≡ ok a → f a ≡ ok n → P) → P
then_told n (ok a) f e g = g a refl e
then_told n (refused r p) f e g = absurd_number (cc)

pub total_most : (f after : ℕ → Answer ℕ) (place n m size : ℕ) → ((i a : ℕ) → i < place + n → f i ≡ ok a → a ≤ m) → ((i a : ℕ) → after i ≡ ok a → a ≡ 0)
    → total_size f after place n ≡ ok size → size ≤ n * m
unfolding total_size
total_most f after place zero m size h k e = let z : size ≡ 0 = k place size e in omega arith
total_most f after place (suc n) m size h k e =
    then_told size (f place) (λ (a : ℕ). plus a (total_size f after (suc place) n)) e
    (λ a p q.
    sum_told a size (total_size f after (suc place) n) q
    (λ b r z.
    let o : b ≤ n * m = total_most f after (suc place) n m b (λ i c l. h i c (omega arith)) k r in
    let c : a ≤ m = h place a (omega arith) p in
    let d : suc n * m ≡ n * m + m = suc-mul n m in
    omega arith))

-- ---- bytes

pub put_none : (d : List ℕ) (at : ℕ) → Put d at [] d at
put_none d at = record { end = omega arith; bytes = sym (pasted_none d at) }

pub put_then : (d x z a b : List ℕ) (at y w : ℕ) → Put d at a x y → Put x y b z w → at + length a ≤ length d → Put d at (a ++ b) z w
put_then d x z a b at y w p q h =
    let e : y ≡ at + length a = p.end in
    let f : w ≡ y + length b = q.end in
    record {
      end = rw (length-append a b) (omega arith);
      bytes = q.bytes ∙ ap (λ (m : ℕ). pasted x m b) e ∙ ap (λ (m : List ℕ). pasted m (at + length a) b) p.bytes ∙ pasted_pasted d at a b h;
    }

pub put_length : (d x a : List ℕ) (at y : ℕ) → Put d at a x y → at + length a ≤ length d → length x ≡ length d
put_length d x a at y p h = ap length p.bytes ∙ length_pasted d at a h

-- an item of three parts
module _ (a b v : List ℕ) (at : ℕ) (d : List ℕ) (room : at + length (a ++ (b ++ v)) ≤ length d) where
  parts_length : length (a ++ (b ++ v)) ≡ length a + (length b + length v)
  parts_length = rw (length-append a (b ++ v), length-append b v)

  pub first_room : at + length a ≤ length d
  first_room = omega (arith, parts_length)

  pub second_room : (x : List ℕ) (y : ℕ) → Put d at a x y → y + length b ≤ length x
  second_room x y p = omega (arith, parts_length, p.end, put_length d x a at y p first_room)

  pub third_room : (x z : List ℕ) (y w : ℕ) → Put d at a x y → Put x y b z w → w + length v ≤ length z
  third_room x z y w p q =
      omega (arith, parts_length, p.end, q.end, put_length d x a at y p first_room, put_length x z b y w q (second_room x y p))

  pub parts_put : (x z r : List ℕ) (y w next : ℕ) → Put d at a x y → Put x y b z w → Put z w v r next → Put d at (a ++ (b ++ v)) r next
  parts_put x z r y w next p q c = put_then d x r a (b ++ v) at y next p (put_then x z r b v y w next q c (second_room x y p)) first_room

-- i of n items are written
pub record Joining (f : ℕ → List ℕ) (n from : ℕ) (d out : List ℕ) (at i : ℕ) : Type 0 where
  pub done : List ℕ
  pub within : i ≤ n
  pub rest : done ++ joined_items f i (n - i) ≡ joined_items f 0 n
  pub put : Put d from done out at
  pub size : length out ≡ length d

pub joining_start : (f : ℕ → List ℕ) (n from : ℕ) (d : List ℕ) → Joining f n from d d from 0
joining_start f n from d =
    let z : n - 0 ≡ n = omega arith in
    record {
      done = [];
      within = omega arith;
      rest = rw z;
      put = record { end = omega arith; bytes = sym (pasted_none d from) };
      size = refl;
    }

join_more : (f : ℕ → List ℕ) (place n : ℕ) → joined_items f place (suc n) ≡ f place ++ joined_items f (suc place) n
unfolding joined_items
join_more f place n = refl

join_none : (f : ℕ → List ℕ) (place : ℕ) → joined_items f place 0 ≡ []
unfolding joined_items
join_none f place = refl

module _ (f : ℕ → List ℕ) (n from : ℕ) (d out : List ℕ) (at i : ℕ) (w : Joining f n from d out at i) (l : i < n) (h : from + length (joined_items f 0 n) ≤ length d) where
  next_is : w.done ++ (f i ++ joined_items f (i + 1) (n - (i + 1))) ≡ joined_items f 0 n
  next_is =
      let z : n - i ≡ suc (n - (i + 1)) = omega arith in
      let t : w.done ++ (f i ++ joined_items f (suc i) (n - (i + 1))) ≡ joined_items f 0 n = rw (join_more f i (n - (i + 1))) at (rw z at w.rest) in
      rw (add-one i) (rw (add-one i) at t)

  next_length : length w.done + (length (f i) + length (joined_items f (i + 1) (n - (i + 1)))) ≡ length (joined_items f 0 n)
  next_length = rw (length-append, length-append) at (ap length next_is)

  pub joining_room : at + length (f i) ≤ length out
  joining_room =
      let p : at ≡ from + length w.done = w.put.end in
      let q : length out ≡ length d = w.size in
      omega (arith, next_length)

  pub joining_again : (z : List ℕ) (next : ℕ) → Put out at (f i) z next → length z ≡ length out → Joining f n from d z next (i + 1)
  joining_again z next p q =
      record {
        done = w.done ++ f i;
        within = omega arith;
        rest = append_assoc w.done (f i) (joined_items f (i + 1) (n - (i + 1))) ∙ next_is;
        put = put_then d out z w.done (f i) from at next w.put p (omega (arith, next_length));
        size = q ∙ w.size;
      }

pub joining_end : (f : ℕ → List ℕ) (n from : ℕ) (d out : List ℕ) (at i : ℕ) → Joining f n from d out at i → n ≤ i → Put d from (joined_items f 0 n) out at
joining_end f n from d out at i w h =
    let k : i ≤ n = w.within in
    let z : n - i ≡ 0 = omega arith in
    let e : w.done ++ [] ≡ joined_items f 0 n = rw (join_none f i) at (rw z at w.rest) in
    subst (λ (m : List ℕ). Put d from m out at) (sym (append-nil w.done) ∙ e) w.put

-- the same bytes joined are the same
pub joined_alike : (f g : ℕ → List ℕ) (place n : ℕ) → ((i : ℕ) → i < place + n → f i ≡ g i) → joined_items f place n ≡ joined_items g place n
unfolding joined_items
joined_alike f g place zero h = refl
joined_alike f g place (suc n) h = rw (h place (omega arith), joined_alike f g (suc place) n (λ i l. h i (omega arith)))
