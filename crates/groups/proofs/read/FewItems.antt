-- Reading at most a few items (`read_up_to`) and reading all (`read_body`): a set that reads within a smaller number of items
-- reads alike within any larger one, and a refusal is the same but for `Count` at that number. So only that one leaves open
-- what the group is. From `read_items` alone, step by step.
use mathlib.Core.Path.{◌≡◌, refl, sym, ◌∙◌, subst}
use mathlib.Core.Bool.{false}
use mathlib.Core.List.{List, [], ◌∷◌}
use Prim.Native.Nat.{ℕ, zero, suc, ◌+◌, ◌-◌, ◌/◌, ◌<◌, ◌≤◌}
use native.Mathlib.Omega.{arith}
use lib.Dec.{eqb}
use lib.ListN.{length, take, drop}
use Rattle.klv.specs.Layout.{read_as}
use Rattle.klv.specs.Pick.{pick}
use Rattle.klv.specs.declared.layout.Form.TheVariants.{Ber}
use Rattle.klv.specs.Number.{Read}
use Rattle.std.specs.Prelude.{Ok, Err}
use Rattle.klv.proofs.Cases.{absurd_number, pick_cases, test_cases}
use Rattle.groups.specs.declared.refusal.Refusal.{Refusal}
use Rattle.groups.specs.declared.refusal.Refusal.TheVariants.{OuterLength, Count}
use Rattle.groups.specs.declared.root.Group.{Group}
use Rattle.groups.specs.Refusal.{Answer, ok, refused}
use Rattle.groups.specs.Kind.{is_pack}
use Rattle.groups.specs.Root.{group_of}
use Rattle.groups.specs.Read.{Entry, Under, under, most, read_item, size, over, ended, read_items, after_length, read_body}
use Rattle.groups.specs.Listing.{read_up_to}
use Rattle.groups.proofs.regroup.AnswerLaws.{then_ok, then_refused, cons_ok, cons_refused}
use Rattle.groups.proofs.read.BodyFacts.{limit_is}
use Rattle.groups.proofs.item.EntryLaws.{read_ended, read_next, read_refused}
use Rattle.groups.proofs.item.ItemsBack.{set_end}

-- ---- items

-- a refusal is one of an item, which a larger number meets too, unless it is that bytes are left after so many items
pub fewer_refused : (u : Under) (m n place : ℕ) (l : List ℕ) (r : Refusal) (p : ℕ) → m ≤ n → (over u ≡ r → p < place + m) → read_items u m place l ≡ refused r p
    → read_items u n place l ≡ refused r p
unfolding read_items
fewer_refused u zero n place [] r p h k e = absurd_number (cc)
fewer_refused u zero n place (b ∷ bs) r p h k e =
    let c : over u ≡ r = cc in
    let a : place ≡ p = cc in
    let o : p < place + 0 = k c in
    absurd (let f : ⊥ = omega arith in f)
fewer_refused u (suc m) zero place l r p h k e = absurd (let f : ⊥ = omega arith in f)
fewer_refused u (suc m) (suc n) place l r p h k e =
    pick_cases (ended u l) _ _ (refused r p) e
    (λ t f. absurd_number (cc))
    (λ t f.
    then_refused (read_item u place l) _ r p f
    (λ g. read_refused u n place l r p t g)
    (λ x g y.
    let z : read_items u m (suc place) (drop (size x) l) ≡ refused r p = cons_refused x _ r p y in
    let w : read_items u n (suc place) (drop (size x) l) ≡ refused r p = fewer_refused u m n (suc place) (drop (size x) l) r p (omega arith) (λ c. let o : p < place + suc m = k c in omega arith) z in
    rw w at (read_next u n place l x t g)))

-- the items of a set are the same within any larger number
pub fewer_read : (u : Under) (m n place : ℕ) (l : List ℕ) (es : List Entry) → m ≤ n → is_pack u.kind ≡ false → read_items u m place l ≡ ok es → read_items u n place l ≡ ok es
unfolding read_items
fewer_read u zero n place [] es h k e = set_end u n place k ∙ e
fewer_read u zero n place (b ∷ bs) es h k e = absurd_number (cc)
fewer_read u (suc m) zero place l es h k e = absurd (let f : ⊥ = omega arith in f)
fewer_read u (suc m) (suc n) place l es h k e =
    pick_cases (ended u l) _ _ (ok es) e
    (λ t f. read_ended u n place l t ∙ f)
    (λ t f.
    let a = then_ok (read_item u place l) _ es f in
    let c = cons_ok a.0 (read_items u m (suc place) (drop (size a.0) l)) es a.2 in
    let w : read_items u n (suc place) (drop (size a.0) l) ≡ ok c.0 = fewer_read u m n (suc place) (drop (size a.0) l) c.0 (omega arith) k c.1 in
    rw c.2 (rw w at (read_next u n place l a.0 t a.1)))

-- no more are read than the number
pub read_count : (u : Under) (m place : ℕ) (l : List ℕ) (es : List Entry) → read_items u m place l ≡ ok es → length es ≤ m
unfolding read_items
read_count u zero place [] es e = let a : es ≡ [] = cc in rw a (omega arith)
read_count u zero place (b ∷ bs) es e = absurd_number (cc)
read_count u (suc m) place l es e =
    pick_cases (ended u l) _ _ (ok es) e
    (λ t f. let a : es ≡ [] = cc in rw a (omega arith))
    (λ t f.
    let a = then_ok (read_item u place l) _ es f in
    let c = cons_ok a.0 (read_items u m (suc place) (drop (size a.0) l)) es a.2 in
    rw c.2 (omega (arith, read_count u m (suc place) (drop (size a.0) l) c.0 c.1)))

-- ---- with the number that the kind decides: in a pack as many as records, in a set k of 256

limited_read : (u : Under) (k n : ℕ) (l : List ℕ) (es : List Entry) → k ≤ 256 → n ≡ pick (is_pack u.kind) u.packs.count k → read_items u n 0 l ≡ ok es
    → read_items u (most u) 0 l ≡ ok es
limited_read u k n l es h e q =
    test_cases (is_pack u.kind)
    (λ t. let m : n ≡ u.packs.count = rw t at e in rw t (subst (λ (x : ℕ). read_items u x 0 l ≡ ok es) m q))
    (λ t. let m : n ≡ k = rw t at e in rw t (fewer_read u n 256 0 l es (omega arith) t q))

limited_refused : (u : Under) (k n : ℕ) (l : List ℕ) (r : Refusal) (p : ℕ) → k ≤ 256 → (r ≡ Count → p < k) → n ≡ pick (is_pack u.kind) u.packs.count k
    → read_items u n 0 l ≡ refused r p → read_items u (most u) 0 l ≡ refused r p
limited_refused u k n l r p h o e q =
    test_cases (is_pack u.kind)
    (λ t. let m : n ≡ u.packs.count = rw t at e in rw t (subst (λ (x : ℕ). read_items u x 0 l ≡ refused r p) m q))
    (λ t.
    let m : n ≡ k = rw t at e in
    let c : over u ≡ Count = rw t in
    rw t (fewer_refused u n 256 0 l r p (omega arith) (λ w. let v : p < k = o (sym w ∙ c) in omega arith) q))

-- ---- a group

-- the outer length is read alike, whatever is done after it
after_cases : {P : Type 0} (l : List ℕ) (n : Read) (f : List ℕ → Answer (List Entry)) (a : Answer (List Entry)) → after_length l n f ≡ a
    → ((b : List ℕ) → f b ≡ a → ((g : List ℕ → Answer (List Entry)) → after_length l n g ≡ g b) → P)
    → (refused OuterLength 0 ≡ a → ((g : List ℕ → Answer (List Entry)) → after_length l n g ≡ refused OuterLength 0) → P)
    → P
after_cases l (Ok n) f a q y z = test_cases (eqb n.value (length l - n.width)) (λ t. y (drop n.width l) (rw t at q) (λ g. rw t)) (λ t. z (rw t at q) (λ g. rw t))
after_cases l (Err x) f a q y z = z q (λ g. refl)

-- an answer that the items keep with another number is the group's, too
body_same : (tags packs s : List ℕ) (n : ℕ) (a : Answer (List Entry))
    → ((l : List ℕ) → read_items (under (take 16 s) tags packs) n 0 l ≡ a → read_items (under (take 16 s) tags packs) (most (under (take 16 s) tags packs)) 0 l ≡ a)
    → read_up_to n tags packs s ≡ a → read_body tags packs s ≡ a
unfolding read_up_to read_body
body_same tags packs s n a h e =
    let u : Under = under (take 16 s) tags packs in
    after_cases (drop 16 s) (read_as Ber (drop 16 s)) (λ (body : List ℕ). read_items u n 0 body) a e
    (λ b x y. y (λ (body : List ℕ). read_items u (most u) 0 body) ∙ h b x)
    (λ x y. y (λ (body : List ℕ). read_items u (most u) 0 body) ∙ x)

pub up_to_count : (tags packs s : List ℕ) (n : ℕ) (es : List Entry) → read_up_to n tags packs s ≡ ok es → length es ≤ n
unfolding read_up_to
up_to_count tags packs s n es e =
    let u : Under = under (take 16 s) tags packs in
    after_cases (drop 16 s) (read_as Ber (drop 16 s)) (λ (body : List ℕ). read_items u n 0 body) (ok es) e
    (λ b x y. read_count u n 0 b es x)
    (λ x y. absurd_number (cc))

module _ (tags packs s : List ℕ) (g : Group) (k n : ℕ) (h : k ≤ 256) (q : g ≡ group_of (take 16 s)) (e : n ≡ pick (is_pack g.kind) (length packs / 20) k) where
  pub up_to_read : (es : List Entry) → read_up_to n tags packs s ≡ ok es → read_body tags packs s ≡ ok es
  up_to_read es f =
      body_same tags packs s n (ok es) (λ l x. limited_read (under (take 16 s) tags packs) k n l es h (limit_is tags packs s g n k q e) x) f

  pub up_to_refused : (r : Refusal) (p : ℕ) → (r ≡ Count → p < k) → read_up_to n tags packs s ≡ refused r p → read_body tags packs s ≡ refused r p
  up_to_refused r p o f =
      body_same tags packs s n (refused r p) (λ l x. limited_refused (under (take 16 s) tags packs) k n l r p h o (limit_is tags packs s g n k q e) x) f
