-- What an answer of a deep operation tells of the steps that made it.
use mathlib.Core.Path.{◌≡◌, refl, sym, ap}
use mathlib.Core.Bool.{Bool, true, false}
use Prim.Native.Nat.{ℕ}
use Rattle.klv.proofs.Cases.{absurd_number}
use Rattle.groups.specs.declared.refusal.Refusal.{Refusal}
use Rattle.groups.specs.Refusal as plain
use Rattle.groups.specs.Read.{Entry}
use Rattle.deep.specs.declared.fault.Fault.{Fault}
use Rattle.deep.specs.declared.fault.Fault.TheVariants.{Plain, TooDeep, Unread}
use Rattle.deep.specs.Tree.{Answer, ok, refused, and_then, check, of_plain, Tree, leaf, nest, Inside, closed, opened, too_deep, unread, grow, nested}

-- a refusal is no value
pub not_ok : {A P : Type 0} (f : Fault) (p : ℕ) (a : A) → refused f p ≡ ok a → P
not_ok f p a e = absurd_number (cc)

-- the value is one
pub ok_same : {A : Type 0} (a b : A) → ok a ≡ ok b → a ≡ b
ok_same a b e = cc

-- both steps gave values
pub then_ok : {A B : Type 0} (x : Answer A) (f : A → Answer B) (b : B) → and_then x f ≡ ok b → (a : A) × (x ≡ ok a) × (f a ≡ ok b)
then_ok (ok a) f b e = (a, refl, e)
then_ok (refused r p) f b e = not_ok r p b e

-- the test held, and the rest gave a value
pub check_ok : {A : Type 0} (t : Bool) (r : Refusal) (x : Answer A) (a : A) → check t r x ≡ ok a → (t ≡ true) × (x ≡ ok a)
check_ok true r x a e = (refl, e)
check_ok false r x a e = not_ok (Plain r) 0 a e

-- the plain reading gave the value
pub plain_ok : {A : Type 0} (x : plain.Answer A) (a : A) → of_plain x ≡ ok a → x ≡ plain.ok a
plain_ok (plain.ok b) a e = ap plain.ok (ok_same b a e)
plain_ok (plain.refused r p) a e = not_ok (Plain r) p a e

-- what stands inside the item was bytes or a tree, and the items after it were read
pub grow_ok : {P : Type 0} (place : ℕ) (e : Entry) (i : Inside) (a : Answer Tree) (t : Tree) → grow place e i a ≡ ok t
    → ((s : Tree) → i ≡ closed → a ≡ ok s → t ≡ leaf e s → P) → ((inner s : Tree) → i ≡ opened inner → a ≡ ok s → t ≡ nest e inner s → P) → P
grow_ok place e closed (ok s) t q f g = f s refl refl (sym (ok_same (leaf e s) t q))
grow_ok place e closed (refused r p) t q f g = not_ok r p t q
grow_ok place e (opened inner) (ok s) t q f g = g inner s refl refl (sym (ok_same (nest e inner s) t q))
grow_ok place e (opened inner) (refused r p) t q f g = not_ok r p t q
grow_ok place e too_deep a t q f g = not_ok TooDeep place t q
grow_ok place e unread a t q f g = not_ok Unread place t q

-- the nested value read
pub nested_ok : (a : Answer Tree) (t : Tree) → nested a ≡ opened t → a ≡ ok t
nested_ok (ok s) t e = let q : s ≡ t = cc in ap ok q
nested_ok (refused TooDeep p) t e = absurd_number (cc)
nested_ok (refused Unread p) t e = absurd_number (cc)
nested_ok (refused (Plain r) p) t e = absurd_number (cc)

pub nested_not_closed : {P : Type 0} (a : Answer Tree) → nested a ≡ closed → P
nested_not_closed (ok s) e = absurd_number (cc)
nested_not_closed (refused TooDeep p) e = absurd_number (cc)
nested_not_closed (refused Unread p) e = absurd_number (cc)
nested_not_closed (refused (Plain r) p) e = absurd_number (cc)

-- ---- a refusal

-- a check that refuses is not passed, or what follows refuses
pub check_refused : {A P : Type 0} (t : Bool) (r : Refusal) (a : Answer A) (f : Fault) (p : ℕ) → check t r a ≡ refused f p
    → (t ≡ false → f ≡ Plain r → p ≡ 0 → P) → (t ≡ true → a ≡ refused f p → P) → P
check_refused true r a f p e g h = h refl e
check_refused false r a f p e g h = g refl (cc) (cc)

-- of two steps the first refuses, or it gives a value at which the second does
pub then_refused : {A B P : Type 0} (a : Answer A) (g : A → Answer B) (f : Fault) (p : ℕ) → and_then a g ≡ refused f p
    → (a ≡ refused f p → P) → ((x : A) → a ≡ ok x → g x ≡ refused f p → P) → P
then_refused (ok x) g f p e h k = k x refl e
then_refused (refused r s) g f p e h k = let a : r ≡ f = cc in let b : s ≡ p = cc in h (rw (a, b))

-- a refusal of the plain reading
pub plain_refused : {A : Type 0} (x : plain.Answer A) (f : Fault) (p : ℕ) → of_plain x ≡ refused f p
    → (r : Refusal) × (x ≡ plain.refused r p) × (f ≡ Plain r)
plain_refused (plain.ok b) f p e = absurd_number (cc)
plain_refused (plain.refused r q) f p e = let a : q ≡ p = cc in (r, rw a, cc)

-- the item is refused for what stands inside it, or the items after it are refused
pub grow_refused : {P : Type 0} (place : ℕ) (e : Entry) (i : Inside) (a : Answer Tree) (f : Fault) (p : ℕ) → grow place e i a ≡ refused f p
    → (f ≡ TooDeep → p ≡ place → P) → (f ≡ Unread → p ≡ place → P) → (a ≡ refused f p → P) → P
grow_refused place e closed (ok s) f p q g h k = absurd_number (cc)
grow_refused place e closed (refused r n) f p q g h k = k q
grow_refused place e (opened inner) (ok s) f p q g h k = absurd_number (cc)
grow_refused place e (opened inner) (refused r n) f p q g h k = k q
grow_refused place e too_deep a f p q g h k = g (cc) (cc)
grow_refused place e unread a f p q g h k = h (cc) (cc)
