-- What an answer that is a value tells of the steps that made it: each step gave a value, and each test held.
use mathlib.Core.Path.{◌≡◌, refl, sym, ap}
use mathlib.Core.Bool.{Bool, true, false}
use mathlib.Core.List.{List, ◌∷◌, ◌++◌}
use mathlib.Core.Option.{Option, none, some}
use Prim.Native.Nat.{ℕ}
use Rattle.klv.proofs.Cases.{absurd_number}
use Rattle.groups.specs.declared.refusal.Refusal.{Refusal}
use Rattle.groups.specs.Refusal.{Answer, ok, refused, and_then, check}
use Rattle.groups.specs.Read.{Entry, cons}
use Rattle.groups.specs.Write.{or_refuse, append}

-- a refusal is no value
pub not_ok : {A P : Type 0} (r : Refusal) (p : ℕ) (a : A) → refused r p ≡ ok a → P
not_ok r p a e = absurd_number (cc)

-- the value is one
pub ok_same : {A : Type 0} (a b : A) → ok a ≡ ok b → a ≡ b
ok_same a b e = cc

-- both steps gave values
pub then_ok : {A B : Type 0} (x : Answer A) (f : A → Answer B) (b : B) → and_then x f ≡ ok b → (a : A) × (x ≡ ok a) × (f a ≡ ok b)
then_ok (ok a) f b e = (a, refl, e)
then_ok (refused r p) f b e = not_ok r p b e

-- the test held, and the rest gave a value
pub check_ok : {A : Type 0} (t : Bool) (r : Refusal) (x : Answer A) (a : A) → check t r x ≡ ok a → (t ≡ true) × (x ≡ ok a)
check_ok true r x a e = (refl, e)
check_ok false r x a e = not_ok r 0 a e

-- the part was there
pub part_ok : (o : Option (List ℕ)) (r : Refusal) (p : ℕ) (l : List ℕ) → or_refuse o r p ≡ ok l → o ≡ some l
part_ok (some m) r p l e = ap some (ok_same m l e)
part_ok none r p l e = not_ok r p l e

-- the bytes after these were there
pub append_ok : (a : List ℕ) (x : Answer (List ℕ)) (l : List ℕ) → append a x ≡ ok l → (b : List ℕ) × (x ≡ ok b) × (l ≡ a ++ b)
append_ok a (ok b) l e = (b, refl, sym (ok_same (a ++ b) l e))
append_ok a (refused r p) l e = not_ok r p l e

-- the entries after this one were there
pub cons_ok : (e : Entry) (x : Answer (List Entry)) (l : List Entry) → cons e x ≡ ok l → (es : List Entry) × (x ≡ ok es) × (l ≡ e ∷ es)
cons_ok e (ok es) l q = (es, refl, sym (ok_same (e ∷ es) l q))
cons_ok e (refused r p) l q = not_ok r p l q

pub cons_refused : (e : Entry) (a : Answer (List Entry)) (r : Refusal) (p : ℕ) → cons e a ≡ refused r p → a ≡ refused r p
cons_refused e (ok es) r p f = absurd_number (cc)
cons_refused e (refused q n) r p f = f

pub append_refused : (a : List ℕ) (b : Answer (List ℕ)) (r : Refusal) (p : ℕ) → append a b ≡ refused r p → b ≡ refused r p
append_refused a (ok c) r p e = absurd_number (cc)
append_refused a (refused q n) r p e = e

-- ---- a refusal

-- a check that refuses is not passed, or what follows refuses
pub check_refused : {A P : Type 0} (t : Bool) (r : Refusal) (a : Answer A) (q : Refusal) (p : ℕ) → check t r a ≡ refused q p
    → (t ≡ false → q ≡ r → p ≡ 0 → P) → (t ≡ true → a ≡ refused q p → P) → P
check_refused true r a q p e f g = g refl e
check_refused false r a q p e f g = f refl (cc) (cc)

-- of two steps the first refuses, or it gives a value at which the second does
pub then_refused : {A B P : Type 0} (a : Answer A) (f : A → Answer B) (q : Refusal) (p : ℕ) → and_then a f ≡ refused q p
    → (a ≡ refused q p → P) → ((x : A) → a ≡ ok x → f x ≡ refused q p → P) → P
then_refused (ok x) f q p e g h = h x refl e
then_refused (refused r s) f q p e g h = let a : r ≡ q = cc in let b : s ≡ p = cc in g (rw (a, b))
