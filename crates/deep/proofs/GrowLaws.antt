-- An item and the items after it: what measuring, writing and listing make of them.
use mathlib.Core.Path.{◌≡◌, refl, ap, ◌∙◌}
use mathlib.Core.Bool.{true, false≢true}
use mathlib.Core.List.{List, [], ◌∷◌, ◌++◌, append_assoc}
use Prim.Native.Nat.{ℕ, suc, ◌+◌}
use native.Mathlib.Omega.{arith}
use Rattle.std.specs.Prelude.{Result, Ok, Err}
use lib.ListN.{length, length-append, length-set}
use Rattle.klv.specs.Layout.{written}
use Rattle.klv.specs.declared.layout.Form.TheVariants.{Ber}
use Rattle.klv.proofs.Cases.{absurd_number}
use Rattle.groups.specs.Read.{Entry, size}
use Rattle.groups.specs.Write.{group as grouped}
use Rattle.groups.specs.declared.refusal.Refused.{Refused}
use Rattle.deep.specs.declared.fault.Fault.{Fault}
use Rattle.deep.specs.declared.walk.Walked.{Walked}
use Rattle.deep.specs.Tree.{Answer, ok, refused, Tree, end, Inside, closed, opened, too_deep, unread, grow}
use Rattle.deep.specs.Deep.{as_universal, universal_bytes, count_of, tree_keys, tree_numbers}
use Rattle.deep.specs.Walk.{framed, set_sizes, walked, sizes_of, reads, inside_walked, inside_sizes, inside_reads, bytes_of, item_bytes, count_in, keys_in_tree, numbers_in, inside_count, inside_keys, inside_numbers}

-- ---- an item that reads, and items after it that read

pub grow_reads : (place : ℕ) (e : Entry) (i : Inside) (a : Answer Tree) → reads (grow place e i a) ≡ true → (inside_reads i ≡ true) × (reads a ≡ true)
grow_reads place e closed (ok t) h = (refl, refl)
grow_reads place e closed (refused r p) h = absurd (false≢true h)
grow_reads place e (opened inner) (ok t) h = (refl, refl)
grow_reads place e (opened inner) (refused r p) h = absurd (false≢true h)
grow_reads place e too_deep a h = absurd (false≢true h)
grow_reads place e unread a h = absurd (false≢true h)

pub grow_bytes : (place : ℕ) (e : Entry) (i : Inside) (a : Answer Tree) → reads (grow place e i a) ≡ true → bytes_of (grow place e i a) ≡ item_bytes e.key e.value i ++ bytes_of a
unfolding universal_bytes
grow_bytes place e closed (ok t) h = refl
grow_bytes place e closed (refused r p) h = absurd (false≢true h)
grow_bytes place e (opened inner) (ok t) h = refl
grow_bytes place e (opened inner) (refused r p) h = absurd (false≢true h)
grow_bytes place e too_deep a h = absurd (false≢true h)
grow_bytes place e unread a h = absurd (false≢true h)

pub grow_sizes : (place : ℕ) (e : Entry) (i : Inside) (a : Answer Tree) → reads (grow place e i a) ≡ true → sizes_of (grow place e i a) ≡ inside_sizes i ++ sizes_of a
unfolding set_sizes
grow_sizes place e closed (ok t) h = refl
grow_sizes place e closed (refused r p) h = absurd (false≢true h)
grow_sizes place e (opened inner) (ok t) h = refl
grow_sizes place e (opened inner) (refused r p) h = absurd (false≢true h)
grow_sizes place e too_deep a h = absurd (false≢true h)
grow_sizes place e unread a h = absurd (false≢true h)

pub grow_count : (place : ℕ) (e : Entry) (i : Inside) (a : Answer Tree) → reads (grow place e i a) ≡ true → count_in (grow place e i a) ≡ 1 + inside_count i + count_in a
unfolding count_of
grow_count place e closed (ok t) h = omega arith
grow_count place e closed (refused r p) h = absurd (false≢true h)
grow_count place e (opened inner) (ok t) h = omega arith
grow_count place e (opened inner) (refused r p) h = absurd (false≢true h)
grow_count place e too_deep a h = absurd (false≢true h)
grow_count place e unread a h = absurd (false≢true h)

pub grow_keys : (place : ℕ) (e : Entry) (i : Inside) (a : Answer Tree) → reads (grow place e i a) ≡ true → keys_in_tree (grow place e i a) ≡ (e.key ++ inside_keys i) ++ keys_in_tree a
unfolding tree_keys
grow_keys place e closed (ok t) h = rw (append_assoc)
grow_keys place e closed (refused r p) h = absurd (false≢true h)
grow_keys place e (opened inner) (ok t) h = rw (append_assoc)
grow_keys place e (opened inner) (refused r p) h = absurd (false≢true h)
grow_keys place e too_deep a h = absurd (false≢true h)
grow_keys place e unread a h = absurd (false≢true h)

pub grow_numbers : (at depth place : ℕ) (e : Entry) (i : Inside) (a : Answer Tree) → reads (grow place e i a) ≡ true
    → numbers_in at depth (grow place e i a)
    ≡ ((at + e.label + e.width) ∷ length e.value ∷ depth ∷ inside_numbers (at + e.label + e.width) (suc depth) i) ++ numbers_in (at + size e) depth a
unfolding tree_numbers
grow_numbers at depth place e closed (ok t) h = refl
grow_numbers at depth place e closed (refused r p) h = absurd (false≢true h)
grow_numbers at depth place e (opened inner) (ok t) h = refl
grow_numbers at depth place e (opened inner) (refused r p) h = absurd (false≢true h)
grow_numbers at depth place e too_deep a h = absurd (false≢true h)
grow_numbers at depth place e unread a h = absurd (false≢true h)

-- ---- measuring

-- what was measured before, and what a walk tells of the rest
abbrev pub added : ℕ → ℕ → ℕ → Result Walked (Refused Fault) → Result Walked (Refused Fault)
added size count sets (Ok w) = Ok (record { size = size + w.size; count = count + w.count; sets = sets + w.sets })
added size count sets (Err r) = Err r

pub grouped_length : (k v : List ℕ) → length k ≡ 16 → length (grouped k v) ≡ framed (length v)
unfolding framed
grouped_length k v h = omega (arith, length-append k (written Ber (length v) ++ v), length-append (written Ber (length v)) v)

-- a walk that tells of so many bytes, items and sets; and one that is refused
abbrev pub items : ℕ → ℕ → ℕ → Result Walked (Refused Fault)
items size count sets = Ok (record { size = size; count = count; sets = sets })

abbrev pub fails : Fault → ℕ → Result Walked (Refused Fault)
fails f p = Err (record { why = f; place = p })

pub items_same : {a b c x y z : ℕ} → a ≡ x → b ≡ y → c ≡ z → items a b c ≡ items x y z
items_same p q r = rw (p, q, r)

pub items_are : (a b c : ℕ) (v : Walked) → items a b c ≡ Ok v → (a ≡ v.size) × (b ≡ v.count) × (c ≡ v.sets)
items_are a b c v e =
    let z : record { size = a; count = b; sets = c } ≡ v = cc in
    (ap (λ (w : Walked). w.size) z, ap (λ (w : Walked). w.count) z, ap (λ (w : Walked). w.sets) z)

pub grow_walked : (place : ℕ) (e : Entry) (i : Inside) (a : Answer Tree) (v : Walked) → length e.key ≡ 16 → inside_walked place (length e.value) i ≡ Ok v
    → walked (grow place e i a) ≡ added (framed v.size) (1 + v.count) v.sets (walked a)
unfolding universal_bytes count_of set_sizes
grow_walked place e closed (ok t) v k h =
    let q = items_are (length e.value) 0 0 v h in
    items_same (length-append (grouped e.key e.value) (universal_bytes t) ∙ rw (grouped_length e.key e.value k, q.0)) (omega (arith, q.1)) (omega (arith, q.2))
grow_walked place e closed (refused r p) v k h = refl
grow_walked place e (opened inner) (ok t) v k h =
    let q = items_are (length (universal_bytes inner)) (count_of inner) (suc (length (set_sizes inner))) v h in
    items_same
    (length-append (grouped (as_universal e.key) (universal_bytes inner)) (universal_bytes t) ∙ rw (grouped_length (as_universal e.key) (universal_bytes inner) (length-set e.key 5 1 ∙ k), q.0))
    (omega (arith, q.1))
    (omega (arith, q.2, length-append (set_sizes inner) (set_sizes t)))
grow_walked place e (opened inner) (refused r p) v k h = refl
grow_walked place e too_deep a v k h = absurd_number (cc)
grow_walked place e unread a v k h = absurd_number (cc)

pub grow_fails : (place : ℕ) (e : Entry) (i : Inside) (a : Answer Tree) (r : Refused Fault) → inside_walked place (length e.value) i ≡ Err r → walked (grow place e i a) ≡ Err r
grow_fails place e closed a r h = absurd_number (cc)
grow_fails place e (opened inner) a r h = absurd_number (cc)
grow_fails place e too_deep a r h = h
grow_fails place e unread a r h = h

-- ---- lengths of what is listed and written

pub bytes_none : bytes_of (ok end) ≡ []
unfolding universal_bytes
bytes_none = refl

pub sizes_none : sizes_of (ok end) ≡ []
unfolding set_sizes
sizes_none = refl

pub count_none : count_in (ok end) ≡ 0
unfolding count_of
count_none = refl

pub keys_none : keys_in_tree (ok end) ≡ []
unfolding tree_keys
keys_none = refl

pub numbers_none : (at depth : ℕ) → numbers_in at depth (ok end) ≡ []
unfolding tree_numbers
numbers_none at depth = refl
