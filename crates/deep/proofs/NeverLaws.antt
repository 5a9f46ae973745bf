-- Refusals that the deep operations never give.
use mathlib.Core.Path.{◌≡◌, refl, sym, ◌∙◌}
use mathlib.Core.Bool.{Bool, true, false, false≢true}
use mathlib.Core.List.{List, [], ◌∷◌}
use Prim.Native.Nat.{ℕ, zero, suc, ◌-◌, ◌*◌}
use lib.Dec.{leb, eqb}
use lib.ListN.{length, take, drop}
use borrow.Author.Tests.{eq-eqb}
use Rattle.std.specs.Prelude.{Result, Option, Some, None, Ok, Err}
use Rattle.klv.specs.Pick.{pick, both}
use Rattle.klv.specs.Layout.{read_as}
use Rattle.klv.specs.declared.layout.Form.TheVariants.{Ber}
use Rattle.klv.specs.Number.{Read}
use Rattle.klv.proofs.Cases.{absurd_number, passed}
use Rattle.groups.specs.declared.label.Label.{Label}
use Rattle.groups.specs.declared.label.LabelError.{LabelError}
use Rattle.groups.specs.declared.label.LabelError.TheVariants.{CutOff, Unlisted}
use Rattle.groups.specs.declared.label.LabelError.TheVariants as label_error
use Rattle.groups.specs.declared.span.Span as spans
use Rattle.groups.specs.declared.refusal.Refusal.{Refusal}
use Rattle.groups.specs.declared.refusal.Refusal.TheVariants.{TagTable, Oversize, GroupKey, OuterLength, LabelCutOff, LabelMalformed, LabelUnlisted, Span, LongOutput, ShortSlice}
use Rattle.groups.specs.Refusal as plain
use Rattle.groups.specs.Refusal.{number_of}
use Rattle.groups.specs.Kind.{kind_of}
use Rattle.groups.specs.Tables.{tag_table_ok}
use Rattle.groups.specs.Label.{read_label}
use Rattle.groups.specs.Span.{read_span}
use Rattle.groups.specs.Read.{Under, under, after_span, after_label, read_item, size}
use Rattle.deep.specs.declared.fault.Fault as faults
use Rattle.deep.specs.declared.fault.Fault.TheVariants.{Plain}
use Rattle.deep.specs.Tree.{Answer, refused, opens, Tree, Inside, tree_of, inside_of, after_length, deep_body, deep_read}
use Rattle.deep.specs.Deep.{fault_number, universal_set, count_of, deep_of, deep_listing_of}
use Rattle.deep.specs.DeepText.{NoneOf, NeverCome}
use Rattle.deep.proofs.DeepAnswers.{check_refused, then_refused}
use Rattle.deep.proofs.TreeLaws.{tree_over, tree_refused}

-- ---- a number that is none of a list, by test

abbrev not_in : ℕ → List ℕ → Bool
not_in n [] = true
not_in n (x ∷ xs) = pick (eqb n x) false (not_in n xs)

none_of : (n : ℕ) (l : List ℕ) → not_in n l ≡ true → NoneOf n l
none_of n [] e = tt
none_of n (x ∷ xs) e =
    let p = passed (eqb n x) (not_in n xs) e in
    (λ q. false≢true (sym p.0 ∙ eq-eqb n x q), none_of n xs p.1)

-- what reading deep never gives
abbrev Other : faults.Fault → Type 0
Other f = not_in (fault_number f) (2 ∷ 3 ∷ 6 ∷ 11 ∷ 12 ∷ 13 ∷ 14 ∷ []) ≡ true

-- ---- reading

span_other : (l k : List ℕ) (a : ℕ) (y : Option spans.Span) (place : ℕ) (r : Refusal) (p : ℕ) → after_span l k a y place ≡ plain.refused r p → Other (Plain r)
unfolding fault_number number_of
span_other l k a (Some span) place r p e = absurd_number (cc)
span_other l k a None place r p e = let h : Span ≡ r = cc in rw (← h)

label_other : (u : Under) (place : ℕ) (l : List ℕ) (f : Result Label LabelError) (r : Refusal) (p : ℕ) → after_label u place l f ≡ plain.refused r p → Other (Plain r)
unfolding fault_number number_of
label_other u place l (Ok x) r p e = span_other l x.key x.width (read_span u.kind u.packs place (drop x.width l)) place r p e
label_other u place l (Err CutOff) r p e = let h : LabelCutOff ≡ r = cc in rw (← h)
label_other u place l (Err label_error.Malformed) r p e = let h : LabelMalformed ≡ r = cc in rw (← h)
label_other u place l (Err Unlisted) r p e = let h : LabelUnlisted ≡ r = cc in rw (← h)

item_other : (u : Under) (place : ℕ) (l : List ℕ) (r : Refusal) (p : ℕ) → read_item u place l ≡ plain.refused r p → Other (Plain r)
unfolding read_item
item_other u place l r p e =
    label_other u place l (read_label u.kind u.root u.tags u.packs place l) r p e

tree_other : (look : List ℕ → List ℕ → Inside) (u : Under) (left place : ℕ) (l : List ℕ) (f : faults.Fault) (p : ℕ) → tree_of look u left place l ≡ refused f p → Other f
unfolding fault_number number_of
tree_other look u zero place l f p e = rw (tree_over look u place l f p e).0
tree_other look u (suc left) place l f p e =
    tree_refused look u left place l f p e
    (λ r a z. rw z (item_other u place l r p a))
    (λ z a. rw z)
    (λ z a. rw z)
    (λ x a b. tree_other look u left (suc place) (drop (size x) l) f p b)

length_other : (l : List ℕ) (n : Read) (go : List ℕ → Answer Tree) (f : faults.Fault) (p : ℕ) → ((body : List ℕ) → go body ≡ refused f p → Other f)
    → after_length l n go ≡ refused f p → Other f
unfolding fault_number number_of
length_other l (Ok n) go f p g e = check_refused (eqb n.value (length l - n.width)) OuterLength (go (drop n.width l)) f p e (λ t q z. rw q) (λ t h. g (drop n.width l) h)
length_other l (Err x) go f p g e = let h : Plain OuterLength ≡ f = cc in rw (← h)

deep_other : (tags group : List ℕ) (f : faults.Fault) (p : ℕ) → deep_read tags group ≡ refused f p → Other f
unfolding deep_read deep_body fault_number number_of
deep_other tags group f p e =
    check_refused (tag_table_ok tags) TagTable _ f p e
    (λ t q z. rw q)
    (λ t a. check_refused (leb (length group) 65536) Oversize _ f p a
    (λ t q z. rw q)
    (λ t b. check_refused (opens (kind_of (take 16 group))) GroupKey _ f p b
    (λ t q z. rw q)
    (λ t c. length_other (drop 16 group) (read_as Ber (drop 16 group)) (λ (body : List ℕ). tree_of (inside_of 3 tags) (under (take 16 group) tags []) 256 0 body) f p
    (λ body d. tree_other (inside_of 3 tags) (under (take 16 group) tags []) 256 0 body f p d) c)))

-- a refusal of reading deep
read_none : (tags group : List ℕ) (f : faults.Fault) (p : ℕ) → deep_read tags group ≡ refused f p → NoneOf (fault_number f) (2 ∷ 3 ∷ 6 ∷ 11 ∷ 12 ∷ 13 ∷ 14 ∷ [])
read_none tags group f p e = none_of (fault_number f) (2 ∷ 3 ∷ 6 ∷ 11 ∷ 12 ∷ 13 ∷ 14 ∷ []) (deep_other tags group f p e)

-- ---- the operations

-- one refusal, by its number
plain_none : (r : Refusal) (f : faults.Fault) (l : List ℕ) → f ≡ Plain r → not_in (number_of r) l ≡ true → NoneOf (fault_number f) l
unfolding fault_number
plain_none r f l q e = none_of (fault_number f) l (rw q e)

fewer : (n : ℕ) → NoneOf n (2 ∷ 3 ∷ 6 ∷ 11 ∷ 12 ∷ 13 ∷ 14 ∷ []) → NoneOf n (2 ∷ 3 ∷ 6 ∷ 11 ∷ 12 ∷ 13 ∷ [])
fewer n (a, (b, (c, (d, (e, (f, g)))))) = (a, (b, (c, (d, (e, (f, tt))))))

write_none : (tags group : List ℕ) (room : ℕ) (f : faults.Fault) (p : ℕ) → deep_of tags group room ≡ refused f p
    → NoneOf (fault_number f) (2 ∷ 3 ∷ 6 ∷ 11 ∷ 12 ∷ 13 ∷ [])
unfolding deep_of number_of
write_none tags group room f p e =
    then_refused (deep_read tags group) _ f p e
    (λ a. fewer (fault_number f) (read_none tags group f p a))
    (λ t a b. check_refused (leb (length (universal_set group t)) 65536) LongOutput _ f p b
    (λ h q z. plain_none LongOutput f (2 ∷ 3 ∷ 6 ∷ 11 ∷ 12 ∷ 13 ∷ []) q refl)
    (λ h c. check_refused (leb (length (universal_set group t)) room) ShortSlice _ f p c
    (λ h q z. plain_none ShortSlice f (2 ∷ 3 ∷ 6 ∷ 11 ∷ 12 ∷ 13 ∷ []) q refl)
    (λ h d. absurd_number (cc))))

list_none : (tags group : List ℕ) (key_room number_room : ℕ) (f : faults.Fault) (p : ℕ) → deep_listing_of tags group key_room number_room ≡ refused f p
    → NoneOf (fault_number f) (2 ∷ 3 ∷ 6 ∷ 11 ∷ 12 ∷ 13 ∷ 14 ∷ [])
unfolding deep_listing_of number_of
list_none tags group key_room number_room f p e =
    then_refused (deep_read tags group) _ f p e
    (λ a. read_none tags group f p a)
    (λ t a b. check_refused (both (leb (16 * count_of t) key_room) (leb (3 * count_of t) number_room)) ShortSlice _ f p b
    (λ h q z. plain_none ShortSlice f (2 ∷ 3 ∷ 6 ∷ 11 ∷ 12 ∷ 13 ∷ 14 ∷ []) q refl)
    (λ h d. absurd_number (cc)))

pub never_come : NeverCome
never_come = record { writing = write_none; listing = list_none }
