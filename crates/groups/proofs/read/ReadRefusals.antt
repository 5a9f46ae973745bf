-- The regrouping call refuses a group that does not read as reading does.
use mathlib.Core.Path.{◌≡◌, refl, sym, ◌∙◌}
use mathlib.Core.Bool.{Bool, true, false}
use mathlib.Core.List.{List, [], ◌∷◌}
use mathlib.Core.Logic.{◌↔◌}
use mathlib.Core.Option.{Option, none, some}
use Prim.Native.Nat.{ℕ, zero, suc, ◌-◌}
use lib.Dec.{leb, eqb}
use lib.ListN.{length, take, drop}
use Rattle.std.specs.Prelude.{Some, None, Result, Ok, Err}
use Rattle.std.specs.Prelude as std
use Rattle.klv.specs.Layout.{read_as}
use Rattle.klv.specs.declared.layout.Form.TheVariants.{Ber}
use Rattle.klv.specs.Number.{Read}
use Rattle.std.specs.Prelude.{Ok, Err}
use Rattle.klv.proofs.Cases.{absurd_number, pick_cases, test_cases}
use Rattle.groups.specs.declared.label.Label.{Label}
use Rattle.groups.specs.declared.label.LabelError.{LabelError}
use Rattle.groups.specs.declared.label.LabelError.TheVariants.{CutOff, Unlisted}
use Rattle.groups.specs.declared.label.LabelError.TheVariants as label_error
use Rattle.groups.specs.declared.span.Span as spans
use Rattle.groups.specs.declared.refusal.Refusal.{Refusal}
use Rattle.groups.specs.declared.refusal.Refusal.TheVariants.{TagTable, PackTable, Target, Oversize, GroupKey, Family, OuterLength, LabelCutOff, LabelMalformed, LabelUnlisted, Span, NoLabel, NoSpan, LongOutput, ShortSlice}
use Rattle.groups.specs.Refusal.{Answer, refused, and_then, check, of_reading}
use Rattle.groups.specs.Kind.{is_pack, family}
use Rattle.groups.specs.Tables.{tag_table_ok, pack_table_ok}
use Rattle.groups.specs.Label.{read_label, write_label}
use Rattle.groups.specs.Span.{read_span, write_span}
use Rattle.groups.specs.Read.{Entry, Item, Under, under, after_span, after_label, read_item, size, over, ended, read_items, after_length, read_body, read, group_key_ok, items}
use Rattle.groups.specs.Write.{or_refuse, write_item, records_over, write_items, write}
use Rattle.groups.specs.Regroup.{regroup_of, target_ok, sized}
use Rattle.groups.proofs.regroup.AnswerLaws.{check_refused, then_refused, cons_refused, append_refused}

-- ---- reading refuses with refusals of reading alone

label_refused : (u : Under) (place : ℕ) (l : List ℕ) (x : Result Label LabelError) (r : Refusal) (p : ℕ) → after_label u place l x ≡ refused r p → of_reading r ≡ true
label_refused u place l (Ok x) r p e = go (read_span u.kind u.packs place (drop x.width l)) e
  where
    go : (y : std.Option spans.Span) → after_span l x.key x.width y place ≡ refused r p → of_reading r ≡ true
    go (Some span) e = absurd_number (cc)
    go None e = let h : Span ≡ r = cc in rw (← h)
label_refused u place l (Err CutOff) r p e = let h : LabelCutOff ≡ r = cc in rw (← h)
label_refused u place l (Err label_error.Malformed) r p e = let h : LabelMalformed ≡ r = cc in rw (← h)
label_refused u place l (Err Unlisted) r p e = let h : LabelUnlisted ≡ r = cc in rw (← h)

item_refused : (u : Under) (place : ℕ) (l : List ℕ) (r : Refusal) (p : ℕ) → read_item u place l ≡ refused r p → of_reading r ≡ true
unfolding read_item
item_refused u place l r p e =
    label_refused u place l (read_label u.kind u.root u.tags u.packs place l) r p e

over_reading : (u : Under) → of_reading (over u) ≡ true
over_reading u = test_cases (is_pack u.kind) (λ t. rw t) (λ t. rw t)

items_refused : (u : Under) (left place : ℕ) (l : List ℕ) (r : Refusal) (p : ℕ) → read_items u left place l ≡ refused r p → of_reading r ≡ true
unfolding read_items
items_refused u zero place [] r p e = absurd_number (cc)
items_refused u zero place (b ∷ bs) r p e = let h : over u ≡ r = cc in rw (← h) (over_reading u)
items_refused u (suc left) place l r p e =
    pick_cases (ended u l) _ _ (refused r p) e
    (λ t f. absurd_number (cc))
    (λ t f. then_refused (read_item u place l) _ r p f
    (λ g. item_refused u place l r p g)
    (λ x g h. items_refused u left (suc place) (drop (size x) l) r p (cons_refused x _ r p h)))

length_refused : (l : List ℕ) (n : Read) (go : List ℕ → Answer (List Entry)) (r : Refusal) (p : ℕ)
    → ((body : List ℕ) → go body ≡ refused r p → of_reading r ≡ true) → after_length l n go ≡ refused r p → of_reading r ≡ true
length_refused l (Ok n) go r p f e = check_refused (eqb n.value (length l - n.width)) OuterLength _ r p e (λ t q z. rw q) (λ t g. f (drop n.width l) g)
length_refused l (Err x) go r p f e = let h : OuterLength ≡ r = cc in rw (← h)

body_refused : (tags packs s : List ℕ) (r : Refusal) (p : ℕ) → read_body tags packs s ≡ refused r p → of_reading r ≡ true
unfolding read_body
body_refused tags packs s r p e = length_refused (drop 16 s) (read_as Ber (drop 16 s)) _ r p (λ body f. items_refused _ _ 0 body r p f) e

pub read_refused : (tags packs s : List ℕ) (r : Refusal) (p : ℕ) → read tags packs s ≡ refused r p → of_reading r ≡ true
unfolding read
read_refused tags packs s r p e =
    check_refused (tag_table_ok tags) TagTable _ r p e
    (λ t q z. rw q)
    (λ t f. check_refused (pack_table_ok packs) PackTable _ r p f
    (λ t q z. rw q)
    (λ t f. check_refused (leb (length s) 65536) Oversize _ r p f
    (λ t q z. rw q)
    (λ t f. check_refused (group_key_ok s) GroupKey _ r p f
    (λ t q z. rw q)
    (λ t f. body_refused tags packs s r p f))))

-- ---- and writing with none of them

part_refused : (o : Option (List ℕ)) (q : Refusal) (place : ℕ) (r : Refusal) (p : ℕ) → or_refuse o q place ≡ refused r p → q ≡ r
part_refused (some l) q place r p e = absurd_number (cc)
part_refused none q place r p e = cc

item_unwritten : (u : Under) (place : ℕ) (x : Item) (r : Refusal) (p : ℕ) → write_item u place x ≡ refused r p → of_reading r ≡ false
unfolding write_item
item_unwritten u place x r p e =
    let a : Option (List ℕ) = write_label u.kind u.root u.tags u.packs place x.key in
    let b : Option (List ℕ) = write_span u.kind u.packs place x.value in
    then_refused (or_refuse a NoLabel place) _ r p e
    (λ f. let h : NoLabel ≡ r = part_refused a NoLabel place r p f in rw (← h))
    (λ c f g. then_refused (or_refuse b NoSpan place) _ r p g
    (λ f. let h : NoSpan ≡ r = part_refused b NoSpan place r p f in rw (← h))
    (λ d f h. absurd_number (cc)))

items_unwritten : (u : Under) (place : ℕ) (xs : List Item) (r : Refusal) (p : ℕ) → write_items u place xs ≡ refused r p → of_reading r ≡ false
unfolding write_items
items_unwritten u place [] r p e =
    pick_cases (records_over u place) _ _ (refused r p) e (λ t f. let h : NoLabel ≡ r = cc in rw (← h)) (λ t f. absurd_number (cc))
items_unwritten u place (x ∷ xs) r p e =
    then_refused (write_item u place x) _ r p e
    (λ f. item_unwritten u place x r p f)
    (λ a f g. items_unwritten u (suc place) xs r p (append_refused a _ r p g))

pub write_refused : (tags packs target : List ℕ) (xs : List Item) (r : Refusal) (p : ℕ) → write tags packs target xs ≡ refused r p → of_reading r ≡ false
unfolding write
write_refused tags packs target xs r p e =
    then_refused (write_items (under target tags packs) 0 xs) _ r p e (λ f. items_unwritten (under target tags packs) 0 xs r p f) (λ a f g. absurd_number (cc))

sized_refused : (room : ℕ) (w : List ℕ) (r : Refusal) (p : ℕ) → sized room w ≡ refused r p → of_reading r ≡ false
sized_refused room w r p e =
    check_refused (leb (length w) 65536) LongOutput _ r p e
    (λ t q z. rw q)
    (λ t f. check_refused (leb (length w) room) ShortSlice _ r p f (λ t q z. rw q) (λ t f. absurd_number (cc)))

-- ---- the call

-- a check stands before all that follows
check_then : {A B : Type 0} (t : Bool) (r : Refusal) (a : Answer A) (f : A → Answer B) → and_then (check t r a) f ≡ check t r (and_then a f)
check_then true r a f = refl
check_then false r a f = refl

-- with a good target of the group's family the call reads, writes, and measures
pub regroup_reads : (tags packs target s : List ℕ) (room : ℕ) → target_ok target ≡ true → family (take 16 s) target ≡ true
    → regroup_of tags packs target s room ≡ and_then (read tags packs s) (λ (es : List Entry). and_then (write tags packs target (items es)) (sized room))
unfolding regroup_of read
regroup_reads tags packs target s room t f = rw (t, f) (sym (simp check_then))

-- a refusal of reading is the call's
pub refused_reading : (tags packs target s : List ℕ) (room : ℕ) (r : Refusal) (p : ℕ) → target_ok target ≡ true → family (take 16 s) target ≡ true
    → read tags packs s ≡ refused r p → regroup_of tags packs target s room ≡ refused r p
refused_reading tags packs target s room r p t f e = regroup_reads tags packs target s room t f ∙ rw e

-- and a refusal of the call that is one of reading is reading's, whatever the target
pub reading_refused : (tags packs target s : List ℕ) (room : ℕ) (r : Refusal) (p : ℕ) → of_reading r ≡ true
    → regroup_of tags packs target s room ≡ refused r p → read tags packs s ≡ refused r p
unfolding regroup_of read
reading_refused tags packs target s room r p o e =
    check_refused (tag_table_ok tags) TagTable _ r p e
    (λ t q z. rw (t, q, z))
    (λ t₁ f. check_refused (pack_table_ok packs) PackTable _ r p f
    (λ t q z. rw (t₁, t, q, z))
    (λ t₂ f. check_refused (target_ok target) Target _ r p f
    (λ t q z. absurd_number (cc))
    (λ t f. check_refused (leb (length s) 65536) Oversize _ r p f
    (λ t q z. rw (t₁, t₂, t, q, z))
    (λ t₃ f. check_refused (group_key_ok s) GroupKey _ r p f
    (λ t q z. rw (t₁, t₂, t₃, t, q, z))
    (λ t₄ f. check_refused (family (take 16 s) target) Family _ r p f
    (λ t q z. absurd_number (cc))
    (λ t f. then_refused (read_body tags packs s) _ r p f
    (λ g. rw (t₁, t₂, t₃, t₄) g)
    (λ es g h. then_refused (write tags packs target (items es)) (sized room) r p h
    (λ k. let z : of_reading r ≡ false = write_refused tags packs target (items es) r p k in absurd_number (cc))
    (λ w k m. let z : of_reading r ≡ false = sized_refused room w r p m in absurd_number (cc)))))))))

-- where target and family are good, the call is refused with a refusal of reading exactly as reading is
pub refused_iff : (tags packs target s : List ℕ) (room : ℕ) (r : Refusal) (p : ℕ) → target_ok target ≡ true → family (take 16 s) target ≡ true → of_reading r ≡ true
    → (regroup_of tags packs target s room ≡ refused r p) ↔ (read tags packs s ≡ refused r p)
refused_iff tags packs target s room r p t f o = (
  reading_refused tags packs target s room r p o,
  refused_reading tags packs target s room r p t f,
)
