-- A refusal's place is at most 256, and its number at most 20.
use mathlib.Core.Path.{◌≡◌}
use mathlib.Core.List.{List, [], ◌∷◌}
use mathlib.Core.Bool.{Bool, true, false}
use mathlib.Core.Option.{Option, none, some}
use Prim.Native.Nat.{ℕ, zero, suc, ◌+◌, ◌-◌, ◌*◌, ◌≤◌}
use native.Mathlib.Omega.{arith}
use lib.Dec.{leb, eqb}
use lib.ListN.{length, take, drop}
use Rattle.klv.specs.Pick.{pick, both}
use Rattle.klv.specs.Layout.{read_as}
use Rattle.klv.specs.declared.layout.Form.TheVariants.{Ber}
use Rattle.klv.specs.Number.{Read}
use Rattle.std.specs.Prelude.{Ok, Err}
use Rattle.klv.proofs.Cases.{absurd_number, pick_cases}
use Rattle.groups.specs.declared.refusal.Refusal.{Refusal}
use Rattle.groups.specs.declared.refusal.Refusal.TheVariants.{TagTable, PackTable, Target, Oversize, GroupKey, Family, OuterLength, LabelCutOff, LabelMalformed, LabelUnlisted, Span, Count, Surplus, NoLabel, NoSpan, LongOutput, ShortSlice}
use Rattle.groups.specs.Refusal.{number_of, Answer, ok, refused, and_then, check}
use Rattle.groups.specs.Kind.{is_pack, kind_of, family}
use Rattle.groups.specs.Tables.{tag_table_ok, pack_table_ok, table_of}
use Rattle.groups.specs.Read.{Entry, Item, Under, under, most, ended, size, cons, after_length, group_key_ok, read_item, read_items, read_body, read, items}
use Rattle.groups.specs.Write.{or_refuse, records_over, append, group, write_item, write_items, write}
use Rattle.groups.specs.Listing.{listing_of}
use Rattle.groups.specs.Label.{write_label}
use Rattle.groups.specs.Span.{write_span}
use Rattle.groups.specs.Regroup.{target_ok, sized, regroup_of}
use Rattle.groups.proofs.regroup.AnswerLaws.{check_refused, then_refused, cons_refused, append_refused}
use Rattle.groups.proofs.item.EntryLaws.{item_place}
use Rattle.groups.proofs.item.GoodItems.{items_length_law}
use Rattle.groups.proofs.read.ReadGood.{body_good}
use Rattle.groups.proofs.tables.TableLaws.{packs_fit}

-- ---- reading

-- at most as many items more as are left
items_place : (u : Under) (left place : ℕ) (l : List ℕ) (r : Refusal) (p : ℕ) → read_items u left place l ≡ refused r p → p ≤ place + left
unfolding read_items
items_place u zero place [] r p e = absurd_number (cc)
items_place u zero place (b ∷ bs) r p e = let q : place ≡ p = cc in omega arith
items_place u (suc left) place l r p e =
    pick_cases (ended u l) (ok []) (and_then (read_item u place l) (λ (x : Entry). cons x (read_items u left (suc place) (drop (size x) l)))) (refused r p) e
    (λ t f. absurd_number (cc))
    (λ t f.
    then_refused (read_item u place l) (λ (x : Entry). cons x (read_items u left (suc place) (drop (size x) l))) r p f
    (λ g. let q : p ≡ place = item_place u place l r p g in omega arith)
    (λ x g h.
    let m : p ≤ suc place + left = items_place u left (suc place) (drop (size x) l) r p (cons_refused x _ r p h) in
    omega arith))

most_few : (k tags packs : List ℕ) → pack_table_ok packs ≡ true → most (under k tags packs) ≤ 256
unfolding under
most_few k tags packs h = by_kind (is_pack (kind_of k))
  where
    by_kind : (t : Bool) → pick t (table_of packs).count 256 ≤ 256
    by_kind true = (packs_fit packs h).few
    by_kind false = omega arith

length_place : (l : List ℕ) (n : Read) (go : List ℕ → Answer (List Entry)) (r : Refusal) (p : ℕ) → ((m : List ℕ) → go m ≡ refused r p → p ≤ 256)
    → after_length l n go ≡ refused r p → p ≤ 256
length_place l (Ok n) go r p f e =
    check_refused (eqb n.value (length l - n.width)) OuterLength (go (drop n.width l)) r p e (λ t a b. omega arith) (λ t a. f (drop n.width l) a)
length_place l (Err x) go r p f e = let q : 0 ≡ p = cc in omega arith

body_place : (tags packs s : List ℕ) (r : Refusal) (p : ℕ) → pack_table_ok packs ≡ true → read_body tags packs s ≡ refused r p → p ≤ 256
unfolding read_body
body_place tags packs s r p h e =
    length_place (drop 16 s) (read_as Ber (drop 16 s)) (λ (b : List ℕ). read_items (under (take 16 s) tags packs) (most (under (take 16 s) tags packs)) 0 b) r p
    (λ m f.
    let a : p ≤ 0 + most (under (take 16 s) tags packs) = items_place (under (take 16 s) tags packs) (most (under (take 16 s) tags packs)) 0 m r p f in
    omega (arith, most_few (take 16 s) tags packs h))
    e

pub read_place : (tags packs s : List ℕ) (r : Refusal) (p : ℕ) → read tags packs s ≡ refused r p → p ≤ 256
unfolding read
read_place tags packs s r p e =
    check_refused (tag_table_ok tags) TagTable _ r p e (λ t a b. omega arith)
    (λ t e. check_refused (pack_table_ok packs) PackTable _ r p e (λ t a b. omega arith)
    (λ h e. check_refused (leb (length s) 65536) Oversize _ r p e (λ t a b. omega arith)
    (λ t e. check_refused (group_key_ok s) GroupKey _ r p e (λ t a b. omega arith)
    (λ t e. body_place tags packs s r p h e))))

pub listing_place : (tags packs s : List ℕ) (a b : ℕ) (r : Refusal) (p : ℕ) → listing_of tags packs s a b ≡ refused r p → p ≤ 256
unfolding listing_of
listing_place tags packs s a b r p e =
    then_refused (read tags packs s) _ r p e
    (λ f. read_place tags packs s r p f)
    (λ es f g. check_refused (both (leb (16 * length es) a) (leb (3 * length es) b)) ShortSlice (ok es) r p g (λ t x y. omega arith) (λ t x. absurd_number (cc)))

-- ---- writing

part_place : (o : Option (List ℕ)) (q r : Refusal) (n p : ℕ) → or_refuse o q n ≡ refused r p → p ≡ n
part_place (some l) q r n p e = absurd_number (cc)
part_place none q r n p e = cc

written_place : (u : Under) (place : ℕ) (x : Item) (r : Refusal) (p : ℕ) → write_item u place x ≡ refused r p → p ≡ place
unfolding write_item
written_place u place x r p e =
    then_refused (or_refuse (write_label u.kind u.root u.tags u.packs place x.key) NoLabel place) _ r p e
    (λ f. part_place (write_label u.kind u.root u.tags u.packs place x.key) NoLabel r place p f)
    (λ a f g. then_refused (or_refuse (write_span u.kind u.packs place x.value) NoSpan place) _ r p g
    (λ h. part_place (write_span u.kind u.packs place x.value) NoSpan r place p h)
    (λ b h i. absurd_number (cc)))

none_place : (t : Bool) (place : ℕ) (r : Refusal) (p : ℕ) → ◌≡◌ {A = Answer (List ℕ)} (pick t (refused NoLabel place) (ok [])) (refused r p) → p ≡ place
none_place true place r p e = cc
none_place false place r p e = absurd_number (cc)

write_items_place : (u : Under) (place : ℕ) (xs : List Item) (r : Refusal) (p : ℕ) → write_items u place xs ≡ refused r p → p ≤ place + length xs
unfolding write_items
write_items_place u place [] r p e = let q : p ≡ place = none_place (records_over u place) place r p e in omega arith
write_items_place u place (x ∷ xs) r p e =
    then_refused (write_item u place x) (λ (a : List ℕ). append a (write_items u (suc place) xs)) r p e
    (λ f. let q : p ≡ place = written_place u place x r p f in omega arith)
    (λ a f g.
    let m : p ≤ suc place + length xs = write_items_place u (suc place) xs r p (append_refused a _ r p g) in
    omega arith)

write_place : (tags packs target : List ℕ) (xs : List Item) (r : Refusal) (p : ℕ) → length xs ≤ 256 → write tags packs target xs ≡ refused r p → p ≤ 256
unfolding write
write_place tags packs target xs r p h e =
    then_refused (write_items (under target tags packs) 0 xs) (λ (body : List ℕ). ok (group target body)) r p e
    (λ f. let m : p ≤ 0 + length xs = write_items_place (under target tags packs) 0 xs r p f in omega arith)
    (λ a f g. absurd_number (cc))

sized_place : (room : ℕ) (l : List ℕ) (r : Refusal) (p : ℕ) → sized room l ≡ refused r p → p ≤ 256
sized_place room l r p e =
    check_refused (leb (length l) 65536) LongOutput (check (leb (length l) room) ShortSlice (ok l)) r p e (λ t a b. omega arith)
    (λ t e. check_refused (leb (length l) room) ShortSlice (ok l) r p e (λ t a b. omega arith) (λ t a. absurd_number (cc)))

pub regroup_place : (tags packs target s : List ℕ) (room : ℕ) (r : Refusal) (p : ℕ) → regroup_of tags packs target s room ≡ refused r p → p ≤ 256
unfolding regroup_of
regroup_place tags packs target s room r p e =
    check_refused (tag_table_ok tags) TagTable _ r p e (λ t a b. omega arith)
    (λ k e. check_refused (pack_table_ok packs) PackTable _ r p e (λ t a b. omega arith)
    (λ h e. check_refused (target_ok target) Target _ r p e (λ t a b. omega arith)
    (λ t e. check_refused (leb (length s) 65536) Oversize _ r p e (λ t a b. omega arith)
    (λ t e. check_refused (group_key_ok s) GroupKey _ r p e (λ t a b. omega arith)
    (λ t e. check_refused (family (take 16 s) target) Family _ r p e (λ t a b. omega arith)
    (λ t e. then_refused (read_body tags packs s) _ r p e (λ f. body_place tags packs s r p h f)
    (λ es f g. then_refused (write tags packs target (items es)) (sized room) r p g
    (λ i. write_place tags packs target (items es) r p (rw (items_length_law es) (body_good tags packs s es k h f).1) i)
    (λ w i j. sized_place room w r p j))))))))

-- ---- numbers

pub number_most : (r : Refusal) → number_of r ≤ 20
unfolding number_of
number_most TagTable = omega arith
number_most PackTable = omega arith
number_most Target = omega arith
number_most Oversize = omega arith
number_most GroupKey = omega arith
number_most Family = omega arith
number_most OuterLength = omega arith
number_most LabelCutOff = omega arith
number_most LabelMalformed = omega arith
number_most LabelUnlisted = omega arith
number_most Span = omega arith
number_most Count = omega arith
number_most Surplus = omega arith
number_most NoLabel = omega arith
number_most NoSpan = omega arith
number_most LongOutput = omega arith
number_most ShortSlice = omega arith
