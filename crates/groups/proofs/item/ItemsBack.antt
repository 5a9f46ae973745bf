-- All items that are written are read back, in a set and in a pack. From the law of one item. A set's item has at least one
-- byte, so the set does not end before it; a pack's element may have none, and its record says that it is there.
use mathlib.Core.Path.{◌≡◌, refl, sym, ◌∙◌, subst}
use mathlib.Core.Bool.{Bool, true, false, false≢true}
use mathlib.Core.List.{List, [], ◌∷◌, ◌++◌}
use Prim.Native.Nat.{ℕ, zero, suc, ◌-◌, ◌<◌, ◌≤◌}
use native.Mathlib.Omega.{arith}
use lib.Dec.{ltb}
use lib.ListN.{length, drop, length-append}
use lib.Seq.{drop_at}
use borrow.Author.Tests.{ltb-false}
use Rattle.klv.specs.Pick.{pick, both}
use Rattle.klv.proofs.Cases.{pick_cases}
use Rattle.groups.specs.declared.kind.Kind.{Kind}
use Rattle.groups.specs.declared.refusal.Refusal.TheVariants.{NoLabel}
use Rattle.groups.specs.Refusal.{ok, refused}
use Rattle.groups.specs.Kind.{is_pack}
use Rattle.groups.specs.Read.{Item, Entry, Under, read_item, read_items, size, cons, ended, items, most}
use Rattle.groups.specs.Listing.{is_longer, longer_items}
use Rattle.groups.specs.Write.{write_item, records_over, append, write_items}
use Rattle.groups.proofs.item.GoodItems.{AllKeys}
use Rattle.groups.proofs.regroup.AnswerLaws.{not_ok, ok_same, then_ok, append_ok}
use Rattle.groups.proofs.label.LabelBack.{Fit}
use Rattle.groups.proofs.item.ItemBack.{ItemBack, item_some, item_within, item_back}

-- ---- one step

-- no items are no bytes, and no record of a pack is over
pub none_written : (u : Under) (place : ℕ) (body : List ℕ) → write_items u place [] ≡ ok body → (body ≡ []) × (records_over u place ≡ false)
unfolding write_items
none_written u place body e =
    pick_cases (records_over u place) (refused NoLabel place) (ok []) (ok body) e
    (λ h q. not_ok NoLabel place body q)
    (λ h q. (sym (ok_same [] body q), h))

-- an item and more
pub more_written : (u : Under) (place : ℕ) (x : Item) (xs : List Item) (body : List ℕ) → write_items u place (x ∷ xs) ≡ ok body
    → (a b : List ℕ) × (write_item u place x ≡ ok a) × (write_items u (suc place) xs ≡ ok b) × (body ≡ a ++ b)
unfolding write_items
more_written u place x xs body e =
    let p = then_ok (write_item u place x) (λ (a : List ℕ). append a (write_items u (suc place) xs)) body e in
    let q = append_ok p.0 (write_items u (suc place) xs) body p.2 in
    (p.0, q.0, p.1, q.1, q.2)

-- ---- reading step by step

-- a set ends where its bytes end
pub set_end : (u : Under) (left place : ℕ) → is_pack u.kind ≡ false → read_items u left place [] ≡ ok []
unfolding read_items
set_end u zero place h = refl
set_end u (suc left) place h = rw h

-- a pack ends after its last record
pub pack_end : (u : Under) (place : ℕ) → read_items u zero place [] ≡ ok []
unfolding read_items
pack_end u place = refl

-- an item and more
pub read_more : (u : Under) (left place : ℕ) (l rest : List ℕ) (e : Entry) → ended u l ≡ false → read_item u place l ≡ ok e → drop (size e) l ≡ rest
    → read_items u (suc left) place l ≡ cons e (read_items u left (suc place) rest)
unfolding read_items
read_more u left place l rest e h i d = rw (h, i, d)

-- nothing ends while bytes are left
pub bytes_left : (u : Under) (l : List ℕ) → 0 < length l → ended u l ≡ false
bytes_left u [] h = absurd (let f : ⊥ = omega arith in f)
bytes_left u (b ∷ bs) h = refl

-- a pack does not end while records are left
pub records_left : (u : Under) (l : List ℕ) → is_pack u.kind ≡ true → ended u l ≡ false
records_left u [] h = rw h
records_left u (b ∷ bs) h = refl

-- ---- all items

-- the bytes of items xs read as entries that are these items, none of them with a longer BER form than needed
pub record ItemsBack (u : Under) (left place : ℕ) (body : List ℕ) (xs : List Item) : Type 0 where
  pub entries : List Entry
  pub reads : read_items u left place body ≡ ok entries
  pub are : items entries ≡ xs
  pub shortest : longer_items u.kind entries ≡ []

-- an item whose form is not longer than needed is not among those
none_more : (kd : Kind) (e : Entry) (es : List Entry) → is_longer kd e ≡ false → longer_items kd (e ∷ es) ≡ longer_items kd es
unfolding longer_items
none_more kd e es h = rw h

none_all : (kd : Kind) → longer_items kd [] ≡ []
unfolding longer_items
none_all kd = refl

-- an item in front of others
item_then : (u : Under) (left place : ℕ) (a b : List ℕ) (x : Item) (xs : List Item) → ended u (a ++ b) ≡ false → ItemBack u place x a → ItemsBack u left (suc place) b xs
    → ItemsBack u (suc left) place (a ++ b) (x ∷ xs)
item_then u left place a b x xs h p q =
    record {
      entries = p.entry ∷ q.entries;
      reads = read_more u left place (a ++ b) b p.entry h (p.reads b) (drop_at a b (size p.entry) (sym p.sizes)) ∙ rw q.reads;
      are = cc (p.is, q.are);
      shortest = none_more u.kind p.entry q.entries p.shortest ∙ q.shortest;
    }

-- a set's items
pub set_back : (u : Under) (left place : ℕ) (xs : List Item) (body : List ℕ) → Fit u → is_pack u.kind ≡ false → AllKeys xs → length xs ≤ left
    → write_items u place xs ≡ ok body → ItemsBack u left place body xs
set_back u left place [] body f p k h e =
    record { entries = []; reads = rw (none_written u place body e).0 (set_end u left place p); are = refl; shortest = none_all u.kind }
set_back u zero place (x ∷ xs) body f p k h e = absurd (let f : ⊥ = omega arith in f)
set_back u (suc left) place (x ∷ xs) body f p (k, ks) h e =
    let m = more_written u place x xs body e in
    let n : ended u (m.0 ++ m.1) ≡ false = bytes_left u (m.0 ++ m.1) (omega (arith, length-append m.0 m.1, item_some u place x m.0 p m.2)) in
    subst (λ (l : List ℕ). ItemsBack u (suc left) place l (x ∷ xs)) (sym m.4)
    (item_then u left place m.0 m.1 x xs n (item_back u place x m.0 f k m.2) (set_back u left (suc place) xs m.1 f p ks (omega arith) m.3))

-- a pack with no record over
no_record : (n place : ℕ) (t : Bool) → t ≡ true → both t (ltb place n) ≡ false → n ≤ place
no_record n place true h e = ltb-false place n e
no_record n place false h e = absurd (false≢true h)

-- a pack's elements
pub pack_back : (u : Under) (left place : ℕ) (xs : List Item) (body : List ℕ) → Fit u → is_pack u.kind ≡ true → AllKeys xs → left ≡ u.packs.count - place
    → write_items u place xs ≡ ok body → ItemsBack u left place body xs
pack_back u left place [] body f p k h e =
    let q = none_written u place body e in
    let c : u.packs.count ≤ place = no_record u.packs.count place (is_pack u.kind) p q.1 in
    let z : left ≡ 0 = omega arith in
    record { entries = []; reads = rw (q.0, z) (pack_end u place); are = refl; shortest = none_all u.kind }
pack_back u zero place (x ∷ xs) body f p k h e =
    let m = more_written u place x xs body e in
    let c : place < u.packs.count = item_within u place x m.0 p m.2 in
    absurd (let f : ⊥ = omega arith in f)
pack_back u (suc left) place (x ∷ xs) body f p (k, ks) h e =
    let m = more_written u place x xs body e in
    let g : left ≡ u.packs.count - suc place = omega arith in
    subst (λ (l : List ℕ). ItemsBack u (suc left) place l (x ∷ xs)) (sym m.4)
    (item_then u left place m.0 m.1 x xs (records_left u (m.0 ++ m.1) p) (item_back u place x m.0 f k m.2)
    (pack_back u left (suc place) xs m.1 f p ks g m.3))

-- items, in a set or in a pack, as many as may be read
pub items_back : (u : Under) (xs : List Item) (body : List ℕ) → Fit u → AllKeys xs → length xs ≤ 256 → write_items u 0 xs ≡ ok body → ItemsBack u (most u) 0 body xs
items_back u xs body f k h e = go (is_pack u.kind) refl
  where
    go : (t : Bool) → is_pack u.kind ≡ t → ItemsBack u (pick t u.packs.count 256) 0 body xs
    go true p = pack_back u u.packs.count 0 xs body f p k (omega arith) e
    go false p = set_back u 256 0 xs body f p k h e
