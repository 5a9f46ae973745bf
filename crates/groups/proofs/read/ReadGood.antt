-- What reads has at most 256 items, each with a key that is a key; and what else a group that reads tells of itself. From the
-- law that a label which was read stands for a key.
use mathlib.Core.Path.{◌≡◌, refl, sym, ap, ◌∙◌, subst}
use mathlib.Core.Bool.{Bool, true, false, false≢true}
use mathlib.Core.List.{List, [], ◌∷◌}
use Prim.Native.Nat.{ℕ, zero, suc, ◌-◌, ◌<◌, ◌≤◌}
use native.Mathlib.Omega.{arith}
use lib.Dec.{leb, eqb}
use lib.ListN.{length, take, drop}
use borrow.Author.Tests.{leb-true, eqb-true}
use Rattle.std.specs.Prelude.{Option, Some, None, Result, Ok, Err}
use Rattle.klv.specs.Pick.{pick}
use Rattle.klv.specs.Key.{is_key}
use Rattle.klv.specs.Layout.{read_as}
use Rattle.klv.specs.declared.layout.Form.TheVariants.{Ber}
use Rattle.klv.specs.Number.{Read}
use Rattle.klv.specs.Number.{Value}
use Rattle.std.specs.Prelude.{Ok, Err}
use Rattle.klv.proofs.Cases.{pick_cases}
use Rattle.groups.specs.declared.label.Label.{Label}
use Rattle.groups.specs.declared.label.LabelError.{LabelError}
use Rattle.groups.specs.declared.span.Span.{Span}
use Rattle.groups.specs.declared.refusal.Refusal.TheVariants.{TagTable, PackTable, Oversize, GroupKey, OuterLength}
use Rattle.groups.specs.declared.refusal.Refusal.TheVariants as refusal
use Rattle.groups.specs.Refusal.{Answer, ok}
use Rattle.groups.specs.Kind.{kind_of, is_group, is_pack}
use Rattle.groups.specs.Tables.{tag_table_ok, pack_table_ok}
use Rattle.groups.specs.Label.{label_refusal, read_label}
use Rattle.groups.specs.Span.{read_span}
use Rattle.groups.specs.Read.{Entry, Under, under, entry, after_span, after_label, read_item, size, cons, most, over, ended, read_items, after_length, read_body, group_key_ok, read, items}
use Rattle.groups.proofs.item.GoodItems.{AllKeys}
use Rattle.groups.proofs.regroup.AnswerLaws.{not_ok, ok_same, then_ok, check_ok, cons_ok}
use Rattle.groups.proofs.label.LabelBack.{Fit, fit_under}
use Rattle.groups.proofs.label.LabelGood.{GoodLabel, label_good}

-- ---- one item

-- an entry has the key of its label
span_key : (l k : List ℕ) (a : ℕ) (s : Option Span) (place : ℕ) (e : Entry) → after_span l k a s place ≡ ok e → k ≡ e.key
span_key l k a (Some span) place e q = ap (λ (x : Entry). x.key) (ok_same (entry l k a span.width span.length) e q)
span_key l k a None place e q = not_ok refusal.Span place e q

label_key : (u : Under) (place : ℕ) (l : List ℕ) (x : Result Label LabelError) (e : Entry) → GoodLabel x → after_label u place l x ≡ ok e → is_key e.key ≡ true
label_key u place l (Ok x) e g q =
    let s : x.key ≡ e.key = span_key l x.key x.width (read_span u.kind u.packs place (drop x.width l)) place e q in
    rw (← s) g
label_key u place l (Err why) e g q = not_ok (label_refusal why) place e q

-- an item that was read has a key that is a key
pub item_good : (u : Under) (place : ℕ) (l : List ℕ) (e : Entry) → Fit u → (is_pack u.kind ≡ true → place < u.packs.count) → read_item u place l ≡ ok e
    → is_key e.key ≡ true
unfolding read_item
item_good u place l e f h q =
    label_key u place l (read_label u.kind u.root u.tags u.packs place l) e (label_good u.kind u.root u.tags u.packs place l f.tags f.packs h) q

-- ---- all items

-- keys are keys, and there are at most n
abbrev pub GoodEntries : ℕ → List Entry → Type 0
GoodEntries n es = AllKeys (items es) × (length es ≤ n)

none_good : (n : ℕ) (es : List Entry) → ok [] ≡ ok es → GoodEntries n es
none_good n es e = subst (GoodEntries n) (ok_same [] es e) (tt, omega arith)

-- items that were read have keys that are keys, and are at most as many as were allowed
pub items_good : (u : Under) (left place : ℕ) (l : List ℕ) (es : List Entry) → Fit u → (is_pack u.kind ≡ true → left ≡ u.packs.count - place)
    → read_items u left place l ≡ ok es → GoodEntries left es
unfolding read_items
items_good u zero place [] es f h e = none_good zero es e
items_good u zero place (b ∷ bs) es f h e = not_ok (over u) place es e
items_good u (suc left) place l es f h e =
    pick_cases (ended u l) (ok []) _ (ok es) e
    (λ t q. none_good (suc left) es q)
    (λ t q.
    let m = then_ok (read_item u place l) (λ (x : Entry). cons x (read_items u left (suc place) (drop (size x) l))) es q in
    let c = cons_ok m.0 (read_items u left (suc place) (drop (size m.0) l)) es m.2 in
    let k = item_good u place l m.0 f (λ p. omega (arith, h p)) m.1 in
    let i = items_good u left (suc place) (drop (size m.0) l) c.0 f (λ p. omega (arith, h p)) c.1 in
    subst (GoodEntries (suc left)) (sym c.2) ((k, i.0), omega (arith, i.1)))

-- ---- a group

-- what a body that reads tells: its outer length counts the bytes after it, and they are the items
pub record BodyTold (u : Under) (s : List ℕ) (es : List Entry) : Type 0 where
  pub count : ℕ
  pub width : ℕ
  pub outer : read_as Ber (drop 16 s) ≡ Value count width
  pub counts : count ≡ length (drop 16 s) - width
  pub reads : read_items u (most u) 0 (drop width (drop 16 s)) ≡ ok es

length_told : (l : List ℕ) (m : Read) (go : List ℕ → Answer (List Entry)) (es : List Entry) → after_length l m go ≡ ok es
    → (v w : ℕ) × (m ≡ Value v w) × (v ≡ length l - w) × (go (drop w l) ≡ ok es)
length_told l (Ok n) go es e =
    let p = check_ok (eqb n.value (length l - n.width)) OuterLength (go (drop n.width l)) es e in
    (n.value, n.width, refl, eqb-true n.value (length l - n.width) p.0, p.1)
length_told l (Err x) go es e = not_ok OuterLength 0 es e

-- and so it is
pub body_told : (tags packs s : List ℕ) (es : List Entry) → read_body tags packs s ≡ ok es → BodyTold (under (take 16 s) tags packs) s es
unfolding read_body
body_told tags packs s es e =
    let u : Under = under (take 16 s) tags packs in
    let p = length_told (drop 16 s) (read_as Ber (drop 16 s)) (λ (body : List ℕ). read_items u (most u) 0 body) es e in
    record { count = p.0; width = p.1; outer = p.2; counts = p.3; reads = p.4 }

-- as many as may be read are at most 256
most_good : (u : Under) (l : List ℕ) (es : List Entry) → Fit u → read_items u (most u) 0 l ≡ ok es → GoodEntries 256 es
most_good u l es f e = go (is_pack u.kind) refl e
  where
    go : (t : Bool) → is_pack u.kind ≡ t → read_items u (pick t u.packs.count 256) 0 l ≡ ok es → GoodEntries 256 es
    go true p q = let i = items_good u u.packs.count 0 l es f (λ h. omega arith) q in (i.0, omega (arith, i.1, f.packs.few))
    go false p q = items_good u 256 0 l es f (λ h. absurd (false≢true (sym p ∙ h))) q

-- a body that reads under valid tables has at most 256 items, each with a key that is a key
pub body_good : (tags packs s : List ℕ) (es : List Entry) → tag_table_ok tags ≡ true → pack_table_ok packs ≡ true → read_body tags packs s ≡ ok es
    → AllKeys (items es) × (length es ≤ 256)
body_good tags packs s es t p e =
    let b = body_told tags packs s es e in
    most_good (under (take 16 s) tags packs) (drop b.width (drop 16 s)) es (fit_under (take 16 s) tags packs t p) b.reads

-- what bytes that read tell
pub record ReadTold (tags packs s : List ℕ) (es : List Entry) : Type 0 where
  pub tags_ok : tag_table_ok tags ≡ true
  pub packs_ok : pack_table_ok packs ≡ true
  pub small : length s ≤ 65536
  pub is_group_law : is_group (kind_of (take 16 s)) ≡ true
  pub body : read_body tags packs s ≡ ok es

-- none of refusals 1, 2, 4, 5 applies, and the body reads
pub read_told : (tags packs s : List ℕ) (es : List Entry) → read tags packs s ≡ ok es → ReadTold tags packs s es
unfolding read
read_told tags packs s es e =
    let a = check_ok (tag_table_ok tags) TagTable _ es e in
    let b = check_ok (pack_table_ok packs) PackTable _ es a.1 in
    let c = check_ok (leb (length s) 65536) Oversize _ es b.1 in
    let d = check_ok (group_key_ok s) GroupKey (read_body tags packs s) es c.1 in
    record { tags_ok = a.0; packs_ok = b.0; small = leb-true (length s) 65536 c.0; is_group_law = d.0; body = d.1 }

-- what reads has at most 256 items, each with a key that is a key
pub read_good : (tags packs s : List ℕ) (es : List Entry) → read tags packs s ≡ ok es → AllKeys (items es) × (length es ≤ 256)
read_good tags packs s es e =
    let t = read_told tags packs s es e in
    body_good tags packs s es t.tags_ok t.packs_ok t.body
