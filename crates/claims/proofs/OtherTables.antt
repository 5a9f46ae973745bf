-- With no local key at either end two valid tag tables give the same answer; likewise pack tables with no pack, and, where
-- they differ in the length column alone, with no defined-length pack.
use mathlib.Core.Path.{◌≡◌, refl, sym, ap, ◌∙◌}
use mathlib.Core.Bool.{Bool, true, false, false≢true}
use mathlib.Core.List.{List}
use Prim.Native.Nat.{ℕ}
use lib.Dec.{ltb}
use lib.ListN.{take}
use Rattle.klv.specs.Pick.{pick, both}
use Rattle.klv.proofs.Cases.{absurd_number}
use Rattle.groups.specs.declared.kind.Kind.{Kind}
use Rattle.groups.specs.declared.kind.Kind.TheVariants.{Universal, Global, Local, Variable, Defined, NoGroup}
use Rattle.groups.specs.Kind.{kind_of, is_bound, is_pack}
use Rattle.groups.specs.Tables.{Table, table_of, tag_table_ok, pack_table_ok}
use Rattle.groups.specs.Label.{read_label, write_label}
use Rattle.groups.specs.Span.{read_span, write_span}
use Rattle.groups.specs.Read.{under, read}
use Rattle.groups.specs.Regroup.{regroup_of}
use Rattle.claims.specs.Elements.{SameKeys}
use Rattle.claims.proofs.Alike.{Alike, read_alike, regroup_alike}

-- ---- tag tables

-- kinds whose items have tags of the tag table
abbrev pub is_local : Kind → Bool
is_local Universal = false
is_local (Global y) = false
is_local (Local t y) = true
is_local (Variable y) = false
is_local Defined = false
is_local NoGroup = false

label_tags : (k : Kind) (root : List ℕ) (t t' packs : Table) (place : ℕ) (l : List ℕ) → is_local k ≡ false
    → read_label k root t packs place l ≡ read_label k root t' packs place l
unfolding read_label
label_tags Universal root t t' packs place l h = refl
label_tags (Global y) root t t' packs place l h = refl
label_tags (Local f y) root t t' packs place l h = absurd_number (cc)
label_tags (Variable y) root t t' packs place l h = refl
label_tags Defined root t t' packs place l h = refl
label_tags NoGroup root t t' packs place l h = refl

write_tags : (k : Kind) (root : List ℕ) (t t' packs : Table) (place : ℕ) (x : List ℕ) → is_local k ≡ false
    → write_label k root t packs place x ≡ write_label k root t' packs place x
unfolding write_label
write_tags Universal root t t' packs place x h = refl
write_tags (Global y) root t t' packs place x h = refl
write_tags (Local f y) root t t' packs place x h = absurd_number (cc)
write_tags (Variable y) root t t' packs place x h = refl
write_tags Defined root t t' packs place x h = refl
write_tags NoGroup root t t' packs place x h = refl

tags_alike : (k t t' packs : List ℕ) → is_local (kind_of k) ≡ false → Alike (under k t packs) (under k t' packs)
unfolding under
tags_alike k t t' packs h = record {
  pack = refl;
  count = refl;
  reads_label = λ place l. label_tags (kind_of k) _ _ _ _ place l h;
  reads_span = λ place l. refl;
  writes_label = λ place x. write_tags (kind_of k) _ _ _ _ place x h;
  writes_span = λ place x. refl;
  shorts = λ place. refl;
}

-- a group whose key is not local reads alike under two valid tag tables
pub read_other_tags : (t t' packs s : List ℕ) → tag_table_ok t ≡ true → tag_table_ok t' ≡ true → is_local (kind_of (take 16 s)) ≡ false → read t packs s ≡ read t' packs s
read_other_tags t t' packs s a b h = read_alike t t' packs packs s (a ∙ sym b) refl (tags_alike (take 16 s) t t' packs h)

-- and the call answers alike if the target is not local either
pub regroup_other_tags : (t t' packs target s : List ℕ) (room : ℕ) → tag_table_ok t ≡ true → tag_table_ok t' ≡ true → is_local (kind_of (take 16 s)) ≡ false
    → is_local (kind_of target) ≡ false → regroup_of t packs target s room ≡ regroup_of t' packs target s room
regroup_other_tags t t' packs target s room a b h k =
    regroup_alike t t' packs packs target s room (a ∙ sym b) refl (tags_alike (take 16 s) t t' packs h) (tags_alike target t t' packs k)

-- ---- pack tables

-- a pack asks for the records' keys: what a kind makes of p and q is the same if it is no pack, or if these are the same
module _ (root : List ℕ) (tags p q : Table) where
  label_packs : (k : Kind) (place : ℕ) (l : List ℕ) → (is_pack k ≡ true → SameKeys p q) → read_label k root tags p place l ≡ read_label k root tags q place l
  unfolding read_label
  label_packs Universal place l e = refl
  label_packs (Global y) place l e = refl
  label_packs (Local f y) place l e = refl
  label_packs (Variable y) place l e = rw ((e refl).keys place)
  label_packs Defined place l e = rw ((e refl).keys place)
  label_packs NoGroup place l e = refl

  write_packs : (k : Kind) (place : ℕ) (x : List ℕ) → (is_pack k ≡ true → SameKeys p q) → write_label k root tags p place x ≡ write_label k root tags q place x
  unfolding write_label
  write_packs Universal place x e = refl
  write_packs (Global y) place x e = refl
  write_packs (Local f y) place x e = refl
  write_packs (Variable y) place x e = rw ((e refl).count, (e refl).keys place)
  write_packs Defined place x e = rw ((e refl).count, (e refl).keys place)
  write_packs NoGroup place x e = refl

-- a defined-length pack alone asks for the length column
module _ (p q : Table) where
  span_packs : (k : Kind) (place : ℕ) (l : List ℕ) → is_bound k ≡ false → read_span k p place l ≡ read_span k q place l
  unfolding read_span
  span_packs Universal place l h = refl
  span_packs (Global y) place l h = refl
  span_packs (Local f y) place l h = refl
  span_packs (Variable y) place l h = refl
  span_packs Defined place l h = absurd_number (cc)
  span_packs NoGroup place l h = refl

  write_span_packs : (k : Kind) (place : ℕ) (x : List ℕ) → is_bound k ≡ false → write_span k p place x ≡ write_span k q place x
  unfolding write_span
  write_span_packs Universal place x h = refl
  write_span_packs (Global y) place x h = refl
  write_span_packs (Local f y) place x h = refl
  write_span_packs (Variable y) place x h = refl
  write_span_packs Defined place x h = absurd_number (cc)
  write_span_packs NoGroup place x h = refl

-- how many records there are matters to a pack
count_packs : {A : Type 0} (b : Bool) (p q : Table) (f : Bool → ℕ → A) → (b ≡ true → p.count ≡ q.count) → ((m n : ℕ) → f false m ≡ f false n) → f b p.count ≡ f b q.count
count_packs true p q f e g = ap (f true) (e refl)
count_packs false p q f e g = g p.count q.count

packs_alike : (k tags p q : List ℕ) → (is_pack (kind_of k) ≡ true → SameKeys (table_of p) (table_of q)) → is_bound (kind_of k) ≡ false → Alike (under k tags p) (under k tags q)
unfolding under
packs_alike k tags p q e h = record {
  pack = refl;
  count = count_packs (is_pack (kind_of k)) (table_of p) (table_of q) (λ (b : Bool) (n : ℕ). pick b n 256) (λ t. (e t).count) (λ m n. refl);
  reads_label = λ place l. label_packs _ _ (table_of p) (table_of q) (kind_of k) place l e;
  reads_span = λ place l. span_packs (table_of p) (table_of q) (kind_of k) place l h;
  writes_label = λ place x. write_packs _ _ (table_of p) (table_of q) (kind_of k) place x e;
  writes_span = λ place x. write_span_packs (table_of p) (table_of q) (kind_of k) place x h;
  shorts = λ place. count_packs (is_pack (kind_of k)) (table_of p) (table_of q) (λ (b : Bool) (n : ℕ). both b (ltb place n)) (λ t. (e t).count) (λ m n. refl);
}

unbound : (k : Kind) → is_pack k ≡ false → is_bound k ≡ false
unbound Universal h = refl
unbound (Global y) h = refl
unbound (Local f y) h = refl
unbound (Variable y) h = refl
unbound Defined h = h
unbound NoGroup h = refl

no_pack_alike : (k tags p q : List ℕ) → is_pack (kind_of k) ≡ false → Alike (under k tags p) (under k tags q)
no_pack_alike k tags p q h = packs_alike k tags p q (λ e. absurd (false≢true (sym h ∙ e))) (unbound (kind_of k) h)

-- a group that is no pack reads alike under two valid pack tables
pub read_other_packs : (tags p q s : List ℕ) → pack_table_ok p ≡ true → pack_table_ok q ≡ true → is_pack (kind_of (take 16 s)) ≡ false → read tags p s ≡ read tags q s
read_other_packs tags p q s a b h = read_alike tags tags p q s refl (a ∙ sym b) (no_pack_alike (take 16 s) tags p q h)

-- and the call answers alike if the target is none either
pub regroup_other_packs : (tags p q target s : List ℕ) (room : ℕ) → pack_table_ok p ≡ true → pack_table_ok q ≡ true → is_pack (kind_of (take 16 s)) ≡ false
    → is_pack (kind_of target) ≡ false → regroup_of tags p target s room ≡ regroup_of tags q target s room
regroup_other_packs tags p q target s room a b h k =
    regroup_alike tags tags p q target s room refl (a ∙ sym b) (no_pack_alike (take 16 s) tags p q h) (no_pack_alike target tags p q k)

-- a group that is no defined-length pack reads alike whatever the length column holds
pub read_other_column : (tags p q s : List ℕ) → pack_table_ok p ≡ pack_table_ok q → SameKeys (table_of p) (table_of q) → is_bound (kind_of (take 16 s)) ≡ false → read tags p s ≡ read tags q s
read_other_column tags p q s a e h = read_alike tags tags p q s refl a (packs_alike (take 16 s) tags p q (λ t. e) h)

-- and the call answers alike if the target is none either
pub regroup_other_column : (tags p q target s : List ℕ) (room : ℕ) → pack_table_ok p ≡ pack_table_ok q → SameKeys (table_of p) (table_of q) → is_bound (kind_of (take 16 s)) ≡ false
    → is_bound (kind_of target) ≡ false → regroup_of tags p target s room ≡ regroup_of tags q target s room
regroup_other_column tags p q target s room a e h k =
    regroup_alike tags tags p q target s room refl a (packs_alike (take 16 s) tags p q (λ t. e) h) (packs_alike target tags p q (λ t. e) k)
