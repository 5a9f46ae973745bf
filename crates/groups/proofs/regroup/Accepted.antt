-- What an accepted call tells: all that the call asks of its input, its target and its slice; and these make it accepted.
use mathlib.Core.Path.{◌≡◌, refl}
use mathlib.Core.Bool.{true}
use mathlib.Core.List.{List}
use mathlib.Core.Logic.{◌↔◌}
use mathlib.Core.Option.{none, some}
use Prim.Native.Nat.{ℕ, ◌≤◌}
use lib.Dec.{leb}
use lib.ListN.{length, take}
use borrow.Author.Tests.{leb-true, le-leb}
use Rattle.klv.proofs.Cases.{absurd_number}
use Rattle.groups.specs.declared.refusal.Refusal.TheVariants.{LongOutput, ShortSlice}
use Rattle.groups.specs.Refusal.{Answer, ok, refused, check}
use Rattle.groups.specs.Kind.{family}
use Rattle.groups.specs.Tables.{tag_table_ok, pack_table_ok}
use Rattle.groups.specs.Read.{Entry, Item, read, read_body, group_key_ok, items, items_of, reads_as}
use Rattle.groups.specs.Write.{write}
use Rattle.groups.specs.Regroup.{regroup_of, sized, target_ok}
use Rattle.groups.proofs.regroup.AnswerLaws.{check_ok, then_ok}

-- a call that is accepted with output w
pub record Accepted (tags packs target s : List ℕ) (room : ℕ) (w : List ℕ) : Type 0 where
  pub tags_ok : tag_table_ok tags ≡ true
  pub packs_ok : pack_table_ok packs ≡ true
  pub group : target_ok target ≡ true
  pub entries : List Entry
  pub reads : read tags packs s ≡ ok entries
  pub akin : family (take 16 s) target ≡ true
  pub writes : write tags packs target (items entries) ≡ ok w
  pub most : length w ≤ 65536
  pub fits : length w ≤ room

-- ---- a group that reads

-- what is asked of a group that reads
pub record Readable (tags packs s : List ℕ) (es : List Entry) : Type 0 where
  pub tags_ok : tag_table_ok tags ≡ true
  pub packs_ok : pack_table_ok packs ≡ true
  pub most : leb (length s) 65536 ≡ true
  pub group : group_key_ok s ≡ true
  pub body : read_body tags packs s ≡ ok es

pub read_told : (tags packs s : List ℕ) (es : List Entry) → read tags packs s ≡ ok es → Readable tags packs s es
unfolding read
read_told tags packs s es e =
    let a = check_ok (tag_table_ok tags) _ _ es e in
    let b = check_ok (pack_table_ok packs) _ _ es a.1 in
    let c = check_ok (leb (length s) 65536) _ _ es b.1 in
    let d = check_ok (group_key_ok s) _ _ es c.1 in
    record { tags_ok = a.0; packs_ok = b.0; most = c.0; group = d.0; body = d.1 }

pub read_of : (tags packs s : List ℕ) (es : List Entry) → Readable tags packs s es → read tags packs s ≡ ok es
unfolding read
read_of tags packs s es r = rw (r.tags_ok, r.packs_ok, r.most, r.group) r.body

-- bytes that read as an item list are entries with these items
pub reads_told : (tags packs s : List ℕ) (xs : List Item) → reads_as tags packs s ≡ some xs → (es : List Entry) × (read tags packs s ≡ ok es) × (items es ≡ xs)
unfolding reads_as
reads_told tags packs s xs e = go (read tags packs s) refl e
  where
    go : (a : Answer (List Entry)) → read tags packs s ≡ a → items_of a ≡ some xs → (es : List Entry) × (read tags packs s ≡ ok es) × (items es ≡ xs)
    go (ok es) f g = (es, f, cc)
    go (refused r p) f g = absurd_number (cc)

pub reads_of : (tags packs s : List ℕ) (es : List Entry) → read tags packs s ≡ ok es → reads_as tags packs s ≡ some (items es)
unfolding reads_as
reads_of tags packs s es e = rw e

-- ---- an accepted call

-- the output is what was written, and its length was looked at
sized_ok : (room : ℕ) (l w : List ℕ) → sized room l ≡ ok w → (l ≡ w) × (length w ≤ 65536) × (length w ≤ room)
sized_ok room l w e =
    let m = check_ok (leb (length l) 65536) LongOutput (check (leb (length l) room) ShortSlice (ok l)) w e in
    let n = check_ok (leb (length l) room) ShortSlice (ok l) w m.1 in
    let h : l ≡ w = cc in
    (h, rw h at (leb-true (length l) 65536 m.0), rw h at (leb-true (length l) room n.0))

pub accepted_told : (tags packs target s : List ℕ) (room : ℕ) (w : List ℕ) → regroup_of tags packs target s room ≡ ok w → Accepted tags packs target s room w
unfolding regroup_of
accepted_told tags packs target s room w e =
    let a = check_ok (tag_table_ok tags) _ _ w e in
    let b = check_ok (pack_table_ok packs) _ _ w a.1 in
    let t = check_ok (target_ok target) _ _ w b.1 in
    let c = check_ok (leb (length s) 65536) _ _ w t.1 in
    let d = check_ok (group_key_ok s) _ _ w c.1 in
    let f = check_ok (family (take 16 s) target) _ _ w d.1 in
    let r = then_ok (read_body tags packs s) _ w f.1 in
    let o = then_ok (write tags packs target (items r.0)) (sized room) w r.2 in
    let n : (o.0 ≡ w) × (length w ≤ 65536) × (length w ≤ room) = sized_ok room o.0 w o.2 in
    record {
      tags_ok = a.0;
      packs_ok = b.0;
      group = t.0;
      entries = r.0;
      reads = read_of tags packs s r.0 (record { tags_ok = a.0; packs_ok = b.0; most = c.0; group = d.0; body = r.1 });
      akin = f.0;
      writes = rw n.0 at o.1;
      most = n.1;
      fits = n.2;
    }

pub accepted_of : (tags packs target s : List ℕ) (room : ℕ) (w : List ℕ) → Accepted tags packs target s room w → regroup_of tags packs target s room ≡ ok w
unfolding regroup_of
accepted_of tags packs target s room w a =
    let r : Readable tags packs s a.entries = read_told tags packs s a.entries a.reads in
    rw (
      a.tags_ok,
      a.packs_ok,
      a.group,
      r.most,
      r.group,
      a.akin,
      r.body,
      a.writes,
      le-leb (length w) 65536 a.most,
      le-leb (length w) room a.fits,
    )

pub accepted_iff : (tags packs target s : List ℕ) (room : ℕ) (w : List ℕ) → (regroup_of tags packs target s room ≡ ok w) ↔ Accepted tags packs target s room w
accepted_iff tags packs target s room w = (accepted_told tags packs target s room w, accepted_of tags packs target s room w)

-- no call on bytes that do not read is accepted
pub unread_never : (tags packs target s : List ℕ) (room : ℕ) (w : List ℕ) → reads_as tags packs s ≡ none → regroup_of tags packs target s room ≡ ok w → ⊥
unread_never tags packs target s room w n e =
    let a : Accepted tags packs target s room w = accepted_told tags packs target s room w e in
    let r : reads_as tags packs s ≡ some (items a.entries) = reads_of tags packs s a.entries a.reads in
    absurd_number (cc)
