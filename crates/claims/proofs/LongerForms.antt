-- How wide lengths were sent: the items that the listing counts are those whose length, read where it stands, has a longer
-- form than needed; the output of an accepted call has none.
use mathlib.Core.Path.{◌≡◌, refl, sym, ap, ◌∙◌, subst}
use mathlib.Core.List.{List, [], ◌∷◌, append-nil}
use Prim.Native.Nat.{ℕ, zero, suc, ◌+◌, ◌*◌, ◌≤◌}
use lib.ListN.{length, take, drop}
use lib.Seq.{drop-drop}
use borrow.Author.Tests.{le-leb}
use Rattle.std.specs.Prelude.{Ok}
use Rattle.klv.specs.Layout.{is_ber}
use Rattle.klv.proofs.Cases.{pick_cases}
use Rattle.groups.specs.declared.kind.Kind.{Kind}
use Rattle.groups.specs.Refusal.{ok}
use Rattle.groups.specs.Kind.{kind_of, kind_of_byte}
use Rattle.groups.specs.Span.{ber_lengths}
use Rattle.groups.specs.Read.{Entry, Under, under, read_item, size, cons, over, ended, read_items, read, items}
use Rattle.groups.specs.Listing.{start, longer_items, listed, listing_of}
use Rattle.groups.specs.Regroup.{regroup_of}
use Rattle.groups.proofs.regroup.AnswerLaws.{not_ok, ok_same, then_ok, cons_ok}
use Rattle.groups.proofs.regroup.Accepted.{Accepted, accepted_told}
use Rattle.groups.proofs.regroup.GroupBack.{group_back, group_shortest}
use Rattle.groups.proofs.read.ReadGood.{body_told, read_told, read_good}
use Rattle.groups.proofs.item.GoodItems.{items_length_law}
use Rattle.groups.proofs.item.LengthSent.{sent_at}
use Rattle.groups.proofs.listing.LongerFacts.{none_longer}
use Rattle.claims.specs.LongerForms.{group_bytes, ber_bytes, SentItems, LongerForms, Shortened}

-- ---- the kinds whose items are looked at

pub ber_bytes_law : ber_bytes group_bytes ≡ 0x01 ∷ 0x02 ∷ 0x03 ∷ 0x0B ∷ 0x13 ∷ 0x1B ∷ 0x04 ∷ []
unfolding group_bytes ber_bytes ber_lengths kind_of_byte is_ber
ber_bytes_law = refl

-- ---- the items that are counted

items_sent : (u : Under) (left place : ℕ) (s : List ℕ) (at : ℕ) (l : List ℕ) (es : List Entry) → drop at s ≡ l → read_items u left place l ≡ ok es → SentItems u.kind s at es
unfolding read_items
items_sent u zero place s at [] es p e = subst (SentItems u.kind s at) (ok_same [] es e) tt
items_sent u zero place s at (b ∷ bs) es p e = not_ok (over u) place es e
items_sent u (suc left) place s at l es p e =
    pick_cases (ended u l) (ok []) _ (ok es) e
    (λ t q. subst (SentItems u.kind s at) (ok_same [] es q) tt)
    (λ t q.
    let m = then_ok (read_item u place l) (λ (x : Entry). cons x (read_items u left (suc place) (drop (size x) l))) es q in
    let c = cons_ok m.0 (read_items u left (suc place) (drop (size m.0) l)) es m.2 in
    let n : drop (at + size m.0) s ≡ drop (size m.0) l = sym (drop-drop (size m.0) at s) ∙ ap (drop (size m.0)) p in
    subst (SentItems u.kind s at) (sym c.2)
    (sent_at u place s l [] at m.0 (p ∙ sym (append-nil l)) m.1, items_sent u left (suc place) s (at + size m.0) (drop (size m.0) l) c.0 n c.1))

pub longer_forms : (tags packs group : List ℕ) (es : List Entry) → read tags packs group ≡ ok es → LongerForms group es
unfolding start under
longer_forms tags packs group es e =
    let b = body_told tags packs group es (read_told tags packs group es e).body in
    record {
      told = rw b.outer (items_sent (under (take 16 group) tags packs) _ 0 group (16 + b.width) (drop b.width (drop 16 group)) es (sym (drop-drop b.width 16 group)) b.reads);
      fixed = λ h. none_longer (kind_of (take 16 group)) es h;
    }

-- ---- an accepted call

listed_none : (tags packs w : List ℕ) (kind : Kind) (es : List Entry) (key_room number_room : ℕ) → read tags packs w ≡ ok es → longer_items kind es ≡ []
    → 16 * length es ≤ key_room → 3 * length es ≤ number_room → listed kind (listing_of tags packs w key_room number_room) ≡ Ok (record { count = length es; longer = 0 })
unfolding listing_of
listed_none tags packs w kind es key_room number_room r n a b = rw (r, le-leb (16 * length es) key_room a, le-leb (3 * length es) number_room b, n)

pub shortened : (tags packs target s : List ℕ) (room : ℕ) (w : List ℕ) → regroup_of tags packs target s room ≡ ok w → Shortened tags packs w
shortened tags packs target s room w e =
    let a : Accepted tags packs target s room w = accepted_told tags packs target s room w e in
    let g = read_good tags packs s a.entries a.reads in
    let c : length (items a.entries) ≤ 256 = rw (items_length_law a.entries) g.1 in
    let q = group_shortest tags packs target (items a.entries) w a.tags_ok a.packs_ok a.group g.0 c a.writes a.most in
    let k = group_back tags packs target (items a.entries) w a.tags_ok a.packs_ok a.group g.0 c a.writes a.most in
    let n : longer_items (kind_of (take 16 w)) q.0 ≡ [] = rw k.1 q.2 in
    record {
      entries = q.0;
      reads = q.1;
      none = n;
      lists = λ key_room number_room f h. listed_none tags packs w (kind_of (take 16 w)) q.0 key_room number_room q.1 n f h;
    }
