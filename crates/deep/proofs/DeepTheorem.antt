-- An accepted deep write keeps the tree of items, and a second application changes nothing.
use mathlib.Core.Path.{◌≡◌, refl, sym, ◌∙◌, subst}
use mathlib.Core.Bool.{true}
use mathlib.Core.List.{List, [], ◌++◌}
use Prim.Native.Nat.{ℕ, ◌-◌, ◌≤◌}
use native.Mathlib.Omega.{arith}
use lib.Dec.{leb, eqb}
use lib.ListN.{length, take, drop, length-append, length-drop}
use lib.Seq.{drop_at}
use borrow.Author.Tests.{le-leb, leb-true, eq-eqb, eqb-true}
use Rattle.klv.specs.Key.{is_key}
use Rattle.klv.specs.Layout.{read_as, written}
use Rattle.klv.specs.declared.layout.Form.TheVariants.{Ber}
use Rattle.std.specs.Prelude.{Ok, Err}
use Rattle.klv.specs.Number.{Read, Value}
use Rattle.klv.proofs.KeyLaws.{key_size}
use Rattle.klv.proofs.LayoutLaws.{read_back}
use Rattle.klv.proofs.LargestLaws.{largest_ber}
use Rattle.groups.specs.declared.kind.Kind.TheVariants.{Universal}
use Rattle.groups.specs.declared.refusal.Refusal.TheVariants.{TagTable, Oversize, GroupKey, OuterLength, LongOutput, ShortSlice}
use Rattle.groups.specs.Kind.{kind_of}
use Rattle.groups.specs.Tables.{tag_table_ok}
use Rattle.groups.specs.Read.{under}
use Rattle.groups.specs.Write.{group as grouped}
use Rattle.groups.proofs.regroup.GroupBack.{group_front}
use Rattle.deep.specs.declared.fault.Fault.TheVariants.{Plain}
use Rattle.deep.specs.Tree.{Answer, ok, opens, Tree, tree_of, inside_of, after_length, deep_body, deep_read}
use Rattle.deep.specs.Deep.{as_universal, universal_bytes, universal_set, deep_of}
use Rattle.deep.specs.DeepText.{DeepKept}
use Rattle.deep.proofs.DeepAnswers.{not_ok, ok_same, then_ok, check_ok}
use Rattle.deep.proofs.UniversalKeys.{opens_key, universal_kind, universal_twice}
use Rattle.deep.proofs.FineTrees.{Fine, read_fine}
use Rattle.deep.proofs.TreesBack.{TreeBack, tree_back}

-- ---- what a deep reading tells

pub record DeepTold (tags group : List ℕ) (t : Tree) : Type 0 where
  pub tags_ok : tag_table_ok tags ≡ true
  pub small : length group ≤ 65536
  pub is_set : opens (kind_of (take 16 group)) ≡ true
  pub count : ℕ
  pub width : ℕ
  pub outer : read_as Ber (drop 16 group) ≡ Value count width
  pub counts : count ≡ length (drop 16 group) - width
  pub body : tree_of (inside_of 3 tags) (under (take 16 group) tags []) 256 0 (drop width (drop 16 group)) ≡ ok t

length_told : (l : List ℕ) (m : Read) (go : List ℕ → Answer Tree) (t : Tree) → after_length l m go ≡ ok t
    → (v w : ℕ) × (m ≡ Value v w) × (v ≡ length l - w) × (go (drop w l) ≡ ok t)
length_told l (Ok n) go t e =
    let p = check_ok (eqb n.value (length l - n.width)) OuterLength (go (drop n.width l)) t e in
    (n.value, n.width, refl, eqb-true n.value (length l - n.width) p.0, p.1)
length_told l (Err x) go t e = not_ok (Plain OuterLength) 0 t e

pub deep_told : (tags group : List ℕ) (t : Tree) → deep_read tags group ≡ ok t → DeepTold tags group t
unfolding deep_read deep_body
deep_told tags group t e =
    let a = check_ok (tag_table_ok tags) TagTable _ t e in
    let b = check_ok (leb (length group) 65536) Oversize _ t a.1 in
    let c = check_ok (opens (kind_of (take 16 group))) GroupKey _ t b.1 in
    let p = length_told (drop 16 group) (read_as Ber (drop 16 group)) (λ (body : List ℕ). tree_of (inside_of 3 tags) (under (take 16 group) tags []) 256 0 body) t c.1 in
    record {
      tags_ok = a.0;
      small = leb-true (length group) 65536 b.0;
      is_set = c.0;
      count = p.0;
      width = p.1;
      outer = p.2;
      counts = p.3;
      body = p.4;
    }

-- its tree is fine
pub deep_fine : (tags group : List ℕ) (t : Tree) → deep_read tags group ≡ ok t → Fine 3 256 t
deep_fine tags group t e =
    let d = deep_told tags group t e in
    read_fine 3 tags (take 16 group) 256 0 (drop d.width (drop 16 group)) t d.tags_ok d.is_set
    (omega (arith, d.small, length-drop d.width (drop 16 group), length-drop 16 group)) d.body

-- ---- what reads deep

-- key, outer length and body of a set
pub deep_back : (others k body : List ℕ) → tag_table_ok others ≡ true → opens (kind_of k) ≡ true → length (grouped k body) ≤ 65536
    → deep_read others (grouped k body) ≡ tree_of (inside_of 3 others) (under k others []) 256 0 body
unfolding deep_read deep_body
deep_back others k body t o h =
    let wr : List ℕ = written Ber (length body) in
    let i : is_key k ≡ true = opens_key k o in
    let d : drop 16 (grouped k body) ≡ written Ber (length body) ++ body = drop_at k (written Ber (length body) ++ body) 16 (key_size k i) in
    let n : length body ≡ length (wr ++ body) - length wr = omega (arith, length-append wr body) in
    let m : length body ≤ 65536 = omega (arith, length-append k (wr ++ body), length-append wr body) in
    rw (
      t,
      le-leb (length (grouped k body)) 65536 h,
      group_front k body i,
      o,
      d,
      read_back Ber (length body) body (omega (arith, largest_ber)),
      eq-eqb (length body) (length (wr ++ body) - length wr) n,
      drop_at wr body (length wr) refl,
    )

-- ---- what a deep write tells

pub write_told : (tags group : List ℕ) (room : ℕ) (w : List ℕ) → deep_of tags group room ≡ ok w
    → (t : Tree) × (deep_read tags group ≡ ok t) × (universal_set group t ≡ w) × (length w ≤ 65536)
unfolding deep_of
write_told tags group room w e =
    let p = then_ok (deep_read tags group) _ w e in
    let a = check_ok (leb (length (universal_set group p.0)) 65536) LongOutput _ w p.2 in
    let b = check_ok (leb (length (universal_set group p.0)) room) ShortSlice _ w a.1 in
    let z : universal_set group p.0 ≡ w = ok_same (universal_set group p.0) w b.1 in
    (p.0, p.1, z, subst (λ (l : List ℕ). length l ≤ 65536) z (leb-true (length (universal_set group p.0)) 65536 a.0))

-- a deep write is accepted where the set reads and the output has room
pub write_back : (tags group : List ℕ) (room : ℕ) (t : Tree) (w : List ℕ) → deep_read tags group ≡ ok t → universal_set group t ≡ w → length w ≤ 65536 → length w ≤ room
    → deep_of tags group room ≡ ok w
unfolding deep_of
write_back tags group room t w e z h n = rw (e, z, le-leb (length w) 65536 h, le-leb (length w) room n)

-- ---- the theorem

kept : (tags group : List ℕ) (t : Tree) → deep_read tags group ≡ ok t → length (universal_set group t) ≤ 65536 → DeepKept tags group (universal_set group t)
kept tags group t e h =
    let d = deep_told tags group t e in
    let k : List ℕ = as_universal (take 16 group) in
    let q : kind_of (as_universal (take 16 group)) ≡ Universal = universal_kind (take 16 group) d.is_set in
    let o : opens (kind_of (as_universal (take 16 group))) ≡ true = rw q in
    let b : (others : List ℕ) → tag_table_ok others ≡ true → TreeBack 3 others k 256 0 t = λ others g. tree_back (deep_fine tags group t e) others k 0 g q in
    let r : (others : List ℕ) (g : tag_table_ok others ≡ true) → deep_read others (universal_set group t) ≡ ok (b others g).tree =
    λ others g. deep_back others k (universal_bytes t) g o h ∙ (b others g).reads in
    let f : take 16 (universal_set group t) ≡ k = group_front k (universal_bytes t) (opens_key k o) in
    record {
      same_tree = λ others g. (t, (b others g).tree, e, r others g, (b others g).shape);
      again = λ others more g n.
          write_back others (universal_set group t) more (b others g).tree (universal_set group t) (r others g)
          (rw (f, universal_twice (take 16 group), (b others g).bytes)) h n;
      shortest = λ others g. ((b others g).tree, r others g, rw (f, q) (b others g).shortest);
    }

pub deep_kept : (tags group : List ℕ) (room : ℕ) (w : List ℕ) → deep_of tags group room ≡ ok w → DeepKept tags group w
deep_kept tags group room w e =
    let p = write_told tags group room w e in
    subst (λ (x : List ℕ). DeepKept tags group x) p.2 (kept tags group p.0 p.1 (subst (λ (x : List ℕ). length x ≤ 65536) (sym p.2) p.3))
