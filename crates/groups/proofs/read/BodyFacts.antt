-- `read::read_body`, `read_group` and `front_group`: each fact in the shape of its need.
use mathlib.Core.Path.{◌≡◌, sym, ap, ◌∙◌}
use mathlib.Core.List.{List}
use mathlib.Core.Bool.{Bool, true, false}
use Prim.Native.Nat.{ℕ, ◌+◌, ◌-◌, ◌/◌, ◌<◌, ◌≤◌}
use native.Mathlib.Omega.{arith}
use native.Mathlib.Decide.{dec_le}
use mir.Val.{Fits}
use mir.Syntax.{w64}
use lib.ListN.{length, take, drop, replicate, length-drop, length-take}
use lib.Seq.{drop-drop}
use borrow.Author.Tests.{eq-eqb, ne_eqb, le-leb, lt-leb}
use Rattle.klv.specs.Key.{is_key, key_or_zeros}
use Rattle.klv.specs.Layout.{read_as}
use Rattle.klv.specs.Pick.{pick}
use Rattle.klv.specs.declared.layout.Form.TheVariants.{Ber}
use Rattle.klv.specs.Number.{Read}
use Rattle.klv.specs.declared.layout.Number.{Number}
use Rattle.klv.specs.declared.layout.NumberError.{NumberError}
use Rattle.std.specs.Prelude.{Result, Ok, Err}
use Rattle.klv.proofs.Cases.{absurd_number, test_cases}
use Rattle.klv.proofs.LayoutLaws.{read_within}
use Rattle.klv.proofs.KeyLaws.{key_or_zeros_whole, key_or_zeros_cut, zeros_no_key, short_no_key}
use Rattle.groups.specs.declared.kind.Kind.{Kind}
use Rattle.groups.specs.declared.refusal.Refusal.{Refusal}
use Rattle.groups.specs.declared.refusal.Refused.{Refused}
use Rattle.groups.specs.declared.refusal.Refusal.TheVariants.{TagTable, PackTable, Oversize, GroupKey, OuterLength}
use Rattle.groups.specs.declared.root.Group.{Group}
use Rattle.groups.specs.Refusal.{Answer, ok, refused}
use Rattle.groups.specs.Kind.{kind_of, is_group, is_pack}
use Rattle.groups.specs.Root.{root_for, root_taken, group_of}
use Rattle.groups.specs.Tables.{tag_table_ok, pack_table_ok, table_of}
use Rattle.groups.specs.Read.{Entry, Under, under, under_of, read_items, read_body, read}
use Rattle.groups.specs.Listing.{start, read_up_to}
use Rattle.groups.specs.Slots.{Roomy, Filled}
use Rattle.groups.proofs.kind.KindLaws.{group_size}
use Rattle.groups.proofs.tables.TableLoops.{packs_few}

-- ---- a group by value is what its key decides

-- under a group by value is under its key
pub under_of_law : (k tags packs : List ℕ) → under_of (group_of k) tags packs ≡ under k tags packs
unfolding group_of under
under_of_law k tags packs = rw (root_taken (root_for (kind_of k) k))

pub under_front : (tags packs s : List ℕ) (g : Group) → g ≡ group_of (take 16 s) → under_of g tags packs ≡ under (take 16 s) tags packs
under_front tags packs s g e = ap (λ (m : Group). under_of m tags packs) e ∙ under_of_law (take 16 s) tags packs

pub coded_read : (g c : Group) (tags packs s d x y z : List ℕ) (from m : ℕ) (r : Result ℕ (Refused Refusal)) → c ≡ g
    → Filled from (read_items (under_of c tags packs) m 0 (drop from s)) d x y z r → Filled from (read_items (under_of g tags packs) m 0 (drop from s)) d x y z r
coded_read g c tags packs s d x y z from m r e q = rw e at q

-- ---- refusals fill nothing

refused_all : (from : ℕ) (x : Answer (List Entry)) (d e : List ℕ) (r : Refusal) → x ≡ refused r 0 → Filled from x d d e e (Err (record { why = r; place = 0 }))
refused_all from x d e r q =
    record {
      answer = rw q;
      keys = λ es z. let y : refused r 0 ≡ ok es = sym q ∙ z in absurd_number (cc);
      slots = λ es z. let y : refused r 0 ≡ ok es = sym q ∙ z in absurd_number (cc);
    }

-- ---- the outer length

pub group_long : (s : List ℕ) (g : Group) → g ≡ group_of (take 16 s) → is_group g.kind ≡ true → 16 ≤ length s
unfolding group_of
group_long s g e h =
    let k : is_group (kind_of (take 16 s)) ≡ true = rw e at h in
    omega (arith, group_size (take 16 s) k, length-take 16 s)

-- x is the outer length
module _ (s : List ℕ) (x : Number) (n : Read) (e : n ≡ read_as Ber (drop 16 s)) (f : n ≡ Ok x) where
  outer_within : (0 < x.width) × (x.width ≤ length (drop 16 s))
  outer_within = read_within Ber (drop 16 s) x.value x.width (sym e ∙ f)

  pub from_in : (g : Group) → g ≡ group_of (take 16 s) → is_group g.kind ≡ true → 16 + x.width ≤ length s
  from_in g p q = omega (arith, outer_within.1, length-drop 16 s, group_long s g p q)

  pub from_fit : length s ≤ 65536 → Fits w64 (16 + x.width)
  from_fit h = omega (arith, outer_within.1, length-drop 16 s)

  start_is : start s ≡ 16 + x.width
  unfolding start
  start_is = rw (← e, f)

  body_is : (tags packs : List ℕ) (m : ℕ) → x.value ≡ length s - (16 + x.width)
      → read_up_to m tags packs s ≡ read_items (under (take 16 s) tags packs) m 0 (drop (16 + x.width) s)
  unfolding read_up_to
  body_is tags packs m h =
      let z : x.value ≡ length (drop 16 s) - x.width = omega (arith, length-drop 16 s) in
      rw (← e, f, eq-eqb x.value (length (drop 16 s) - x.width) z, drop-drop x.width 16 s)

  pub body_read : (tags packs d y z w : List ℕ) (g : Group) (m : ℕ) (r : Result ℕ (Refused Refusal))
      → Filled (16 + x.width) (read_items (under_of g tags packs) m 0 (drop (16 + x.width) s)) d y z w r
      → x.value ≡ length s - (16 + x.width) → g ≡ group_of (take 16 s) → Filled (start s) (read_up_to m tags packs s) d y z w r
  unfolding under table_of
  body_read tags packs d y z w g m r q h p = rw (start_is, body_is tags packs m h) (rw (under_front tags packs s g p) at q)

  pub body_length : (tags packs d c : List ℕ) (m : ℕ) → (x.value ≡ length s - (16 + x.width) → ⊥)
      → Filled (start s) (read_up_to m tags packs s) d d c c (Err (record { why = OuterLength; place = 0 }))
  unfolding read_up_to
  body_length tags packs d c m h =
      let l : length (drop 16 s) ≡ length s - 16 = length-drop 16 s in
      let k : x.value ≡ length (drop 16 s) - x.width → ⊥ = λ q. h (q ∙ (let a : length (drop 16 s) - x.width ≡ length s - (16 + x.width) = omega arith in a)) in
      refused_all (start s) (read_up_to m tags packs s) d c OuterLength (rw (← e, f, ne_eqb x.value (length (drop 16 s) - x.width) k))

pub body_no_number : (tags packs s d e : List ℕ) (m : ℕ) (n : Read) (x : NumberError) → n ≡ read_as Ber (drop 16 s) → n ≡ Err x
    → Filled (start s) (read_up_to m tags packs s) d d e e (Err (record { why = OuterLength; place = 0 }))
unfolding read_up_to
body_no_number tags packs s d e m n x p f = refused_all (start s) (read_up_to m tags packs s) d e OuterLength (rw (← p, f))

-- ---- how many items are read

-- the number of items, under what the group's key decides
pub limit_is : (tags packs s : List ℕ) (g : Group) (n k : ℕ) → g ≡ group_of (take 16 s) → n ≡ pick (is_pack g.kind) (length packs / 20) k
    → n ≡ pick (is_pack (under (take 16 s) tags packs).kind) (under (take 16 s) tags packs).packs.count k
unfolding table_of
limit_is tags packs s g n k e f = f ∙ ap (λ (u : Under). pick (is_pack u.kind) u.packs.count k) (under_front tags packs s g e)

-- as many as a group may have are all
pub up_to_most : (tags packs s : List ℕ) (g : Group) (n : ℕ) → g ≡ group_of (take 16 s) → n ≡ pick (is_pack g.kind) (length packs / 20) 256
    → read_up_to n tags packs s ≡ read_body tags packs s
unfolding read_up_to read_body
up_to_most tags packs s g n e f = rw (limit_is tags packs s g n 256 e f)

pub room_for : (packs d e : List ℕ) (k : Kind) (n : ℕ) → n ≡ pick (is_pack k) (length packs / 20) 256 → pack_table_ok packs ≡ true → Roomy 256 d e → Roomy n d e
room_for packs d e k n f h r =
    let m : n ≤ 256 = test_cases (is_pack k) (λ t. let a : n ≡ length packs / 20 = rw t at f in omega (arith, packs_few packs h)) (λ t. let a : n ≡ 256 = rw t at f in omega arith) in
    record { few = m; keys = omega (arith, r.keys); slots = omega (arith, r.slots) }

-- ---- the first sixteen bytes

no_group : (a b : List ℕ) → is_key a ≡ false → is_key b ≡ false → group_of a ≡ group_of b
unfolding group_of kind_of
no_group a b p q = rw (p, q)

pub front_is : (s : List ℕ) (f : List ℕ) (g : Group) → f ≡ key_or_zeros (drop 0 s) → g ≡ group_of f → g ≡ group_of (take 16 s)
front_is s f g e q =
    elim (dec_le 16 (length s)) [
      | yes h ↦
          let a : f ≡ take 16 s = (e ∙ key_or_zeros_whole s h) in
          q ∙ ap group_of a
      | no h ↦
          let l : length s < 16 = omega arith in
          let a : f ≡ replicate 16 0x00 = (e ∙ key_or_zeros_cut s l) in
          q ∙ no_group f (take 16 s) (rw a zeros_no_key) (short_no_key s l)
    ]

-- ---- the checks before the items

pub group_tags : (tags packs s d e : List ℕ) (t : Bool) → t ≡ tag_table_ok tags → t ≡ false → Filled (start s) (read tags packs s) d d e e (Err (record { why = TagTable; place = 0 }))
unfolding read
group_tags tags packs s d e t p q = refused_all (start s) (read tags packs s) d e TagTable (rw (← p, q))

pub group_packs : (tags packs s d e : List ℕ) (t u : Bool) → t ≡ tag_table_ok tags → t ≡ true → u ≡ pack_table_ok packs → u ≡ false
    → Filled (start s) (read tags packs s) d d e e (Err (record { why = PackTable; place = 0 }))
unfolding read
group_packs tags packs s d e t u p q f g = refused_all (start s) (read tags packs s) d e PackTable (rw (← p, q, ← f, g))

pub group_oversize : (tags packs s d e : List ℕ) → tag_table_ok tags ≡ true → pack_table_ok packs ≡ true → 65536 < length s
    → Filled (start s) (read tags packs s) d d e e (Err (record { why = Oversize; place = 0 }))
unfolding read
group_oversize tags packs s d e p q h = refused_all (start s) (read tags packs s) d e Oversize (rw (p, q, lt-leb (length s) 65536 h))

kind_of_front : (s : List ℕ) (g : Group) (t : Bool) → g ≡ group_of (take 16 s) → t ≡ is_group g.kind → is_group (kind_of (take 16 s)) ≡ t
unfolding group_of
kind_of_front s g t e f = sym (f ∙ ap (λ (x : Group). is_group x.kind) e)

pub group_unknown : (tags packs s d e : List ℕ) (v : Bool) (g : Group) → tag_table_ok tags ≡ true → pack_table_ok packs ≡ true → length s ≤ 65536
    → g ≡ group_of (take 16 s) → v ≡ is_group g.kind → v ≡ false → Filled (start s) (read tags packs s) d d e e (Err (record { why = GroupKey; place = 0 }))
unfolding read
group_unknown tags packs s d e v g p q h a b c = refused_all (start s) (read tags packs s) d e GroupKey (rw (p, q, le-leb (length s) 65536 h, kind_of_front s g v a b, c))

pub group_read : (tags packs s d x e y : List ℕ) (v : Bool) (g : Group) (n : ℕ) (r : Result ℕ (Refused Refusal)) → Filled (start s) (read_up_to n tags packs s) d x e y r
    → n ≡ pick (is_pack g.kind) (length packs / 20) 256 → tag_table_ok tags ≡ true → pack_table_ok packs ≡ true
    → length s ≤ 65536 → g ≡ group_of (take 16 s) → v ≡ is_group g.kind → v ≡ true
    → Filled (start s) (read tags packs s) d x e y r
unfolding read
group_read tags packs s d x e y v g n r z m p q h a b c =
    rw (p, q, le-leb (length s) 65536 h, kind_of_front s g v a b, c, ← up_to_most tags packs s g n a m) z

-- a test that was told true
pub told_true : (a b : Bool) → a ≡ b → a ≡ true → b ≡ true
told_true a b e f = sym e ∙ f
