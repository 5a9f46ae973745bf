-- The listing of a whole set.
use mathlib.Core.Path.{◌≡◌, sym, ap, ◌∙◌}
use mathlib.Core.Bool.{true, false}
use mathlib.Core.List.{List, []}
use mathlib.Core.Option.{some}
use Rattle.std.specs.Prelude.{Result, Ok, Err}
use Prim.Native.Nat.{ℕ, ◌+◌, ◌-◌, ◌*◌, ◌<◌, ◌≤◌}
use native.Mathlib.Omega.{arith}
use mir.Val.{Fits}
use mir.Syntax.{w64}
use lib.Dec.{leb}
use lib.ListN.{length, take, drop, length-drop}
use borrow.Author.Tests.{le-leb, lt-leb}
use Rattle.klv.specs.Key.{key_or_zeros}
use Rattle.klv.specs.Bytes.{pasted}
use Rattle.groups.specs.declared.kind.Kind.{Kind}
use Rattle.groups.specs.declared.refusal.Refusal.TheVariants.{ShortSlice}
use Rattle.groups.specs.Kind.{kind_of}
use Rattle.groups.specs.Listing.{start}
use Rattle.groups.specs.Refusal.{accepted}
use Rattle.groups.specs.Read.{under}
use Rattle.groups.specs.declared.refusal.Refused.{Refused}
use Rattle.deep.specs.declared.fault.Fault.{Fault}
use Rattle.deep.specs.declared.fault.Fault.TheVariants.{Plain}
use Rattle.groups.specs.declared.listing.Listed.{Listed}
use Rattle.deep.specs.declared.walk.Walked.{Walked}
use Rattle.deep.specs.Tree.{Answer, ok, refused, Tree, deep_read}
use Rattle.deep.specs.Deep.{count_of, tree_longer, deep_listing_of, DeepLists}
use Rattle.deep.specs.Walk.{set_tree, reads, count_in, keys_in_tree, numbers_in, longer_in, Tallied, Room, Walks}
use Rattle.deep.proofs.SetItems.{under_kind}
use Rattle.deep.proofs.TreeBounds.{tree_count}
use Rattle.deep.proofs.DeepTheorem.{deep_told}
use Rattle.deep.proofs.ToldGroup.{body_of, body_length, told, told_within, front_key, group_is, items_told, fault_told}

module _ (tags group : List ℕ) (r : reads (deep_read tags group) ≡ true) where
  pub group_body : (from : ℕ) → from ≡ start group → from + length (body_of group from) ≤ 65536
  group_body from e = told tags group r (λ t q d. omega (arith, told_within tags group t d, d.small, body_length group from))

  pub group_room : (front : List ℕ) (kind : Kind) (from : ℕ) (d y : List ℕ) → front ≡ key_or_zeros (drop 0 group) → kind ≡ kind_of front → from ≡ start group
      → Room (count_in (deep_read tags group)) 0 d y → Room (count_in (set_tree 3 tags kind (body_of group from))) 0 d y
  group_room front kind from d y e f g w =
      let c : count_in (deep_read tags group) ≡ count_in (set_tree 3 tags kind (body_of group from)) = sym (ap count_in (group_is tags group r front e kind f from g)) in
      record { keys = omega (arith, w.keys); numbers = omega (arith, w.numbers) }

  pub group_keys : (front : List ℕ) (kind : Kind) (from : ℕ) (next : Listed) (d x y z : List ℕ) → front ≡ key_or_zeros (drop 0 group) → kind ≡ kind_of front → from ≡ start group
      → Tallied (count_in (set_tree 3 tags kind (body_of group from))) (longer_in kind (set_tree 3 tags kind (body_of group from))) (record { count = 0; longer = 0 }) (keys_in_tree (set_tree 3 tags kind (body_of group from))) (numbers_in from (4 - 3) (set_tree 3 tags kind (body_of group from))) d x y z next
      → x ≡ pasted d 0 (keys_in_tree (deep_read tags group))
  group_keys front kind from next d x y z e f g l = l.listed.key_bytes ∙ ap (λ (a : Answer Tree). pasted d 0 (keys_in_tree a)) (group_is tags group r front e kind f from g)

  pub group_numbers : (front : List ℕ) (kind : Kind) (from : ℕ) (next : Listed) (d x y z : List ℕ) → front ≡ key_or_zeros (drop 0 group) → kind ≡ kind_of front → from ≡ start group
      → Tallied (count_in (set_tree 3 tags kind (body_of group from))) (longer_in kind (set_tree 3 tags kind (body_of group from))) (record { count = 0; longer = 0 }) (keys_in_tree (set_tree 3 tags kind (body_of group from))) (numbers_in from (4 - 3) (set_tree 3 tags kind (body_of group from))) d x y z next
      → z ≡ pasted y 0 (numbers_in (start group) 1 (deep_read tags group))
  group_numbers front kind from next d x y z e f g l =
      l.listed.triples ∙ ap (λ (a : Answer Tree). pasted y 0 (numbers_in from 1 a)) (group_is tags group r front e kind f from g) ∙ ap (λ (a : ℕ). pasted y 0 (numbers_in a 1 (deep_read tags group))) g

  pub group_longer : (front : List ℕ) (kind : Kind) (from : ℕ) (next : Listed) (d x y z : List ℕ) → front ≡ key_or_zeros (drop 0 group) → kind ≡ kind_of front → from ≡ start group
      → Tallied (count_in (set_tree 3 tags kind (body_of group from))) (longer_in kind (set_tree 3 tags kind (body_of group from))) (record { count = 0; longer = 0 }) (keys_in_tree (set_tree 3 tags kind (body_of group from))) (numbers_in from (4 - 3) (set_tree 3 tags kind (body_of group from))) d x y z next
      → next.longer ≡ longer_in (kind_of (take 16 group)) (deep_read tags group)
  group_longer front kind from next d x y z e f g l =
      let k : kind ≡ kind_of (take 16 group) = f ∙ ap kind_of (front_key tags group r front e) in
      let z : 0 + longer_in kind (set_tree 3 tags kind (body_of group from)) ≡ longer_in kind (set_tree 3 tags kind (body_of group from)) = omega arith in
      l.longer ∙ z ∙ ap (λ (a : Answer Tree). longer_in kind a) (group_is tags group r front e kind f from g) ∙ ap (λ (v : Kind). longer_in v (deep_read tags group)) k

-- at most as many items as bytes
deep_count : (tags group : List ℕ) (t : Tree) → deep_read tags group ≡ ok t → count_of t ≤ 65536
deep_count tags group t e =
    let d = deep_told tags group t e in
    omega (
      arith,
      tree_count 3 tags (under (take 16 group) tags []) 256 0 (drop d.width (drop 16 group)) t (rw (under_kind (take 16 group) tags []) d.is_set) d.body,
      d.small,
      length-drop d.width (drop 16 group),
      length-drop 16 group,
    )

-- ---- what the measuring tells

module _ (tags group : List ℕ) (first : ℕ) (none left : List ℕ) (w : Result Walked (Refused Fault)) (h : Walks (deep_read tags group) first none left w) where
  module _ (f : Walked) (q : w ≡ Ok f) where
    few : f.count ≤ 65536
    few = items_told tags group first none left w h f q (λ t e i l. omega (arith, deep_count tags group t e))

    pub keys_fit : Fits w64 (16 * f.count)
    keys_fit = omega (arith, few)

    pub numbers_fit : Fits w64 (3 * f.count)
    numbers_fit = omega (arith, few)

    pub walked_room : (d e : List ℕ) → 16 * f.count ≤ length d → 3 * f.count ≤ length e → Room (count_in (deep_read tags group)) 0 d e
    walked_room d e a b =
        items_told tags group first none left w h f q
        (λ t z o l.
        let k : count_in (deep_read tags group) ≡ f.count = ap count_in z ∙ l in
        record { keys = omega arith; numbers = omega arith })

    pub walked_listed : (m : ℕ) (d x e y : List ℕ) → 16 * f.count ≤ length d → 3 * f.count ≤ length e → m ≡ longer_in (kind_of (take 16 group)) (deep_read tags group)
        → x ≡ pasted d 0 (keys_in_tree (deep_read tags group)) → y ≡ pasted e 0 (numbers_in (start group) 1 (deep_read tags group))
        → DeepLists tags group d x e y (Ok (record { count = f.count; longer = m }))
    unfolding deep_listing_of
    walked_listed m d x e y a b o i j =
        items_told tags group first none left w h f q
        (λ t z p k.
        let u : leb (16 * count_of t) (length d) ≡ true = le-leb (16 * count_of t) (length d) (omega arith) in
        let v : leb (3 * count_of t) (length e) ≡ true = le-leb (3 * count_of t) (length e) (omega arith) in
        let w : m ≡ length (tree_longer (kind_of (take 16 group)) t) = o ∙ ap (longer_in (kind_of (take 16 group))) z in
        record {
          answer = rw (z, u, v) (cc (k, w));
          says = rw (z, u, v) (ap accepted (sym k));
          longer_forms = rw (z, u, v) (ap some w);
          keys = rw (z, u, v) (i ∙ ap (λ (a : Answer Tree). pasted d 0 (keys_in_tree a)) z);
          numbers = rw (z, u, v) (j ∙ ap (λ (a : Answer Tree). pasted e 0 (numbers_in (start group) 1 a)) z);
        })

    pub short_keys : (d e : List ℕ) → length d < 16 * f.count → DeepLists tags group d d e e (Err (record { why = Plain ShortSlice; place = 0 }))
    unfolding deep_listing_of
    short_keys d e a =
        items_told tags group first none left w h f q
        (λ t z o k.
        let u : leb (16 * count_of t) (length d) ≡ false = lt-leb (16 * count_of t) (length d) (omega arith) in
        record { answer = rw (z, u); says = rw (z, u); longer_forms = rw (z, u); keys = rw (z, u); numbers = rw (z, u) })

    pub short_numbers : (d e : List ℕ) → 16 * f.count ≤ length d → length e < 3 * f.count → DeepLists tags group d d e e (Err (record { why = Plain ShortSlice; place = 0 }))
    unfolding deep_listing_of
    short_numbers d e a b =
        items_told tags group first none left w h f q
        (λ t z o k.
        let u : leb (16 * count_of t) (length d) ≡ true = le-leb (16 * count_of t) (length d) (omega arith) in
        let v : leb (3 * count_of t) (length e) ≡ false = lt-leb (3 * count_of t) (length e) (omega arith) in
        record { answer = rw (z, u, v); says = rw (z, u, v); longer_forms = rw (z, u, v); keys = rw (z, u, v); numbers = rw (z, u, v) })

  pub walked_unread : (d e : List ℕ) (y : Refused Fault) → w ≡ Err y → DeepLists tags group d d e e (Err y)
  unfolding deep_listing_of
  walked_unread d e y q =
      let z : deep_read tags group ≡ refused y.why y.place = fault_told tags group first none left w h y q in
      record { answer = rw z; says = rw z; longer_forms = rw z; keys = rw z; numbers = rw z }
