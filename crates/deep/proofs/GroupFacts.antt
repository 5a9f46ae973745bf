-- A whole set written in universal form: each fact in the shape of its need.
use mathlib.Core.Path.{◌≡◌, sym, ap, ◌∙◌, subst}
use mathlib.Core.Bool.{true, false}
use mathlib.Core.List.{List, [], ◌++◌, append_assoc}
use Prim.Native.Nat.{ℕ, ◌+◌, ◌<◌, ◌≤◌}
use native.Mathlib.Omega.{arith}
use Rattle.std.specs.Prelude.{Result, Ok, Err}
use lib.Dec.{leb}
use lib.ListN.{length, take, drop, length-append, length-set, length-drop}
use borrow.Author.Tests.{le-leb, lt-leb}
use Rattle.klv.specs.Bytes.{pasted}
use Rattle.klv.specs.Key.{key_or_zeros}
use Rattle.klv.specs.Layout.{written}
use Rattle.klv.specs.declared.layout.Form.TheVariants.{Ber}
use Rattle.groups.specs.declared.kind.Kind.{Kind}
use Rattle.groups.specs.declared.refusal.Refusal.TheVariants.{LongOutput, ShortSlice}
use Rattle.groups.specs.Kind.{kind_of}
use Rattle.groups.specs.Arrays.{Put}
use Rattle.groups.specs.Read.{under}
use Rattle.groups.specs.Listing.{start}
use Rattle.groups.specs.Refusal.{accepted}
use Rattle.groups.proofs.write.Totals.{put_then, put_length}
use Rattle.groups.specs.declared.refusal.Refused.{Refused}
use Rattle.deep.specs.declared.fault.Fault.{Fault}
use Rattle.deep.specs.declared.fault.Fault.TheVariants.{Plain}
use Rattle.deep.specs.declared.walk.Walked.{Walked}
use Rattle.deep.specs.declared.write.Spot.{Spot}
use Rattle.deep.specs.Tree.{Answer, ok, refused, Tree, deep_read}
use Rattle.deep.specs.Deep.{as_universal, universal_bytes, universal_set, deep_of, DeepWrites}
use Rattle.deep.specs.Walk.{set_tree, framed, Noted, Walks, sizes_of, reads, bytes_of, group_bytes, PutSets}
use Rattle.deep.proofs.SetItems.{under_kind, under_tags}
use Rattle.deep.proofs.TreeBounds.{tree_size}
use Rattle.deep.proofs.GrowLaws.{grouped_length}
use Rattle.deep.proofs.NoteFacts.{noted_notes}
use Rattle.deep.proofs.DeepTheorem.{deep_told}
use Rattle.deep.proofs.ToldGroup.{body_of, body_length, told_key, told, front_key, group_is, items_told, walked_reads, fault_told}

-- ---- writing it

pub group_front_room : (size : ℕ) (out : List ℕ) → framed size ≤ length out → 0 + (16 + length (written Ber size)) ≤ length out
unfolding framed
group_front_room size out h = omega arith

module _ (tags group : List ℕ) (h : reads (deep_read tags group) ≡ true) where
  pub group_small : (from : ℕ) → 0 + length (body_of group from) ≤ 65536
  group_small from = told tags group h (λ t q d. omega (arith, d.small, body_length group from))

  module _ (front : List ℕ) (ef : front ≡ key_or_zeros (drop 0 group)) where
    module _ (kind : Kind) (ek : kind ≡ kind_of front) where
      module _ (from : ℕ) (es : from ≡ start group) where
        pub group_noted : (sizes : List ℕ) → Noted sizes 0 (sizes_of (deep_read tags group)) → Noted sizes 0 (sizes_of (set_tree 3 tags kind (body_of group from)))
        group_noted sizes n = subst (λ (a : Answer Tree). Noted sizes 0 (sizes_of a)) (sym (group_is tags group h front ef kind ek from es)) n

        module _ (size : ℕ) (ez : size ≡ length (bytes_of (deep_read tags group))) (out : List ℕ) (room : framed size ≤ length out)
            (uk : List ℕ) (eu : uk ≡ as_universal front) (x : List ℕ) (at : ℕ) (p : Put out 0 (uk ++ written Ber size) x at) where
          key_length : length uk ≡ 16
          key_length = told tags group h (λ t q d. rw (eu, front_key tags group h front ef) (length-set (take 16 group) 5 1 ∙ told_key tags group t d))

          front_length : length (uk ++ written Ber size) ≡ 16 + length (written Ber size)
          front_length = length-append uk (written Ber size) ∙ ap (λ (n : ℕ). n + length (written Ber size)) key_length

          front_fits : 0 + length (uk ++ written Ber size) ≤ length out
          front_fits = omega (arith, group_front_room size out room, front_length)

          items_length_law : length (bytes_of (set_tree 3 tags kind (body_of group from))) ≡ size
          items_length_law = ap (λ (a : Answer Tree). length (bytes_of a)) (group_is tags group h front ef kind ek from es) ∙ sym ez

          room_is : 16 + length (written Ber size) + size ≤ length out
          unfolding framed
          room_is = room

          pub group_items_room : at + length (bytes_of (set_tree 3 tags kind (body_of group from))) ≤ length x
          group_items_room = omega (arith, p.end, front_length, items_length_law, room_is, put_length out x (uk ++ written Ber size) 0 at p front_fits)

          pub group_put : (y : List ℕ) (r : Spot) (n : ℕ) → PutSets x at (bytes_of (set_tree 3 tags kind (body_of group from))) y 0 n r
              → y ≡ pasted out 0 (group_bytes group (deep_read tags group))
          group_put y r n q =
              told tags group h (λ t v d.
              let b : bytes_of (set_tree 3 tags kind (body_of group from)) ≡ universal_bytes t = ap bytes_of (group_is tags group h front ef kind ek from es ∙ v) in
              let s : size ≡ length (universal_bytes t) = ez ∙ ap (λ (a : Answer Tree). length (bytes_of a)) v in
              let w = put_then out x y (uk ++ written Ber size) (bytes_of (set_tree 3 tags kind (body_of group from))) 0 at r.at p q.put front_fits in
              let g : (uk ++ written Ber size) ++ bytes_of (set_tree 3 tags kind (body_of group from)) ≡ group_bytes group (deep_read tags group) =
              append_assoc uk (written Ber size) (bytes_of (set_tree 3 tags kind (body_of group from))) ∙ rw (v, b, eu, front_key tags group h front ef, s) in
              w.bytes ∙ ap (pasted out 0) g)

-- ---- the deep write, from what was walked

module _ (tags group d x : List ℕ) (r : Result Walked (Refused Fault)) (w : Walks (deep_read tags group) 0 d x r) where
  module _ (v : Walked) (e : r ≡ Ok v) where
    walked_told : {P : Type 0} → ((t : Tree) → deep_read tags group ≡ ok t → length (universal_bytes t) ≡ v.size → P) → P
    walked_told f = items_told tags group 0 d x r w v e (λ t q s c. f t q s)

    pub walked_size : v.size ≡ length (bytes_of (deep_read tags group))
    walked_size = walked_told (λ t q s. sym s ∙ ap (λ (a : Answer Tree). length (bytes_of a)) (sym q))

    pub walked_noted : Noted x 0 (sizes_of (deep_read tags group))
    walked_noted = subst (λ (m : List ℕ). Noted m 0 (sizes_of (deep_read tags group))) (sym (w.sizes (walked_reads tags group 0 d x r w v e))) (noted_notes d (sizes_of (deep_read tags group)) 0)

    pub walked_most : v.size ≤ 4294967295
    walked_most =
        walked_told (λ t q s.
        let m = deep_told tags group t q in
        omega (
          arith,
          m.small,
          length-drop m.width (drop 16 group),
          length-drop 16 group,
          tree_size 3 tags (under (take 16 group) tags []) 256 0 (drop m.width (drop 16 group)) t (rw (under_kind (take 16 group) tags []) m.is_set) (under_tags (take 16 group) tags []) m.body,
        ))

    module _ (total : ℕ) (et : total ≡ framed v.size) (out : List ℕ) where
      total_is : (t : Tree) → deep_read tags group ≡ ok t → length (universal_bytes t) ≡ v.size → length (universal_set group t) ≡ total
      total_is t q s =
          grouped_length (as_universal (take 16 group)) (universal_bytes t) (length-set (take 16 group) 5 1 ∙ told_key tags group t (deep_told tags group t q))
          ∙ ap framed s ∙ sym et

      pub deep_long : 65536 < total → DeepWrites tags group out out (Err (record { why = Plain LongOutput; place = 0 }))
      unfolding deep_of
      deep_long h =
          walked_told (λ t q s.
          let z : leb (length (universal_set group t)) 65536 ≡ false = lt-leb (length (universal_set group t)) 65536 (omega (arith, total_is t q s)) in
          record { answer = rw (q, z); says = rw (q, z); bytes = rw (q, z) })

      pub deep_short : total ≤ 65536 → length out < total → DeepWrites tags group out out (Err (record { why = Plain ShortSlice; place = 0 }))
      unfolding deep_of
      deep_short h l =
          walked_told (λ t q s.
          let z : leb (length (universal_set group t)) 65536 ≡ true = le-leb (length (universal_set group t)) 65536 (omega (arith, total_is t q s)) in
          let y : leb (length (universal_set group t)) (length out) ≡ false = lt-leb (length (universal_set group t)) (length out) (omega (arith, total_is t q s)) in
          record { answer = rw (q, z, y); says = rw (q, z, y); bytes = rw (q, z, y) })

      pub deep_room : total ≤ length out → framed v.size ≤ length out
      deep_room l = omega (arith, et)

      pub deep_done : (y : List ℕ) → total ≤ 65536 → total ≤ length out → y ≡ pasted out 0 (group_bytes group (deep_read tags group)) → DeepWrites tags group out y (Ok total)
      unfolding deep_of
      deep_done y h l b =
          walked_told (λ t q s.
          let z : leb (length (universal_set group t)) 65536 ≡ true = le-leb (length (universal_set group t)) 65536 (omega (arith, total_is t q s)) in
          let u : leb (length (universal_set group t)) (length out) ≡ true = le-leb (length (universal_set group t)) (length out) (omega (arith, total_is t q s)) in
          record {
            answer = rw (q, z, u) (ap Ok (sym (total_is t q s)));
            says = rw (q, z, u) (ap accepted (sym (total_is t q s)));
            bytes = rw (q, z, u) (rw q at b);
          })

  -- what the exit of `?` returns
  pub deep_refused : (y : Refused Fault) (out : List ℕ) → r ≡ Err y → DeepWrites tags group out out (Err y)
  unfolding deep_of
  deep_refused y out e =
      let q : deep_read tags group ≡ refused y.why y.place = fault_told tags group 0 d x r w y e in
      record { answer = rw q; says = rw q; bytes = rw q }
