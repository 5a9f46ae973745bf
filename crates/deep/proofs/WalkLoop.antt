-- `walk::walk_set`: the items of a set, measured one after another; each fact in the shape of its need.
use mathlib.Core.Path.{◌≡◌, refl, sym, ap, ◌∙◌}
use mathlib.Core.Bool.{true, false≢true}
use mathlib.Core.List.{List, ◌++◌}
use Prim.Native.Nat.{ℕ, ◌+◌, ◌-◌, ◌*◌, ◌<◌, ◌≤◌}
use native.Mathlib.Omega.{arith}
use native.Mathlib.Decide.{dec_le}
use Rattle.std.specs.Prelude.{Result, Ok, Err}
use mir.Val.{Fits}
use mir.Syntax.{w64}
use lib.ListN.{length, take, drop, length-drop}
use lib.Seq.{length-take-le}
use Rattle.klv.specs.declared.layout.Form.TheVariants.{Ber}
use Rattle.klv.proofs.Cases.{absurd_number}
use Rattle.klv.proofs.LayoutLaws.{written_most}
use Rattle.groups.specs.declared.kind.Kind.{Kind}
use Rattle.groups.specs.declared.refusal.Refusal.{Refusal}
use Rattle.groups.specs.declared.refusal.Refusal.TheVariants.{Count}
use Rattle.groups.specs.Tables.{table_of}
use Rattle.groups.specs.Read.{set_under}
use Rattle.groups.proofs.item.EntryLaws.{item_place}
use Rattle.groups.specs.declared.refusal.Refused.{Refused}
use Rattle.deep.specs.declared.fault.Fault.{Fault}
use Rattle.deep.specs.declared.fault.Fault.TheVariants.{Plain}
use Rattle.deep.specs.declared.set.Member.{Member}
use Rattle.deep.specs.declared.walk.Walked.{Walked}
use Rattle.deep.specs.Tree.{Answer, ok, refused, opens, Tree, end, grow, inside_of}
use Rattle.deep.specs.Deep.{universal_bytes, count_of}
use Rattle.deep.specs.Walk.{set_tree, framed, MemberOf, set_sizes, noted, walked, sizes_of, reads, Walks, inside_sizes, InsideWalks, Small, total_plus}
use Rattle.deep.proofs.StepLaws.{set_no_pack, Stepped, stepped, member_refused, tree_at, tree_step, tree_stops, tree_full, tree_done}
use Rattle.deep.proofs.GrowLaws.{grow_reads, grow_sizes, added, items, items_same, grow_walked, grow_fails, sizes_none}
use Rattle.deep.proofs.NoteFacts.{noted_none, noted_parts}
use Rattle.deep.proofs.WalkBounds.{InsideMost, inside_most, sizes_told}

added_none : (a : Answer Tree) → added 0 0 0 (walked a) ≡ walked a
added_none (ok t) = items_same (omega arith) (omega arith) (omega arith)
added_none (refused r p) = refl

walked_none : walked (ok end) ≡ items 0 0 0
unfolding universal_bytes count_of set_sizes
walked_none = refl

added_more : (s c n x y z : ℕ) (w : Result Walked (Refused Fault)) → added s c n (added x y z w) ≡ added (s + x) (c + y) (n + z) w
added_more s c n x y z (Ok v) = items_same (omega arith) (omega arith) (omega arith)
added_more s c n x y z (Err r) = refl

rest_reads : (a b : Answer Tree) (s c n : ℕ) → walked a ≡ added s c n (walked b) → reads a ≡ true → reads b ≡ true
rest_reads a (ok u) s c n e h = refl
rest_reads (ok t) (refused r p) s c n e h = absurd_number (cc)
rest_reads (refused q p') (refused r p) s c n e h = h

refused_reads : {P : Type 0} (a : Answer Tree) (y : Refused Fault) → walked a ≡ Err y → reads a ≡ true → P
refused_reads (ok t) y e h = absurd_number (cc)
refused_reads (refused r q) y e h = absurd (false≢true h)

pub record Walking (deeper : ℕ) (tags : List ℕ) (kd : Kind) (s : List ℕ) (first : ℕ) (d x : List ℕ) (at place size count sets : ℕ) : Type 0 where
  pub within : at ≤ length s
  pub few : place ≤ 256
  pub size_most : size ≤ 26 * at
  pub count_most : count ≤ at
  pub sets_most : sets ≤ at
  pub long : length x ≡ length d
  pub rest : walked (set_tree deeper tags kd s) ≡ added size count sets (walked (tree_at deeper tags kd s at place))
  pub notes : reads (set_tree deeper tags kd s) ≡ true → noted x (first + sets) (sizes_of (tree_at deeper tags kd s at place)) ≡ noted d first (sizes_of (set_tree deeper tags kd s))

pub walking_start : (deeper : ℕ) (tags : List ℕ) (kd : Kind) (s : List ℕ) (first : ℕ) (d : List ℕ) → Walking deeper tags kd s first d d 0 0 0 0 0
walking_start deeper tags kd s first d =
    record {
      within = omega arith;
      few = omega arith;
      size_most = omega arith;
      count_most = omega arith;
      sets_most = omega arith;
      long = refl;
      rest = sym (added_none (set_tree deeper tags kd s));
      notes = λ h. (let z : first + 0 ≡ first = omega arith in rw z refl);
    }

-- a place is left
few_left : (place : ℕ) → place ≤ 256 → (place ≡ 256 → ⊥) → place < 256
few_left place a b = elim (dec_le 256 place) [ yes h ↦ absurd (b (omega arith)) | no h ↦ omega arith ]

module _ (deeper : ℕ) (tags : List ℕ) (kd : Kind) (s : List ℕ) (first : ℕ) (d x : List ℕ) (at place size count sets : ℕ)
    (q : Walking deeper tags kd s first d x at place size count sets) where
  pub walking_within : at ≤ length s
  walking_within = q.within

  pub walking_long : length x ≡ length d
  walking_long = q.long

  -- nothing is left
  pub walking_end : opens kd ≡ true → length s ≤ at → Walks (set_tree deeper tags kd s) first d x (items size count sets)
  walking_end o h =
      let e : tree_at deeper tags kd s at place ≡ ok end = tree_done (inside_of deeper tags) (set_under kd (table_of tags)) s at place (set_no_pack kd o) h in
      record {
        answer = sym (q.rest ∙ ap (λ (a : Answer Tree). added size count sets (walked a)) e ∙ ap (added size count sets) walked_none ∙ items_same (omega arith) (omega arith) (omega arith));
        sizes = λ r. sym (noted_none x (first + sets)) ∙ (rw (e, sizes_none) at (q.notes r));
      }

  -- the rest does not read
  failed : (r : Refused Fault) (y : List ℕ) → walked (tree_at deeper tags kd s at place) ≡ Err r → Walks (set_tree deeper tags kd s) first d y (Err r)
  failed r y e =
      let z : walked (set_tree deeper tags kd s) ≡ Err r = q.rest ∙ ap (added size count sets) e in
      record { answer = sym z; sizes = λ h. refused_reads (set_tree deeper tags kd s) r z h }

  pub walking_full : at < length s → place ≡ 256 → Walks (set_tree deeper tags kd s) first d x (Err (record { why = Plain Count; place = place }))
  walking_full h l = failed (record { why = Plain Count; place = place }) x (ap walked (tree_full (inside_of deeper tags) (set_under kd (table_of tags)) s at place h l))

  -- an item
  module _ (got : Result Member Refusal) (b : MemberOf (set_under kd (table_of tags)) s at got) (h : at < length s) (n : place ≡ 256 → ⊥) where
    pub walking_refused : (r : Refusal) (f : Fault) → got ≡ Err r → f ≡ Plain r → Walks (set_tree deeper tags kd s) first d x (Err (record { why = f; place = place }))
    walking_refused r f e z =
        let y = member_refused (set_under kd (table_of tags)) s at place r got b e in
        let p : y.0 ≡ place = item_place (set_under kd (table_of tags)) place (drop at s) r y.0 y.1 in
        failed (record { why = f; place = place }) x
        (ap walked (tree_stops (inside_of deeper tags) (set_under kd (table_of tags)) s at place r y.0 y.1 h (few_left place q.few n)) ∙ rw (z, p))

    module _ (m : Member) (e : got ≡ Ok m) (o : opens kd ≡ true) where
      step : Stepped (set_under kd (table_of tags)) s at place m.from m.end m.width m.key
      step = stepped kd tags s at place got m b e o q.within

      pub item_ordered : m.from ≤ m.end
      item_ordered = omega (arith, step.ends)

      pub item_inside : m.end ≤ length s
      item_inside = step.inside

      pub item_less : length s - m.end < length s - at
      item_less = omega (arith, step.after, step.ends, step.inside)

      value_long : length (take (m.end - m.from) (drop m.from s)) ≡ m.end - m.from
      value_long = length-take-le (m.end - m.from) (drop m.from s) (simp length-drop (omega (arith, step.inside)))

      pub item_room : first + length s ≤ 65536 → (first + sets) + (1 + length (take (m.end - m.from) (drop m.from s))) ≤ 65536
      item_room g = omega (arith, q.sets_most, step.after, step.ends, step.inside, value_long)

      pub item_set_fits : first + length s ≤ 65536 → Fits w64 (first + sets)
      item_set_fits g = omega (arith, q.sets_most, q.within)

      grown : tree_at deeper tags kd s at place ≡ grow place step.item (inside_of deeper tags m.key (take (m.end - m.from) (drop m.from s))) (tree_at deeper tags kd s m.end (place + 1))
      grown = tree_step (inside_of deeper tags) (set_under kd (table_of tags)) s at place m.from m.end m.width m.key step h (few_left place q.few n)

      module _ (y : List ℕ) (r : Result Walked (Refused Fault))
          (w : InsideWalks place (length (take (m.end - m.from) (drop m.from s))) (inside_of deeper tags m.key (take (m.end - m.from) (drop m.from s))) (first + sets) x y r) where
        -- what the exit of `?` returns
        pub walking_fails : (z : Refused Fault) → r ≡ Err z → Walks (set_tree deeper tags kd s) first d y (Err z)
        walking_fails z g =
            failed z y
            (ap walked grown
            ∙ grow_fails place step.item (inside_of deeper tags m.key (take (m.end - m.from) (drop m.from s))) (tree_at deeper tags kd s m.end (place + 1)) z
            (rw step.value (sym w.answer ∙ g)))

        module _ (v : Walked) (g : r ≡ Ok v) where
          most : InsideMost (length (take (m.end - m.from) (drop m.from s))) v.size v.count v.sets
          most = inside_most deeper tags m.key (take (m.end - m.from) (drop m.from s)) place v (sym w.answer ∙ g)

          pub totals_small : (u : Walked) → u.size ≡ size → u.count ≡ count → u.sets ≡ sets → first + length s ≤ 65536 → Small u v
          totals_small u i j l k =
              record {
                total = omega (arith, q.size_most, q.within);
                counted = omega (arith, q.count_most, q.within);
                opened_sets = omega (arith, q.sets_most, q.within);
                inner = omega (arith, most.size, value_long, step.inside);
                more = omega (arith, most.count, value_long, step.inside);
                more_sets = omega (arith, most.sets, value_long, step.inside);
              }

          framed_most : framed v.size ≤ 25 + v.size
          unfolding framed
          framed_most = omega (arith, written_most Ber v.size)

          walking_more : length y ≡ length x → Walking deeper tags kd s first d y m.end (place + 1) (size + framed v.size) (count + (1 + v.count)) (sets + v.sets)
          walking_more l =
              record {
                within = step.inside;
                few = omega (arith, few_left place q.few n);
                size_most = omega (arith, most.size, value_long, step.after, step.ends, q.size_most, framed_most);
                count_most = omega (arith, most.count, value_long, step.after, step.ends, q.count_most);
                sets_most = omega (arith, most.sets, value_long, step.after, step.ends, q.sets_most);
                long = l ∙ q.long;
                rest =
                    q.rest ∙ ap (λ (a : Answer Tree). added size count sets (walked a)) grown
                    ∙ ap (added size count sets)
                    (grow_walked place step.item (inside_of deeper tags m.key (take (m.end - m.from) (drop m.from s))) (tree_at deeper tags kd s m.end (place + 1)) v
                    (rw step.key step.sixteen)
                    (rw step.value (sym w.answer ∙ g)))
                    ∙ added_more size count sets (framed v.size) (1 + v.count) v.sets (walked (tree_at deeper tags kd s m.end (place + 1)));
                notes = λ u. noted_on u;
              }
            where
              noted_on : reads (set_tree deeper tags kd s) ≡ true
                  → noted y (first + (sets + v.sets)) (sizes_of (tree_at deeper tags kd s m.end (place + 1))) ≡ noted d first (sizes_of (set_tree deeper tags kd s))
              noted_on u =
                  let a : reads (grow place step.item (inside_of deeper tags m.key (take (m.end - m.from) (drop m.from s))) (tree_at deeper tags kd s m.end (place + 1))) ≡ true =
                  rw grown at (rest_reads (set_tree deeper tags kd s) (tree_at deeper tags kd s at place) size count sets q.rest u) in
                  let p = grow_reads place step.item (inside_of deeper tags m.key (take (m.end - m.from) (drop m.from s))) (tree_at deeper tags kd s m.end (place + 1)) a in
                  let c : sizes_of (tree_at deeper tags kd s at place) ≡ inside_sizes (inside_of deeper tags m.key (take (m.end - m.from) (drop m.from s))) ++ sizes_of (tree_at deeper tags kd s m.end (place + 1)) =
                  ap sizes_of grown ∙ grow_sizes place step.item (inside_of deeper tags m.key (take (m.end - m.from) (drop m.from s))) (tree_at deeper tags kd s m.end (place + 1)) a in
                  let k : length (inside_sizes (inside_of deeper tags m.key (take (m.end - m.from) (drop m.from s)))) ≡ v.sets =
                  sizes_told place (length (take (m.end - m.from) (drop m.from s))) v (inside_of deeper tags m.key (take (m.end - m.from) (drop m.from s))) (sym w.answer ∙ g) in
                  let i : first + sets + length (inside_sizes (inside_of deeper tags m.key (take (m.end - m.from) (drop m.from s)))) ≡ first + (sets + v.sets) = omega arith in
                  ap (λ (b : List ℕ). noted b (first + (sets + v.sets)) (sizes_of (tree_at deeper tags kd s m.end (place + 1)))) (w.sizes p.0)
                  ∙ ap (λ (v : ℕ). noted (noted x (first + sets) (inside_sizes (inside_of deeper tags m.key (take (m.end - m.from) (drop m.from s))))) v (sizes_of (tree_at deeper tags kd s m.end (place + 1)))) (sym i)
                  ∙ sym (noted_parts x (first + sets) (inside_sizes (inside_of deeper tags m.key (take (m.end - m.from) (drop m.from s)))) (sizes_of (tree_at deeper tags kd s m.end (place + 1))))
                  ∙ ap (noted x (first + sets)) (sym c)
                  ∙ q.notes u

          pub walking_again : (u t : Walked) → u.size ≡ size → u.count ≡ count → u.sets ≡ sets → t ≡ total_plus u v → length y ≡ length x
              → Walking deeper tags kd s first d y m.end (place + 1) t.size t.count t.sets
          walking_again u t i j k z l =
              let a : t ≡ record { size = size + framed v.size; count = count + (1 + v.count); sets = sets + v.sets } = rw (← i, ← j, ← k) z in
              rw a (walking_more l)
