-- The loop that writes the items of a set: what holds before each item, and each fact in the shape of its need.
use mathlib.Core.Path.{◌≡◌, refl, sym, ap, ◌∙◌, subst}
use mathlib.Core.Bool.{true, false≢true}
use mathlib.Core.List.{List, [], ◌++◌}
use Prim.Native.Nat.{ℕ, zero, suc, ◌+◌, ◌-◌, ◌<◌, ◌≤◌}
use native.Mathlib.Omega.{arith}
use native.Mathlib.Decide.{dec_le}
use Rattle.std.specs.Prelude.{Result, Ok, Err}
use lib.ListN.{length, take, drop, length-append, length-drop}
use lib.Seq.{length-take-le}
use Rattle.klv.specs.Bytes.{pasted}
use Rattle.klv.proofs.Paste.{pasted_none, length_pasted, pasted_pasted}
use Rattle.groups.specs.declared.kind.Kind.{Kind}
use Rattle.groups.specs.declared.refusal.Refusal.{Refusal}
use Rattle.groups.specs.Tables.{table_of}
use Rattle.groups.specs.Read.{under, set_under}
use Rattle.deep.specs.declared.set.Member.{Member}
use Rattle.deep.specs.declared.write.Spot.{Spot}
use Rattle.deep.specs.Tree.{Answer, ok, opens, Tree, end, Inside, closed, opened, too_deep, unread, grow, inside_of}
use Rattle.deep.specs.Walk.{set_tree, MemberOf, Noted, sizes_of, reads, inside_sizes, inside_reads, bytes_of, item_bytes, PutSets}
use Rattle.deep.proofs.TreeLaws.{inside_none, inside_opened}
use Rattle.deep.proofs.SetItems.{under_kind}
use Rattle.deep.proofs.TreeBounds.{tree_count, sets_few}
use Rattle.deep.proofs.GrowLaws.{grow_reads, grow_bytes, grow_sizes, bytes_none, sizes_none}
use Rattle.deep.proofs.StepLaws.{Stepped, stepped, tree_at, tree_step, tree_stops, tree_full, tree_done, member_refused, set_no_pack}
use Rattle.deep.proofs.PutFacts.{noted_front, noted_back}

-- ---- how many nested sets

inside_few_by : (deeper : ℕ) (tags k v : List ℕ) (i : Inside) → inside_of deeper tags k v ≡ i → length (inside_sizes i) ≤ 1 + length v
inside_few_by deeper tags k v closed e = omega arith
inside_few_by zero tags k v (opened t) e = inside_none tags k v t e
inside_few_by (suc deeper) tags k v (opened t) e =
    let p = inside_opened deeper tags k v t e in
    omega (arith, sets_few t, tree_count deeper tags (under k tags []) 256 0 v t (rw (under_kind k tags []) p.0) p.1)
inside_few_by deeper tags k v too_deep e = omega arith
inside_few_by deeper tags k v unread e = omega arith

-- an item holds at most one nested set more than its value has bytes
inside_few : (deeper : ℕ) (tags k v : List ℕ) → length (inside_sizes (inside_of deeper tags k v)) ≤ 1 + length v
inside_few deeper tags k v = inside_few_by deeper tags k v (inside_of deeper tags k v) refl

-- ---- before each item

-- the bytes from one position to another
abbrev pub part : List ℕ → ℕ → ℕ → List ℕ
part s from stop = take (stop - from) (drop from s)

pub record Putting (tags : List ℕ) (kind : Kind) (s : List ℕ) (deeper : ℕ) (sizes : List ℕ) (first : ℕ) (out₀ : List ℕ) (to : ℕ) (out : List ℕ) (next : Spot) (at : ℕ) : Type 0 where
  pub place : ℕ
  pub within : at ≤ length s
  pub few : place ≤ 256
  pub rest_reads : reads (tree_at deeper tags kind s at place) ≡ true
  pub notes : Noted sizes next.set (sizes_of (tree_at deeper tags kind s at place))
  pub sets : next.set + length (sizes_of (tree_at deeper tags kind s at place)) ≡ first + length (sizes_of (set_tree deeper tags kind s))
  pub sets_most : next.set ≤ first + at
  pub size : length out ≡ length out₀
  pub last : next.at + length (bytes_of (tree_at deeper tags kind s at place)) ≡ to + length (bytes_of (set_tree deeper tags kind s))
  pub bytes : pasted out next.at (bytes_of (tree_at deeper tags kind s at place)) ≡ pasted out₀ to (bytes_of (set_tree deeper tags kind s))

pub putting_start : (tags : List ℕ) (kind : Kind) (s : List ℕ) (deeper : ℕ) (sizes : List ℕ) (first : ℕ) (out : List ℕ) (to : ℕ)
    → reads (set_tree deeper tags kind s) ≡ true → Noted sizes first (sizes_of (set_tree deeper tags kind s))
    → Putting tags kind s deeper sizes first out to out (record { at = to; set = first }) 0
putting_start tags kind s deeper sizes first out to r n =
    record {
      place = 0;
      within = omega arith;
      few = omega arith;
      rest_reads = r;
      notes = n;
      sets = refl;
      sets_most = omega arith;
      size = refl;
      last = refl;
      bytes = refl;
    }

-- ---- one item

module _ (tags : List ℕ) (kind : Kind) (s : List ℕ) (deeper : ℕ) (sizes : List ℕ) (first : ℕ) (out₀ : List ℕ) (to : ℕ) (out : List ℕ) (next : Spot) (at : ℕ)
    (w : Putting tags kind s deeper sizes first out₀ to out next at) (o : opens kind ≡ true) (l : at < length s) where
  -- one more item may follow
  less : w.place < 256
  less =
      elim (dec_le 256 w.place) [
        | yes h ↦
            let z : w.place ≡ 256 = omega (arith, w.few) in
            absurd (false≢true (sym (ap reads (tree_full (inside_of deeper tags) (set_under kind (table_of tags)) s at w.place l z)) ∙ w.rest_reads))
        | no h ↦ omega arith
      ]

  pub putting_refused : (got : Result Member Refusal) (why : Refusal) → MemberOf (set_under kind (table_of tags)) s at got → got ≡ Err why
      → PutSets out₀ to (bytes_of (set_tree deeper tags kind s)) out first (length (sizes_of (set_tree deeper tags kind s))) next
  putting_refused got why b e =
      let p = member_refused (set_under kind (table_of tags)) s at w.place why got b e in
      absurd (false≢true (sym (ap reads (tree_stops (inside_of deeper tags) (set_under kind (table_of tags)) s at w.place why p.0 p.1 l less)) ∙ w.rest_reads))

  module _ (got : Result Member Refusal) (b : MemberOf (set_under kind (table_of tags)) s at got) (m : Member) (e : got ≡ Ok m) where
    item : Stepped (set_under kind (table_of tags)) s at w.place m.from m.end m.width m.key
    item = stepped kind tags s at w.place got m b e o w.within

    ordered : m.from ≤ m.end
    ordered = omega (arith, item.ends)

    value_length : length (part s m.from m.end) ≡ m.end - m.from
    value_length = length-take-le (m.end - m.from) (drop m.from s) (simp length-drop (omega (arith, item.inside, item.ends)))

    abbrev look : Inside
    look = inside_of deeper tags m.key (part s m.from m.end)

    abbrev after : Answer Tree
    after = tree_at deeper tags kind s m.end (w.place + 1)

    grown : tree_at deeper tags kind s at w.place ≡ grow w.place item.item look after
    grown = tree_step (inside_of deeper tags) (set_under kind (table_of tags)) s at w.place m.from m.end m.width m.key item l less

    grown_reads : reads (grow w.place item.item look after) ≡ true
    grown_reads = sym (ap reads grown) ∙ w.rest_reads

    grown_bytes : bytes_of (tree_at deeper tags kind s at w.place)
        ≡ item_bytes m.key (part s m.from m.end) look ++ bytes_of after
    grown_bytes =
        ap bytes_of grown ∙ grow_bytes w.place item.item look after grown_reads
        ∙ ap (λ (k : List ℕ). item_bytes k item.item.value look ++ bytes_of after) item.key
        ∙ ap (λ (v : List ℕ). item_bytes m.key v look ++ bytes_of after) item.value

    grown_sizes : sizes_of (tree_at deeper tags kind s at w.place) ≡ inside_sizes look ++ sizes_of after
    grown_sizes = ap sizes_of grown ∙ grow_sizes w.place item.item look after grown_reads

    bytes_length : length (bytes_of (tree_at deeper tags kind s at w.place))
        ≡ length (item_bytes m.key (part s m.from m.end) look) + length (bytes_of after)
    bytes_length = ap length grown_bytes ∙ length-append (item_bytes m.key (part s m.from m.end) look) (bytes_of after)

    pub putting_ordered : m.from ≤ m.end
    putting_ordered = ordered

    pub putting_inside : m.end ≤ length s
    putting_inside = item.inside

    pub putting_less : length s - m.end < length s - at
    putting_less = omega (arith, item.after, item.inside, ordered)

    pub putting_sum : first + length s ≤ 65536 → next.set + (1 + length (part s m.from m.end)) ≤ 65536
    putting_sum h = omega (arith, value_length, item.after, item.inside, ordered, w.sets_most)

    pub putting_reads : inside_reads (inside_of deeper tags m.key (part s m.from m.end)) ≡ true
    putting_reads = (grow_reads w.place item.item look after grown_reads).0

    pub putting_noted : Noted sizes next.set (inside_sizes (inside_of deeper tags m.key (part s m.from m.end)))
    putting_noted = noted_front sizes next.set (inside_sizes look) (sizes_of after) (subst (Noted sizes next.set) grown_sizes w.notes)

    module _ (room : to + length (bytes_of (set_tree deeper tags kind s)) ≤ length out₀) where
      pub putting_room : next.at + length (item_bytes m.key (part s m.from m.end) (inside_of deeper tags m.key (part s m.from m.end))) ≤ length out
      putting_room = omega (arith, w.last, w.size, bytes_length)

      pub putting_again : (x : List ℕ) (r : Spot)
          → PutSets out next.at (item_bytes m.key (part s m.from m.end) (inside_of deeper tags m.key (part s m.from m.end))) x next.set (length (inside_sizes (inside_of deeper tags m.key (part s m.from m.end)))) r
          → Putting tags kind s deeper sizes first out₀ to x r m.end
      putting_again x r q =
          let g : length (inside_sizes look ++ sizes_of after) ≡ length (inside_sizes look) + length (sizes_of after) = length-append (inside_sizes look) (sizes_of after) in
          let z : x ≡ pasted out next.at (item_bytes m.key (part s m.from m.end) look) = q.put.bytes in
          let y : r.at ≡ next.at + length (item_bytes m.key (part s m.from m.end) look) = q.put.end in
          record {
            place = w.place + 1;
            within = item.inside;
            few = omega (arith, less);
            rest_reads = (grow_reads w.place item.item look after grown_reads).1;
            notes = rw q.sets (noted_back sizes next.set (inside_sizes look) (sizes_of after) (subst (Noted sizes next.set) grown_sizes w.notes));
            sets = omega (arith, q.sets, w.sets, ap length grown_sizes, g);
            sets_most = omega (arith, q.sets, w.sets_most, inside_few deeper tags m.key (part s m.from m.end), value_length, item.after, ordered);
            size = ap length z ∙ length_pasted out next.at (item_bytes m.key (part s m.from m.end) look) putting_room ∙ w.size;
            last = omega (arith, q.put.end, w.last, bytes_length);
            bytes =
                ap (λ (n : ℕ). pasted x n (bytes_of after)) y
                ∙ ap (λ (d : List ℕ). pasted d (next.at + length (item_bytes m.key (part s m.from m.end) look)) (bytes_of after)) z
                ∙ pasted_pasted out next.at (item_bytes m.key (part s m.from m.end) look) (bytes_of after) putting_room
                ∙ ap (pasted out next.at) (sym grown_bytes)
                ∙ w.bytes;
          }

-- ---- the end

module _ (tags : List ℕ) (kind : Kind) (s : List ℕ) (deeper : ℕ) (sizes : List ℕ) (first : ℕ) (out₀ : List ℕ) (to : ℕ) (out : List ℕ) (next : Spot) (at : ℕ)
    (w : Putting tags kind s deeper sizes first out₀ to out next at) where
  pub putting_size : length out ≡ length out₀
  putting_size = w.size

  pub putting_end : opens kind ≡ true → length s ≤ at → PutSets out₀ to (bytes_of (set_tree deeper tags kind s)) out first (length (sizes_of (set_tree deeper tags kind s))) next
  putting_end o h =
      let d : tree_at deeper tags kind s at w.place ≡ ok end =
      tree_done (inside_of deeper tags) (set_under kind (table_of tags)) s at w.place (set_no_pack kind o) h in
      let b : bytes_of (tree_at deeper tags kind s at w.place) ≡ [] = ap bytes_of d ∙ bytes_none in
      let n : sizes_of (tree_at deeper tags kind s at w.place) ≡ [] = ap sizes_of d ∙ sizes_none in
      record {
        put = record {
          end = omega (arith, w.last, ap length b);
          bytes = sym (pasted_none out next.at) ∙ ap (pasted out next.at) (sym b) ∙ w.bytes;
        };
        sets = omega (arith, w.sets, ap length n);
      }
