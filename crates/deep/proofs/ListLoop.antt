-- The loop that lists the items of a set, with how many of them had a longer BER form than needed.
use mathlib.Core.Path.{◌≡◌, refl, sym, ap, ◌∙◌}
use mathlib.Core.Bool.{Bool, true, false≢true}
use mathlib.Core.List.{List, [], ◌∷◌, ◌++◌}
use Prim.Native.Nat.{ℕ, suc, ◌+◌, ◌-◌, ◌*◌, ◌<◌, ◌≤◌}
use native.Mathlib.Omega.{arith}
use native.Mathlib.Decide.{dec_le}
use Rattle.std.specs.Prelude.{Result, Ok, Err}
use native.Mathlib.Nat.{add-zero}
use mir.Val.{Fits}
use mir.Syntax.{w64}
use lib.ListN.{length, take, drop, length-append, length-drop}
use lib.Seq.{length-take-le}
use Rattle.klv.specs.Ber.{longer}
use Rattle.klv.specs.Bytes.{pasted}
use Rattle.klv.specs.Pick.{pick, both}
use Rattle.klv.proofs.Paste.{pasted_none, pasted_pasted}
use Rattle.groups.specs.declared.kind.Kind.{Kind}
use Rattle.groups.specs.declared.refusal.Refusal.{Refusal}
use Rattle.groups.specs.Span.{ber_lengths}
use Rattle.groups.specs.Tables.{table_of}
use Rattle.groups.specs.Read.{set_under, size}
use Rattle.groups.specs.declared.listing.Listed.{Listed}
use Rattle.deep.specs.declared.set.Member.{Member}
use Rattle.deep.specs.Tree.{Answer, ok, opens, Tree, end, Inside, grow, inside_of}
use Rattle.deep.specs.Walk.{set_tree, MemberOf, reads, count_in, keys_in_tree, numbers_in, longer_in, inside_reads, inside_count, inside_keys, inside_numbers, inside_longer, tallied_one, ListedAt, Tallied, Room}
use Rattle.deep.proofs.StepLaws.{Stepped, stepped, tree_at, tree_step, tree_stops, tree_full, tree_done, member_refused, set_no_pack}
use Rattle.deep.proofs.GrowLaws.{grow_reads, grow_count, grow_keys, grow_numbers, count_none, keys_none, numbers_none}
use Rattle.deep.proofs.ListLaws.{inside_keys_law, inside_numbers_law, listed_keys_size, listed_numbers_size}
use Rattle.deep.proofs.TallyLaws.{grow_longer, longer_end, tallied_few, tallied_items, tallied_longer, tallied_within}

-- What is listed so far, and what is still to come at an offset, make up the listing of the whole set.
pub record Listing (tags : List ℕ) (kind : Kind) (s : List ℕ) (base deeper : ℕ) (keys₀ numbers₀ : List ℕ) (n : Listed) (keys numbers : List ℕ) (next : Listed) (at : ℕ) : Type 0 where
  pub place : ℕ
  pub within : at ≤ length s
  pub few : place ≤ 256
  pub rest_reads : reads (tree_at deeper tags kind s at place) ≡ true
  pub ends : next.count + count_in (tree_at deeper tags kind s at place) ≡ n.count + count_in (set_tree deeper tags kind s)
  pub longer_forms : next.longer + longer_in kind (tree_at deeper tags kind s at place) ≡ n.longer + longer_in kind (set_tree deeper tags kind s)
  pub few_longer : next.longer ≤ next.count
  pub key_size : length keys ≡ length keys₀
  pub number_size : length numbers ≡ length numbers₀
  pub key_bytes : pasted keys (16 * next.count) (keys_in_tree (tree_at deeper tags kind s at place)) ≡ pasted keys₀ (16 * n.count) (keys_in_tree (set_tree deeper tags kind s))
  pub triples : pasted numbers (3 * next.count) (numbers_in (base + at) (4 - deeper) (tree_at deeper tags kind s at place)) ≡ pasted numbers₀ (3 * n.count) (numbers_in base (4 - deeper) (set_tree deeper tags kind s))

pub listing_start : (tags : List ℕ) (kind : Kind) (s : List ℕ) (base deeper : ℕ) (keys numbers : List ℕ) (n : Listed) → reads (set_tree deeper tags kind s) ≡ true → n.longer ≤ n.count
    → Listing tags kind s base deeper keys numbers n keys numbers n 0
listing_start tags kind s base deeper keys numbers n r l =
    record {
      place = 0;
      within = omega arith;
      few = omega arith;
      rest_reads = r;
      ends = refl;
      longer_forms = refl;
      few_longer = l;
      key_size = refl;
      number_size = refl;
      key_bytes = refl;
      triples = rw (add-zero base) refl;
    }

-- ---- the item at an offset

module _ (tags : List ℕ) (kind : Kind) (s : List ℕ) (base deeper : ℕ) (keys₀ numbers₀ : List ℕ) (n : Listed) (keys numbers : List ℕ) (next : Listed) (at : ℕ)
    (h : Listing tags kind s base deeper keys₀ numbers₀ n keys numbers next at) (more : at < length s) where
  place_left : h.place < 256
  place_left =
      elim (dec_le 256 h.place) [
        | yes p ↦ absurd (false≢true (sym (ap reads (tree_full (inside_of deeper tags) (set_under kind (table_of tags)) s at h.place more (omega (arith, h.few)))) ∙ h.rest_reads))
        | no p ↦ omega arith
      ]

  -- there is one
  stops_not : {P : Type 0} (got : Result Member Refusal) (r : Refusal) → MemberOf (set_under kind (table_of tags)) s at got → got ≡ Err r → P
  stops_not got r b e =
      let f = member_refused (set_under kind (table_of tags)) s at h.place r got b e in
      absurd (false≢true (sym (ap reads (tree_stops (inside_of deeper tags) (set_under kind (table_of tags)) s at h.place r f.0 f.1 more place_left)) ∙ h.rest_reads))

  module _ (got : Result Member Refusal) (b : MemberOf (set_under kind (table_of tags)) s at got) (m : Member) (e : got ≡ Ok m) (o : opens kind ≡ true) where
    step : Stepped (set_under kind (table_of tags)) s at h.place m.from m.end m.width m.key
    step = stepped kind tags s at h.place got m b e o h.within

    abbrev inner : Inside
    inner = inside_of deeper tags m.key (take (m.end - m.from) (drop m.from s))

    abbrev after : Answer Tree
    after = tree_at deeper tags kind s m.end (h.place + 1)

    grown : tree_at deeper tags kind s at h.place ≡ grow h.place step.item inner after
    grown = tree_step (inside_of deeper tags) (set_under kind (table_of tags)) s at h.place m.from m.end m.width m.key step more place_left

    grown_reads : reads (grow h.place step.item inner after) ≡ true
    grown_reads = sym (ap reads grown) ∙ h.rest_reads

    -- its own form, those inside it, and those after it
    sent : longer_in kind (tree_at deeper tags kind s at h.place) ≡ pick (both (ber_lengths kind) (longer (m.end - m.from) m.width)) 1 0 + inside_longer m.key inner + longer_in kind after
    sent =
        let w : step.item.width ≡ m.width = step.wide in
        let v : length step.item.value ≡ m.end - m.from = omega (arith, step.ends) in
        ap (longer_in kind) grown ∙ grow_longer kind h.place step.item inner after grown_reads ∙ rw (w, v, step.key)

    counted : count_in (tree_at deeper tags kind s at h.place) ≡ 1 + inside_count inner + count_in after
    counted = ap count_in grown ∙ grow_count h.place step.item inner after grown_reads

    pub listing_starts : m.from ≤ m.end
    listing_starts = omega (arith, step.ends)

    pub listing_inside : m.end ≤ length s
    listing_inside = step.inside

    value_length : length (take (m.end - m.from) (drop m.from s)) ≡ m.end - m.from
    value_length = length-take-le (m.end - m.from) (drop m.from s) (simp length-drop (omega (arith, step.ends, step.inside)))

    pub listing_value : base + length s ≤ 65536 → base + m.from + length (take (m.end - m.from) (drop m.from s)) ≤ 65536
    listing_value l = omega (arith, value_length, step.ends, step.inside)

    pub listing_offset : base + length s ≤ 65536 → Fits w64 (base + m.from)
    listing_offset l = omega (arith, step.ends, step.inside)

    pub listing_less : length s - m.end < length s - at
    listing_less = omega (arith, step.ends, step.inside, step.after)

    pub listing_item : inside_reads (inside_of deeper tags m.key (take (m.end - m.from) (drop m.from s))) ≡ true
    listing_item = (grow_reads h.place step.item inner after grown_reads).0

    pub listing_room : Room (count_in (set_tree deeper tags kind s)) n.count keys₀ numbers₀ → Room (1 + inside_count (inside_of deeper tags m.key (take (m.end - m.from) (drop m.from s)))) next.count keys numbers
    listing_room r =
        record {
          keys = omega (arith, r.keys, h.ends, h.key_size, counted);
          numbers = omega (arith, r.numbers, h.ends, h.number_size, counted);
        }

    keys_length : length (m.key ++ inside_keys inner) ≡ 16 * (1 + inside_count inner)
    keys_length = omega (arith, length-append m.key (inside_keys inner), step.sixteen, inside_keys_law deeper tags m.key (take (m.end - m.from) (drop m.from s)))

    listed_keys : keys_in_tree (tree_at deeper tags kind s at h.place) ≡ (m.key ++ inside_keys inner) ++ keys_in_tree after
    listed_keys = ap keys_in_tree grown ∙ grow_keys h.place step.item inner after grown_reads ∙ rw step.key

    listed_numbers : deeper ≤ 3 → numbers_in (base + at) (4 - deeper) (tree_at deeper tags kind s at h.place)
        ≡ ((base + m.from) ∷ length (take (m.end - m.from) (drop m.from s)) ∷ (4 - deeper) ∷ inside_numbers (base + m.from) (5 - deeper) inner) ++ numbers_in (base + m.end) (4 - deeper) after
    listed_numbers l =
        let a : base + at + step.item.label + step.item.width ≡ base + m.from = omega (arith, step.starts) in
        let v : length step.item.value ≡ length (take (m.end - m.from) (drop m.from s)) = ap length step.value in
        let d : suc (4 - deeper) ≡ 5 - deeper = omega arith in
        let z : base + at + size step.item ≡ base + m.end = omega (arith, step.starts, step.ends) in
        ap (numbers_in (base + at) (4 - deeper)) grown ∙ grow_numbers (base + at) (4 - deeper) h.place step.item inner after grown_reads ∙ (cc)

    pub listing_few : (x y : List ℕ) (r : Listed)
        → Tallied (1 + inside_count (inside_of deeper tags m.key (take (m.end - m.from) (drop m.from s)))) (inside_longer m.key (inside_of deeper tags m.key (take (m.end - m.from) (drop m.from s)))) next (m.key ++ inside_keys (inside_of deeper tags m.key (take (m.end - m.from) (drop m.from s)))) ((base + m.from) ∷ length (take (m.end - m.from) (drop m.from s)) ∷ (4 - deeper) ∷ inside_numbers (base + m.from) (5 - deeper) (inside_of deeper tags m.key (take (m.end - m.from) (drop m.from s)))) keys x numbers y r
        → r.longer < r.count
    listing_few x y r q = tallied_few m.key inner next r _ _ keys x numbers y q h.few_longer

    pub listing_again : (x y : List ℕ) (r z : Listed) (ber : Bool)
        → Tallied (1 + inside_count (inside_of deeper tags m.key (take (m.end - m.from) (drop m.from s)))) (inside_longer m.key (inside_of deeper tags m.key (take (m.end - m.from) (drop m.from s)))) next (m.key ++ inside_keys (inside_of deeper tags m.key (take (m.end - m.from) (drop m.from s)))) ((base + m.from) ∷ length (take (m.end - m.from) (drop m.from s)) ∷ (4 - deeper) ∷ inside_numbers (base + m.from) (5 - deeper) (inside_of deeper tags m.key (take (m.end - m.from) (drop m.from s)))) keys x numbers y r
        → z ≡ tallied_one r (both ber (longer (m.end - m.from) m.width)) → ber ≡ ber_lengths kind
        → Room (count_in (set_tree deeper tags kind s)) n.count keys₀ numbers₀ → deeper ≤ 3
        → Listing tags kind s base deeper keys₀ numbers₀ n x y z m.end
    listing_again x y r z ber t f g w l =
        let q : ListedAt (1 + inside_count inner) next.count (m.key ++ inside_keys inner) ((base + m.from) ∷ length (take (m.end - m.from) (drop m.from s)) ∷ (4 - deeper) ∷ inside_numbers (base + m.from) (5 - deeper) inner) keys x numbers y r.count = t.listed in
        let us : List ℕ = m.key ++ inside_keys inner in
        let ns : List ℕ = (base + m.from) ∷ length (take (m.end - m.from) (drop m.from s)) ∷ (4 - deeper) ∷ inside_numbers (base + m.from) (5 - deeper) inner in
        let room : Room (1 + inside_count inner) next.count keys numbers = listing_room w in
        let one : Bool = both (ber_lengths kind) (longer (m.end - m.from) m.width) in
        let zi : z.count ≡ r.count = ap (λ (a : Listed). a.count) f ∙ tallied_items r (both ber (longer (m.end - m.from) m.width)) in
        let zl : z.longer ≡ r.longer + pick (both (ber_lengths kind) (longer (m.end - m.from) m.width)) 1 0 = ap (λ (a : Listed). a.longer) f ∙ tallied_longer r (both ber (longer (m.end - m.from) m.width)) ∙ rw g in
        let zw : z.longer ≤ z.count = rw f (tallied_within r (both ber (longer (m.end - m.from) m.width)) (listing_few x y r t)) in
        let nl : length ((base + m.from) ∷ length (take (m.end - m.from) (drop m.from s)) ∷ (4 - deeper) ∷ inside_numbers (base + m.from) (5 - deeper) inner) ≡ 3 * (1 + inside_count inner) = omega (arith, inside_numbers_law (base + m.from) (5 - deeper) inner) in
        let e16 : 16 * z.count ≡ 16 * next.count + length (m.key ++ inside_keys inner) = omega (arith, q.end, keys_length) in
        let e3 : 3 * z.count ≡ 3 * next.count + length ((base + m.from) ∷ length (take (m.end - m.from) (drop m.from s)) ∷ (4 - deeper) ∷ inside_numbers (base + m.from) (5 - deeper) inner) = omega (arith, q.end, nl) in
        record {
          place = h.place + 1;
          within = step.inside;
          few = omega (arith, place_left);
          rest_reads = (grow_reads h.place step.item inner after grown_reads).1;
          ends = omega (arith, q.end, h.ends, counted);
          longer_forms = omega (arith, t.longer, h.longer_forms, sent);
          few_longer = zw;
          key_size = listed_keys_size (1 + inside_count inner) next.count us ns keys x numbers y r.count q room keys_length ∙ h.key_size;
          number_size = listed_numbers_size (1 + inside_count inner) next.count us ns keys x numbers y r.count q room nl ∙ h.number_size;
          key_bytes = rw (q.key_bytes, e16) (pasted_pasted keys (16 * next.count) us (keys_in_tree after) (omega (arith, room.keys, keys_length))) ∙ sym (ap (pasted keys (16 * next.count)) listed_keys) ∙ h.key_bytes;
          triples = rw (q.triples, e3) (pasted_pasted numbers (3 * next.count) ns (numbers_in (base + m.end) (4 - deeper) after) (omega (arith, room.numbers, nl))) ∙ sym (ap (pasted numbers (3 * next.count)) (listed_numbers l)) ∙ h.triples;
        }

  -- no item is refused
  pub listing_stops : (got : Result Member Refusal) (r : Refusal) → MemberOf (set_under kind (table_of tags)) s at got → got ≡ Err r
      → Tallied (count_in (set_tree deeper tags kind s)) (longer_in kind (set_tree deeper tags kind s)) n (keys_in_tree (set_tree deeper tags kind s)) (numbers_in base (4 - deeper) (set_tree deeper tags kind s)) keys₀ keys numbers₀ numbers next
  listing_stops got r b e = stops_not got r b e

-- ---- the end

pub listing_end : (tags : List ℕ) (kind : Kind) (s : List ℕ) (base deeper : ℕ) (keys₀ numbers₀ : List ℕ) (n : Listed) (keys numbers : List ℕ) (next : Listed) (at : ℕ)
    → Listing tags kind s base deeper keys₀ numbers₀ n keys numbers next at → length s ≤ at → opens kind ≡ true
    → Tallied (count_in (set_tree deeper tags kind s)) (longer_in kind (set_tree deeper tags kind s)) n (keys_in_tree (set_tree deeper tags kind s)) (numbers_in base (4 - deeper) (set_tree deeper tags kind s)) keys₀ keys numbers₀ numbers next
listing_end tags kind s base deeper keys₀ numbers₀ n keys numbers next at h l o =
    let d : tree_at deeper tags kind s at h.place ≡ ok end = tree_done (inside_of deeper tags) (set_under kind (table_of tags)) s at h.place (set_no_pack kind o) l in
    let m : longer_in kind (tree_at deeper tags kind s at h.place) ≡ 0 = ap (longer_in kind) d ∙ longer_end kind in
    let c : count_in (tree_at deeper tags kind s at h.place) ≡ 0 = ap count_in d ∙ count_none in
    let ks : keys_in_tree (tree_at deeper tags kind s at h.place) ≡ [] = ap keys_in_tree d ∙ keys_none in
    let ns : numbers_in (base + at) (4 - deeper) (tree_at deeper tags kind s at h.place) ≡ [] = ap (numbers_in (base + at) (4 - deeper)) d ∙ numbers_none (base + at) (4 - deeper) in
    record {
      listed = record {
        end = omega (arith, h.ends, c);
        key_bytes = sym (pasted_none keys (16 * next.count)) ∙ sym (ap (pasted keys (16 * next.count)) ks) ∙ h.key_bytes;
        triples = sym (pasted_none numbers (3 * next.count)) ∙ sym (ap (pasted numbers (3 * next.count)) ns) ∙ h.triples;
      };
      longer = omega (arith, h.longer_forms, m);
    }

-- no more longer forms than items
pub listing_longer : (tags : List ℕ) (kind : Kind) (s : List ℕ) (base deeper : ℕ) (keys₀ numbers₀ : List ℕ) (n : Listed) (keys numbers : List ℕ) (next : Listed) (at : ℕ)
    → Listing tags kind s base deeper keys₀ numbers₀ n keys numbers next at → next.longer ≤ next.count
listing_longer tags kind s base deeper keys₀ numbers₀ n keys numbers next at h = h.few_longer

pub listing_keys_size : (tags : List ℕ) (kind : Kind) (s : List ℕ) (base deeper : ℕ) (keys₀ numbers₀ : List ℕ) (n : Listed) (keys numbers : List ℕ) (next : Listed) (at : ℕ)
    → Listing tags kind s base deeper keys₀ numbers₀ n keys numbers next at → length keys ≡ length keys₀
listing_keys_size tags kind s base deeper keys₀ numbers₀ n keys numbers next at h = h.key_size

pub listing_numbers_size : (tags : List ℕ) (kind : Kind) (s : List ℕ) (base deeper : ℕ) (keys₀ numbers₀ : List ℕ) (n : Listed) (keys numbers : List ℕ) (next : Listed) (at : ℕ)
    → Listing tags kind s base deeper keys₀ numbers₀ n keys numbers next at → length numbers ≡ length numbers₀
listing_numbers_size tags kind s base deeper keys₀ numbers₀ n keys numbers next at h = h.number_size
