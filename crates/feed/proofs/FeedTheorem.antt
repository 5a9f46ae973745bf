-- What 02's point 4 says of every feed.
use mathlib.Core.Path.{◌≡◌, refl, sym, ap, ◌∙◌}
use mathlib.Core.Bool.{true, false, not, false≢true}
use mathlib.Core.List.{List, [], ◌∷◌}
use Prim.Native.Nat.{ℕ, ◌+◌}
use native.Mathlib.Omega.{arith}
use lib.Dec.{leb}
use lib.ListN.{length, take}
use borrow.Author.Tests.{not-true, leb-true, leb-false, le-leb, lt-leb}
use Rattle.klv.proofs.Cases.{test_cases, both_true}
use Rattle.klv.proofs.BytesLaws.{same_refl, same_true}
use Rattle.groups.specs.Refusal as plain
use Rattle.groups.specs.Kind.{kind_of, is_group}
use Rattle.groups.specs.Tables.{tag_table_ok, pack_table_ok}
use Rattle.groups.specs.Read.{items}
use Rattle.groups.specs.Regroup.{regroup_of, room_for, target_ok}
use Rattle.groups.proofs.regroup.Accepted.{Accepted, accepted_told, reads_of}
use Rattle.groups.proofs.regroup.OutputReads.{output_reads, output_key}
use Rattle.groups.proofs.regroup.RoomLaws.{regroup_room}
use Rattle.feed.specs.declared.fault.Fault.{Fault}
use Rattle.feed.specs.Triplets.{Split, whole, broken, triplets, joined}
use Rattle.feed.specs.Feed.{Setting, has_source, plainly, accepts, or_same, is_regrouped, is_refused, is_other, image, images, those, Answer, ok, refused, fitting, feed_of}
use Rattle.feed.specs.FeedText.{AllTriplets, GoesRegrouped, GoesRefused, TripletGoes, Good, Accepts, Refuses, tag_table, pack_table, target_key, source_key, too_long, no_triplet, short_slice, FeedHolds}
use Rattle.feed.proofs.SplitBack.{split_whole, split_first, whole_tells, broken_tells}
use Rattle.feed.proofs.TallyLaws.{image_other, image_own, count_more, count_none, one_each}

-- ---- one triplet

module _ (s : Setting) (t : List ℕ) where
  -- the plain call with any slice
  any_room : (a : plain.Answer (List ℕ)) → plainly s t ≡ a → (room : ℕ) → regroup_of s.tags s.packs s.target t room ≡ plain.and_then a (room_for room)
  any_room a e room = regroup_room s.tags s.packs s.target t room ∙ ap (λ (x : plain.Answer (List ℕ)). plain.and_then x (room_for room)) e

  regrouped_by : has_source s t ≡ true → (a : plain.Answer (List ℕ)) → plainly s t ≡ a → accepts a ≡ true → GoesRegrouped s t (image s t)
  regrouped_by h (plain.ok w) e f =
      let i : image s t ≡ w = image_own s t h ∙ ap (or_same t) e in
      let a : Accepted s.tags s.packs s.target t 65536 w = accepted_told s.tags s.packs s.target t 65536 w e in
      rw i
      (record {
        source = same_true (take 16 t) s.source h;
        written = λ room l. any_room (plain.ok w) e room ∙ rw (le-leb (length w) room l);
        target = output_key s.tags s.packs s.target t 65536 w e;
        items = items a.entries;
        came_in = reads_of s.tags s.packs t a.entries a.reads;
        went_out = output_reads s.tags s.packs s.target t 65536 w e ∙ reads_of s.tags s.packs t a.entries a.reads;
      })
  regrouped_by h (plain.refused r p) e f = absurd (false≢true f)

  refused_by : has_source s t ≡ true → (a : plain.Answer (List ℕ)) → plainly s t ≡ a → accepts a ≡ false → GoesRefused s t (image s t)
  refused_by h (plain.ok w) e f = absurd (false≢true (sym f))
  refused_by h (plain.refused r p) e f =
      record {
        source = same_true (take 16 t) s.source h;
        why = r;
        place = p;
        refuses = λ room. any_room (plain.refused r p) e room;
        unaltered = image_own s t h ∙ ap (or_same t) e;
      }

  pub triplet_goes : TripletGoes s t
  triplet_goes =
      record {
        regrouped = λ e. (let b = both_true (has_source s t) (accepts (plainly s t)) e in regrouped_by b.0 (plainly s t) refl b.1);
        refused = λ e. (let b = both_true (has_source s t) (not (accepts (plainly s t))) e in refused_by b.0 (plainly s t) refl (not-true (accepts (plainly s t)) b.1));
        other = λ e.
            (let h : has_source s t ≡ false = not-true (has_source s t) e in
            record { not_source = λ q. false≢true (sym h ∙ (rw q (same_refl s.source))); unaltered = image_other s t h });
      }

-- ---- the counts

pub counts_add : (s : Setting) (ts : List (List ℕ)) → length (those (is_regrouped s) ts) + length (those (is_refused s) ts) + length (those (is_other s) ts) ≡ length ts
counts_add s [] = rw (count_none (is_regrouped s), count_none (is_refused s), count_none (is_other s))
counts_add s (t ∷ ts) =
    omega (arith, count_more (is_regrouped s) t ts, count_more (is_refused s) t ts, count_more (is_other s) t ts, one_each s t, counts_add s ts)

-- ---- accepted and refused

module _ (s : Setting) (feed : List ℕ) (room : ℕ) where
  good_told : (a : Answer) (x : Split) → triplets feed ≡ x → Good s feed → fitting s room x ≡ a → feed_of s feed room ≡ a
  unfolding feed_of
  good_told a x e g f = rw (g.tags_ok, g.packs_ok, g.target_is_ok, g.source_ok, le-leb (length feed) 1048576 g.most, e) f

  -- what an answer tells
  abbrev Tells : Answer → Type 0
  Tells (ok ts) = Accepts s feed room ts
  Tells (refused f p) = Refuses s feed room f p

  split_tells : Good s feed → (x : Split) → triplets feed ≡ x → Tells (fitting s room x)
  split_tells g (whole ts) e =
      let w : AllTriplets ts × (joined ts ≡ feed) = whole_tells feed ts e in
      test_cases (leb (length (images s ts)) room)
      (λ t. rw t (record { good = g; all = w.0; feed_is = w.1; fits = leb-true (length (images s ts)) room t }))
      (λ t. rw t (short_slice refl refl g ts w.0 w.1 (leb-false (length (images s ts)) room t)))
  split_tells g (broken i) e = no_triplet refl g (broken_tells feed i e)

  tells : Tells (feed_of s feed room)
  unfolding feed_of
  tells =
      test_cases (tag_table_ok s.tags)
      (λ a. test_cases (pack_table_ok s.packs)
      (λ b. test_cases (target_ok s.target)
      (λ c. test_cases (is_group (kind_of s.source))
      (λ d. test_cases (leb (length feed) 1048576)
      (λ e.
      rw (a, b, c, d, e)
      (split_tells (record { tags_ok = a; packs_ok = b; target_is_ok = c; source_ok = d; most = leb-true (length feed) 1048576 e }) (triplets feed) refl))
      (λ e. rw (a, b, c, d, e) (too_long refl refl a b c d (leb-false (length feed) 1048576 e))))
      (λ d. rw (a, b, c, d) (source_key refl refl a b c d)))
      (λ c. rw (a, b, c) (target_key refl refl a b c)))
      (λ b. rw (a, b) (pack_table refl refl a b)))
      (λ a. rw a (tag_table refl refl a))

  accepted_of : (ts : List (List ℕ)) → Accepts s feed room ts → feed_of s feed room ≡ ok ts
  accepted_of ts a =
      good_told (ok ts) (whole ts) (split_whole feed ts a.all a.feed_is) a.good (rw (le-leb (length (images s ts)) room a.fits))

  refused_of : (f : Fault) (p : ℕ) → Refuses s feed room f p → feed_of s feed room ≡ refused f p
  unfolding feed_of
  refused_of f p (tag_table e z a) = rw (a, e, z)
  refused_of f p (pack_table e z a b) = rw (a, b, e, z)
  refused_of f p (target_key e z a b c) = rw (a, b, c, e, z)
  refused_of f p (source_key e z a b c d) = rw (a, b, c, d, e, z)
  refused_of f p (too_long e z a b c d l) = rw (a, b, c, d, lt-leb (length feed) 1048576 l, e, z)
  refused_of f p (no_triplet e g n) = good_told (refused f p) (broken p) (split_first feed p n) g (rw e)
  refused_of f p (short_slice e z g ts a j l) =
      good_told (refused f p) (whole ts) (split_whole feed ts a j) g (rw (lt-leb (length (images s ts)) room l, e, z))

  pub feed_holds : FeedHolds s feed room
  feed_holds =
      record {
        accepted = λ ts. (λ e. rw e at tells, accepted_of ts);
        refuses = λ f p. (λ e. rw e at tells, refused_of f p);
        counts = counts_add s;
        each = triplet_goes s;
      }
