-- The bytes kept in a chain, call by call: what they read as, and what made them. A call is known by its contract alone.
use mathlib.Core.Path.{◌≡◌, refl, ap, ◌∙◌}
use mathlib.Core.Bool.{true}
use mathlib.Core.List.{List, [], ◌∷◌}
use mathlib.Core.Option.{Option, none, some}
use Prim.Native.Nat.{ℕ, ◌+◌, ◌≤◌}
use lib.ListN.{length, take, drop}
use lib.Seq.{take_at}
use Rattle.std.specs.Prelude.{Result, Ok, Err}
use Rattle.klv.specs.Bytes.{pasted}
use Rattle.klv.proofs.Cases.{absurd_number}
use Rattle.klv.proofs.Paste.{pasted_is}
use Rattle.groups.specs.declared.refusal.Refusal.{Refusal}
use Rattle.groups.specs.declared.refusal.Refused.{Refused}
use Rattle.groups.specs.Refusal.{Answer, ok, refused}
use Rattle.groups.specs.Tables.{tag_table_ok, pack_table_ok}
use Rattle.groups.specs.Read.{Item, items, reads_as}
use Rattle.groups.specs.Write.{write}
use Rattle.groups.specs.Regroup.{regroup_of, regrouped, output_left, target_ok, Regroups}
use Rattle.groups.proofs.regroup.Accepted.{Accepted, accepted_told, reads_of, unread_never}
use Rattle.groups.proofs.regroup.OutputReads.{output_reads}
use Rattle.claims.specs.Made.{Made, kept_from, kept_by, kept, accepted_from, last_target, Ran}
use Rattle.claims.specs.Chained.{IsRefusal, AllUnaltered}

-- the bytes at the start of a slice that was written over are those written
take_pasted : (d w : List ℕ) → take (length w) (pasted d 0 w) ≡ w
take_pasted d w = rw (pasted_is d 0 w) (take_at w (drop (0 + length w) d) (length w) refl)

-- ---- bytes that do not read

-- a refused call leaves the bytes kept and the last accepted target as they were
refusal_keeps : (s left : List ℕ) (r : Result ℕ (Refused Refusal)) → IsRefusal r → kept_from s left r ≡ s
refusal_keeps s left (Ok n) f = absurd f
refusal_keeps s left (Err e) f = refl

refusal_last : (last : Option (List ℕ)) (target : List ℕ) (r : Result ℕ (Refused Refusal)) → IsRefusal r → accepted_from last target r ≡ last
refusal_last last target (Ok n) f = absurd f
refusal_last last target (Err e) f = refl

-- a call on them is refused, and leaves its slice as it was
unread_call : (tags packs target s d x : List ℕ) (r : Result ℕ (Refused Refusal)) → Regroups tags packs target s d x r → reads_as tags packs s ≡ none
    → IsRefusal r × (x ≡ d)
unread_call tags packs target s d x r o n = rw (o.answer, o.bytes) (go (regroup_of tags packs target s (length d)) refl)
  where
    go : (a : Answer (List ℕ)) → regroup_of tags packs target s (length d) ≡ a → IsRefusal (regrouped a) × (output_left d a ≡ d)
    go (ok w) e = absurd (unread_never tags packs target s (length d) w n e)
    go (refused r p) e = (tt, refl)

-- so is every call of the chain, and none is the last accepted
pub unread_all : (tags packs s : List ℕ) (calls : List Made) → Ran tags packs s calls → reads_as tags packs s ≡ none → AllUnaltered calls
unfolding Ran AllUnaltered
unread_all tags packs s [] r n = tt
unread_all tags packs s (c ∷ cs) r n =
    let u = unread_call tags packs c.target s c.slice c.left c.answer r.0 n in
    (u.0, u.1, unread_all tags packs s cs (rw (refusal_keeps s c.left c.answer u.0) at r.1) n)

unread_last : (tags packs s : List ℕ) (last : Option (List ℕ)) (calls : List Made) → Ran tags packs s calls → reads_as tags packs s ≡ none → last_target last calls ≡ last
unfolding Ran last_target
unread_last tags packs s last [] r n = refl
unread_last tags packs s last (c ∷ cs) r n =
    let u = unread_call tags packs c.target s c.slice c.left c.answer r.0 n in
    rw (refusal_last last c.target c.answer u.0)
    (unread_last tags packs s last cs (rw (refusal_keeps s c.left c.answer u.0) at r.1) n)

-- ---- bytes that read

-- the item list xs was written with this target as the bytes s
pub record Output (tags packs : List ℕ) (xs : List Item) (target s : List ℕ) : Type 0 where
  pub tags_ok : tag_table_ok tags ≡ true
  pub packs_ok : pack_table_ok packs ≡ true
  pub group : target_ok target ≡ true
  pub writes : write tags packs target xs ≡ ok s
  pub most : length s ≤ 65536

-- the bytes s read as xs, and if a call was accepted they are xs written with its target
pub record Holds (tags packs : List ℕ) (xs : List Item) (s : List ℕ) (last : Option (List ℕ)) : Type 0 where
  pub reads : reads_as tags packs s ≡ some xs
  pub output : (target : List ℕ) → last ≡ some target → Output tags packs xs target s

-- before the first call
holds_first : (tags packs : List ℕ) (xs : List Item) (s : List ℕ) → reads_as tags packs s ≡ some xs → Holds tags packs xs s none
holds_first tags packs xs s e = record { reads = e; output = λ target f. absurd_number (cc) }

-- what an accepted call writes are the items of its input
accepted_output : (tags packs : List ℕ) (xs : List Item) (target s : List ℕ) (room : ℕ) (w : List ℕ) → reads_as tags packs s ≡ some xs
    → regroup_of tags packs target s room ≡ ok w → Output tags packs xs target w
accepted_output tags packs xs target s room w e f =
    let a : Accepted tags packs target s room w = accepted_told tags packs target s room w f in
    let r : reads_as tags packs s ≡ some (items a.entries) = reads_of tags packs s a.entries a.reads in
    let i : items a.entries ≡ xs = cc in
    record { tags_ok = a.tags_ok; packs_ok = a.packs_ok; group = a.group; writes = rw i at a.writes; most = a.most }

-- after one call more
holds_call : (tags packs : List ℕ) (xs : List Item) (target s d x : List ℕ) (r : Result ℕ (Refused Refusal)) (last : Option (List ℕ))
    → Regroups tags packs target s d x r → Holds tags packs xs s last
    → Holds tags packs xs (kept_from s x r) (accepted_from last target r)
holds_call tags packs xs target s d x r last o h = rw (o.answer, o.bytes) (go (regroup_of tags packs target s (length d)) refl)
  where
    go : (a : Answer (List ℕ)) → regroup_of tags packs target s (length d) ≡ a
        → Holds tags packs xs (kept_from s (output_left d a) (regrouped a)) (accepted_from last target (regrouped a))
    go (ok w) e = rw (take_pasted d w) (record {
      reads = output_reads tags packs target s (length d) w e ∙ h.reads;
      output = λ t f. let u : target ≡ t = cc in rw u at (accepted_output tags packs xs target s (length d) w h.reads e);
    })
    go (refused r p) e = h

-- after all calls
holds_all : (tags packs : List ℕ) (xs : List Item) (s : List ℕ) (last : Option (List ℕ)) (calls : List Made) → Ran tags packs s calls
    → Holds tags packs xs s last → Holds tags packs xs (kept s calls) (last_target last calls)
unfolding Ran kept last_target
holds_all tags packs xs s last [] r h = h
holds_all tags packs xs s last (c ∷ cs) r h =
    holds_all tags packs xs (kept_by s c) (accepted_from last c.target c.answer) cs r.1
    (holds_call tags packs xs c.target s c.slice c.left c.answer last r.0 h)

-- the bytes kept at the end read as the first input did
pub reads_all : (tags packs first : List ℕ) (calls : List Made) → Ran tags packs first calls → (xs : List Item) → reads_as tags packs first ≡ some xs
    → reads_as tags packs (kept first calls) ≡ some xs
reads_all tags packs first calls r xs e = (holds_all tags packs xs first none calls r (holds_first tags packs xs first e)).reads

-- a chain with an accepted call began with bytes that read, and keeps their items as its last accepted target writes them
pub kept_told : (tags packs first : List ℕ) (calls : List Made) (target : List ℕ) → Ran tags packs first calls → last_target none calls ≡ some target
    → (xs : List Item) × (reads_as tags packs first ≡ some xs) × (reads_as tags packs (kept first calls) ≡ some xs) × Output tags packs xs target (kept first calls)
kept_told tags packs first calls target r e = go (reads_as tags packs first) refl
  where
    go : (o : Option (List Item)) → reads_as tags packs first ≡ o
        → (xs : List Item) × (reads_as tags packs first ≡ some xs) × (reads_as tags packs (kept first calls) ≡ some xs) × Output tags packs xs target (kept first calls)
    go none f = let l : last_target none calls ≡ none = unread_last tags packs first none calls r f in absurd_number (cc)
    go (some xs) f = let h = holds_all tags packs xs first none calls r (holds_first tags packs xs first f) in (xs, f, h.reads, h.output target e)

-- ---- a chain of one call

-- a call that is accepted with the output w answers its length, and w is kept
pub accepted_one : (tags packs s : List ℕ) (c : Made) (w : List ℕ) → Ran tags packs s (c ∷ []) → regroup_of tags packs c.target s (length c.slice) ≡ ok w
    → (c.answer ≡ Ok (length w)) × (kept s (c ∷ []) ≡ w)
unfolding Ran kept
accepted_one tags packs s c w r e =
    let a : c.answer ≡ Ok (length w) = r.0.answer ∙ ap regrouped e in
    let b : c.left ≡ pasted c.slice 0 w = r.0.bytes ∙ ap (output_left c.slice) e in
    (a, rw (a, b) (take_pasted c.slice w))
