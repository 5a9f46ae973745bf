-- Demand 3 holds of every list of calls that were made.
use mathlib.Core.Path.{◌≡◌}
use mathlib.Core.Bool.{true}
use mathlib.Core.List.{List, [], ◌∷◌}
use mathlib.Core.Option.{none, some}
use Prim.Native.Nat.{ℕ, ◌≤◌}
use lib.ListN.{length, take}
use Rattle.std.specs.Prelude.{Ok}
use Rattle.groups.specs.Refusal.{ok}
use Rattle.groups.specs.Kind.{family}
use Rattle.groups.specs.Read.{reads_as}
use Rattle.groups.specs.Write.{write}
use Rattle.groups.specs.Regroup.{regroup_of}
use Rattle.groups.proofs.regroup.Accepted.{accepted_of, reads_told}
use Rattle.claims.specs.Made.{Made, kept, last_target, Ran}
use Rattle.claims.specs.Chained.{ReadAlike, Chained}
use Rattle.claims.proofs.Kept.{Output, unread_all, reads_all, kept_told, accepted_one}

module _ (tags packs first : List ℕ) (calls : List Made) (r : Ran tags packs first calls) where
  -- one direct call leaves the bytes kept
  direct_call : (d : Made) → Ran tags packs first (d ∷ []) → last_target none calls ≡ some d.target
      → family (take 16 first) d.target ≡ true → length (kept first calls) ≤ length d.slice
      → (d.answer ≡ Ok (length (kept first calls))) × (kept first (d ∷ []) ≡ kept first calls)
  direct_call d q e f h =
      let k = kept_told tags packs first calls d.target r e in
      let m = reads_told tags packs first k.0 k.1 in
      let o : Output tags packs k.0 d.target (kept first calls) = k.3 in
      let a : regroup_of tags packs d.target first (length d.slice) ≡ ok (kept first calls) =
      accepted_of tags packs d.target first (length d.slice) (kept first calls)
      (record {
        tags_ok = o.tags_ok;
        packs_ok = o.packs_ok;
        group = o.group;
        entries = m.0;
        reads = m.1;
        akin = f;
        writes = rw m.2 o.writes;
        most = o.most;
        fits = h;
      }) in
      accepted_one tags packs first d (kept first calls) q a

  -- two chains to one target keep the same bytes: their first inputs read alike
  same_kept : (other : List ℕ) (others : List Made) (target : List ℕ) → Ran tags packs other others
      → last_target none calls ≡ some target → last_target none others ≡ some target
      → kept first calls ≡ kept other others → ReadAlike tags packs first other
  same_kept other others target q e f g =
      let k = kept_told tags packs first calls target r e in
      let m = kept_told tags packs other others target q f in
      let s : reads_as tags packs (kept other others) ≡ some k.0 = rw g at k.2 in
      let x : k.0 ≡ m.0 = cc in
      (k.0, k.1, rw x m.1)

  -- and back
  alike_kept : (other : List ℕ) (others : List Made) (target : List ℕ) → Ran tags packs other others
      → last_target none calls ≡ some target → last_target none others ≡ some target
      → ReadAlike tags packs first other → kept first calls ≡ kept other others
  alike_kept other others target q e f a =
      let k = kept_told tags packs first calls target r e in
      let m = kept_told tags packs other others target q f in
      let x : k.0 ≡ m.0 = cc in
      let p : write tags packs target m.0 ≡ ok (kept first calls) = rw x at k.3.writes in
      let u : write tags packs target m.0 ≡ ok (kept other others) = m.3.writes in
      cc

pub chained : (tags packs first : List ℕ) (calls : List Made) → Ran tags packs first calls → Chained tags packs first calls
chained tags packs first calls r = record {
  reads = reads_all tags packs first calls r;
  unread = unread_all tags packs first calls r;
  direct = direct_call tags packs first calls r;
  equal = λ other others target q e f. (
    same_kept tags packs first calls r other others target q e f,
    alike_kept tags packs first calls r other others target q e f,
  );
}
