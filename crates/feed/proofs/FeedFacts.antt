-- The call: each fact in the shape of its need.
use mathlib.Core.Path.{◌≡◌, refl, sym, ap, ◌∙◌}
use mathlib.Core.Bool.{Bool, true, false}
use mathlib.Core.List.{List}
use Prim.Native.Nat.{ℕ, ◌<◌, ◌≤◌}
use native.Mathlib.Omega.{arith}
use lib.Dec.{leb}
use lib.ListN.{length, drop}
use lib.Seq.{take_all}
use borrow.Author.Tests.{le-leb, lt-leb}
use Rattle.std.specs.Prelude.{Result, Ok, Err}
use Rattle.std.specs.Result.{MatchResult, IsErrAnd}
use Rattle.std.proofs.lemmas.Result.{err_from_is_err_and}
use Rattle.klv.specs.Key.{key_or_zeros}
use Rattle.klv.proofs.Cases.{absurd_number, test_cases}
use Rattle.klv.proofs.KeyLaws.{key_or_zeros_whole}
use Rattle.groups.specs.declared.root.Group.{Group}
use Rattle.groups.specs.declared.refusal.Refused.{Refused}
use Rattle.groups.specs.declared.refusal.Refusal.{Refusal}
use Rattle.groups.specs.Kind.{kind_of, is_group}
use Rattle.groups.specs.Root.{group_of}
use Rattle.groups.specs.Tables.{tag_table_ok, pack_table_ok}
use Rattle.groups.proofs.kind.KindLaws.{group_size}
use Rattle.feed.specs.declared.fault.Fault.{Fault}
use Rattle.feed.specs.declared.fault.Fault.TheVariants.{Plain, Triplet}
use Rattle.feed.specs.declared.fault.Tally.{Tally}
use Rattle.feed.specs.declared.setting.Setting as lent
use Rattle.feed.specs.Feed.{Setting, setting, Answer, feed_of, Feeds}
use Rattle.feed.specs.Walk.{given, checked, Settled, Fits}

-- ---- tables and keys

front_is : (s f : List ℕ) → f ≡ key_or_zeros (drop 0 s) → length s ≡ 16 → f ≡ s
front_is s f e h = e ∙ key_or_zeros_whole s (omega arith) ∙ take_all 16 s (omega arith)

pub group_key_is : (s f : List ℕ) (g : Group) (b : Bool) → f ≡ key_or_zeros (drop 0 s) → length s ≡ 16 → g ≡ group_of f → b ≡ is_group g.kind → b ≡ is_group (kind_of s)
unfolding group_of
group_key_is s f g b e h p q = q ∙ ap (λ (x : Group). is_group x.kind) (p ∙ ap group_of (front_is s f e h))

pub group_key_not : (s : List ℕ) → (length s ≡ 16 → ⊥) → false ≡ is_group (kind_of s)
group_key_not s h = test_cases (is_group (kind_of s)) (λ t. absurd (h (group_size s t))) (λ t. sym t)

pub settled : (tags packs source target : List ℕ) (a b c d : Bool) (f : List ℕ) → a ≡ tag_table_ok tags → a ≡ true → b ≡ pack_table_ok packs → b ≡ true
    → c ≡ is_group (kind_of target) → c ≡ true → d ≡ is_group (kind_of source) → d ≡ true → f ≡ key_or_zeros (drop 0 source)
    → (setting tags packs f target ≡ setting tags packs source target) × ((x : Answer) → checked (setting tags packs source target) x ≡ x)
settled tags packs source target a b c d f p n q o u v w h e =
    let tags_ok : tag_table_ok tags ≡ true = sym p ∙ n in
    let packs_ok : pack_table_ok packs ≡ true = sym q ∙ o in
    let target_is_ok : is_group (kind_of target) ≡ true = sym u ∙ v in
    let source_ok : is_group (kind_of source) ≡ true = sym w ∙ h in
    let k : f ≡ source = front_is source f e (group_size source source_ok) in
    (ap (λ (l : List ℕ). setting tags packs l target) k, λ x. rw (tags_ok, packs_ok, target_is_ok, source_ok))

-- ---- all of it

module _ (s : Setting) (feed d : List ℕ) (r : Result lent.Setting Refusal) (k : Settled s r) where
  pub feed_refused : (why : Refusal) → r ≡ Err why → Feeds s feed d d (Err (record { why = Plain why; place = 0 }))
  unfolding feed_of
  feed_refused why e = let z : Settled s (Err why) = rw e at k in record { answer = rw (z _); bytes = rw (z _) }

  module _ (x : lent.Setting) (e : r ≡ Ok x) where
    ok_is : Settled s (Ok x)
    ok_is = rw e at k

    pub feed_long : 1048576 < length feed → Feeds s feed d d (Err (record { why = Triplet; place = 0 }))
    unfolding feed_of
    feed_long l =
        let z : leb (length feed) 1048576 ≡ false = lt-leb (length feed) 1048576 l in
        record { answer = rw (ok_is.1 _, z); bytes = rw (ok_is.1 _, z) }

    pub feed_fits : length feed ≤ 1048576 → (y : List ℕ) (a : Result Tally (Refused Fault)) → Fits (given x) feed d y a → Feeds s feed d y a
    unfolding feed_of
    feed_fits l y a f =
        let z : leb (length feed) 1048576 ≡ true = le-leb (length feed) 1048576 l in
        let m : Fits s feed d y a = rw ok_is.0 at f in
        record { answer = rw (ok_is.1 _, z) m.answer; bytes = rw (ok_is.1 _, z) m.bytes }

  -- the refusal of tables and keys has place 0
  pub feed_placed : (P : Refusal → Refused Fault → Type 0) → ((why : Refusal) (e : Refused Fault) → P why e → e ≡ record { why = Plain why; place = 0 })
      → (m : Result lent.Setting (Refused Fault)) → MatchResult r (λ x. m ≡ Ok x) (λ why. IsErrAnd m (P why)) → (e : Refused Fault) → m ≡ Err e → Feeds s feed d d (Err e)
  feed_placed P told m c e g = go r refl
    where
      go : (x : Result lent.Setting Refusal) → r ≡ x → Feeds s feed d d (Err e)
      go (Ok x) f = let z : m ≡ Ok x = rw f at c in absurd_number (cc)
      go (Err why) f =
          let z = err_from_is_err_and m (rw f at c) in
          let y : Err z.0 ≡ Err e = sym z.1 ∙ g in
          let u : z.0 ≡ e = cc in
          rw (← u, told why z.0 z.2) (feed_refused why f)
