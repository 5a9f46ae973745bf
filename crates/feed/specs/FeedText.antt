-- The feed in the words of 02's point 4: its triplets, what goes out for each, and when a feed is refused.
use Rattle.std.specs.Prelude.{ℕ, ◌+◌, ◌<◌, ◌≤◌, ◌≡◌, true, false, List, [], ◌∷◌, ◌++◌, ◌↔◌, Err, length, take, drop}
use Rattle.std.proofs.Math.Option.{some}
use Rattle.klv.specs.Layout.{read_as}
use Rattle.klv.specs.declared.layout.Form.TheVariants.{Ber}
use Rattle.klv.specs.declared.layout.NumberError.TheVariants.{Missing, Malformed}
use Rattle.klv.specs.Number.{Value}
use Rattle.groups.specs.declared.refusal.Refusal.{Refusal}
use Rattle.groups.specs.declared.refusal.Refusal.TheVariants.{TagTable, PackTable, Target, GroupKey, ShortSlice}
use Rattle.groups.specs.Refusal as plain
use Rattle.groups.specs.Kind.{kind_of, is_group}
use Rattle.groups.specs.Tables.{tag_table_ok, pack_table_ok}
use Rattle.groups.specs.Read.{Item, reads_as}
use Rattle.groups.specs.Regroup.{regroup_of, target_ok}
use Rattle.feed.specs.declared.fault.Fault.{Fault}
use Rattle.feed.specs.declared.fault.Fault.TheVariants.{Plain, Triplet}
use Rattle.feed.specs.Triplets.{joined}
use Rattle.feed.specs.Feed.{Setting, is_regrouped, is_refused, is_other, image, images, those, ok, refused, feed_of}

-- ---- triplets

-- a triplet of n bytes at the front of l: any sixteen key bytes, a BER length and that many bytes
pub record TripletAt (l : List ℕ) (n : ℕ) : Type 0 where
  pub width : ℕ
  pub value : ℕ
  pub key : 16 ≤ length l
  pub reads : read_as Ber (drop 16 l) ≡ Value value width
  pub size : n ≡ 16 + width + value
  pub there : n ≤ length l

-- no triplet at the front of l: its key or its length is cut off, its length is malformed, or its value is longer than what is
-- left
pub data NoTriplet (l : List ℕ) : Type 0 where
  key_cut_off : length l < 16 → NoTriplet l
  length_cut_off : 16 ≤ length l → read_as Ber (drop 16 l) ≡ Err Missing → NoTriplet l
  length_malformed : 16 ≤ length l → read_as Ber (drop 16 l) ≡ Err Malformed → NoTriplet l
  value_too_long : (v w : ℕ) → 16 ≤ length l → read_as Ber (drop 16 l) ≡ Value v w → length l < 16 + w + v → NoTriplet l

-- each of a list is one triplet and no more
abbrev pub AllTriplets : List (List ℕ) → Type 0
AllTriplets [] = Unit {0}
AllTriplets (t ∷ ts) = TripletAt t (length t) × AllTriplets ts

-- the first triplet of a feed that is none has index i
pub record FirstNone (feed : List ℕ) (i : ℕ) : Type 0 where
  pub before : List (List ℕ)
  pub rest : List ℕ
  pub all : AllTriplets before
  pub feed_is : joined before ++ rest ≡ feed
  pub index : length before ≡ i
  pub some_left : 0 < length rest
  pub none : NoTriplet rest

-- ---- what goes out

-- t has the source key and goes out as w, which the plain call writes into every slice that has room for it: a group with the
-- target key, whose items are those that came in
pub record GoesRegrouped (s : Setting) (t w : List ℕ) : Type 0 where
  pub source : take 16 t ≡ s.source
  pub written : (room : ℕ) → length w ≤ room → regroup_of s.tags s.packs s.target t room ≡ plain.ok w
  pub target : take 16 w ≡ s.target
  pub items : List Item
  pub came_in : reads_as s.tags s.packs t ≡ some items
  pub went_out : reads_as s.tags s.packs w ≡ some items

-- t has the source key, the plain call refuses it with every slice, and it goes out with its bytes unaltered
pub record GoesRefused (s : Setting) (t w : List ℕ) : Type 0 where
  pub source : take 16 t ≡ s.source
  pub why : Refusal
  pub place : ℕ
  pub refuses : (room : ℕ) → regroup_of s.tags s.packs s.target t room ≡ plain.refused why place
  pub unaltered : w ≡ t

-- t has another key, and goes out with its bytes unaltered
pub record GoesOther (s : Setting) (t w : List ℕ) : Type 0 where
  pub not_source : take 16 t ≡ s.source → ⊥
  pub unaltered : w ≡ t

-- what holds of every triplet: it is one of the three that are counted
pub record TripletGoes (s : Setting) (t : List ℕ) : Type 0 where
  pub regrouped : is_regrouped s t ≡ true → GoesRegrouped s t (image s t)
  pub refused : is_refused s t ≡ true → GoesRefused s t (image s t)
  pub other : is_other s t ≡ true → GoesOther s t (image s t)

-- ---- the call

-- tables and keys are good, and the feed has at most 1 MiB
pub record Good (s : Setting) (feed : List ℕ) : Type 0 where
  pub tags_ok : tag_table_ok s.tags ≡ true
  pub packs_ok : pack_table_ok s.packs ≡ true
  pub target_is_ok : target_ok s.target ≡ true
  pub source_ok : is_group (kind_of s.source) ≡ true
  pub most : length feed ≤ 1048576

-- a feed that is accepted: these are its triplets, and the slice has room for their joined image
pub record Accepts (s : Setting) (feed : List ℕ) (room : ℕ) (ts : List (List ℕ)) : Type 0 where
  pub good : Good s feed
  pub all : AllTriplets ts
  -- the triplets joined are the feed
  pub feed_is : joined ts ≡ feed
  pub fits : length (images s ts) ≤ room

-- a feed that is refused: 1, 2, 3, 5, then 21, and only 15 after
pub data Refuses (s : Setting) (feed : List ℕ) (room : ℕ) (f : Fault) (p : ℕ) : Type 0 where
  tag_table : f ≡ Plain TagTable → p ≡ 0 → tag_table_ok s.tags ≡ false → Refuses s feed room f p
  pack_table : f ≡ Plain PackTable → p ≡ 0 → tag_table_ok s.tags ≡ true → pack_table_ok s.packs ≡ false → Refuses s feed room f p
  target_key : f ≡ Plain Target → p ≡ 0 → tag_table_ok s.tags ≡ true → pack_table_ok s.packs ≡ true → target_ok s.target ≡ false → Refuses s feed room f p
  source_key : f ≡ Plain GroupKey → p ≡ 0 → tag_table_ok s.tags ≡ true → pack_table_ok s.packs ≡ true → target_ok s.target ≡ true
      → is_group (kind_of s.source) ≡ false → Refuses s feed room f p
  too_long : f ≡ Triplet → p ≡ 0 → tag_table_ok s.tags ≡ true → pack_table_ok s.packs ≡ true → target_ok s.target ≡ true
      → is_group (kind_of s.source) ≡ true → 1048576 < length feed → Refuses s feed room f p
  no_triplet : f ≡ Triplet → Good s feed → FirstNone feed p → Refuses s feed room f p
  short_slice : f ≡ Plain ShortSlice → p ≡ 0 → Good s feed → (ts : List (List ℕ)) → AllTriplets ts → joined ts ≡ feed → room < length (images s ts)
      → Refuses s feed room f p

-- what holds of every feed
pub record FeedHolds (s : Setting) (feed : List ℕ) (room : ℕ) : Type 0 where
  pub accepted : (ts : List (List ℕ)) → (feed_of s feed room ≡ ok ts) ↔ Accepts s feed room ts
  pub refuses : (f : Fault) (p : ℕ) → (feed_of s feed room ≡ refused f p) ↔ Refuses s feed room f p
  -- the sum of the three counts is the number of triplets
  pub counts : (ts : List (List ℕ)) → length (those (is_regrouped s) ts) + length (those (is_refused s) ts) + length (those (is_other s) ts) ≡ length ts
  pub each : (t : List ℕ) → TripletGoes s t
