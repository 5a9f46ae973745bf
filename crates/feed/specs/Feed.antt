-- The feed (02, point 4): each triplet with the source key regrouped, every other as it came.
use Rattle.std.specs.Prelude.{ℕ, ◌≡◌, Bool, true, false, not, List, [], ◌∷◌, Result, Ok, Err, leb, length, take}
use Rattle.klv.specs.Pick.{pick, both}
use Rattle.klv.specs.Bytes.{same, pasted}
use Rattle.groups.specs.declared.refusal.Refusal.{Refusal}
use Rattle.groups.specs.declared.refusal.Refused.{Refused}
use Rattle.groups.specs.declared.refusal.Refusal.TheVariants.{TagTable, PackTable, Target, GroupKey, ShortSlice}
use Rattle.groups.specs.Refusal as plain
use Rattle.groups.specs.Refusal.{number_of}
use Rattle.groups.specs.Kind.{kind_of, is_group}
use Rattle.groups.specs.Tables.{tag_table_ok, pack_table_ok}
use Rattle.groups.specs.Regroup.{regroup_long, target_ok}
use Rattle.feed.specs.declared.fault.Fault.{Fault}
use Rattle.feed.specs.declared.fault.Fault.TheVariants.{Plain, Triplet}
use Rattle.feed.specs.declared.fault.Tally.{Tally}
use Rattle.feed.specs.Triplets.{Split, whole, broken, triplets, joined}

-- the numbers of the refusals
unfoldable pub fault_number : Fault → ℕ
fault_number (Plain r) = number_of r
fault_number Triplet = 21

-- what the feed is given besides its triplets
pub record Setting : Type 0 where
  pub tags : List ℕ
  pub packs : List ℕ
  pub source : List ℕ
  pub target : List ℕ

abbrev pub setting : List ℕ → List ℕ → List ℕ → List ℕ → Setting
setting tags packs source target = record { tags = tags; packs = packs; source = source; target = target }

-- ---- one triplet

abbrev pub has_source : Setting → List ℕ → Bool
has_source s t = same (take 16 t) s.source

-- the plain call on it, with a slice long enough
abbrev pub plainly : Setting → List ℕ → plain.Answer (List ℕ)
plainly s t = regroup_long s.tags s.packs s.target t

abbrev pub accepts : plain.Answer (List ℕ) → Bool
accepts (plain.ok w) = true
accepts (plain.refused r p) = false

-- it is regrouped, refused by the plain call, or another's
abbrev pub is_regrouped : Setting → List ℕ → Bool
is_regrouped s t = both (has_source s t) (accepts (plainly s t))

abbrev pub is_refused : Setting → List ℕ → Bool
is_refused s t = both (has_source s t) (not (accepts (plainly s t)))

abbrev pub is_other : Setting → List ℕ → Bool
is_other s t = not (has_source s t)

abbrev pub or_same : List ℕ → plain.Answer (List ℕ) → List ℕ
or_same t (plain.ok w) = w
or_same t (plain.refused r p) = t

-- what goes out for it
unfoldable pub image : Setting → List ℕ → List ℕ
image s t = pick (has_source s t) (or_same t (plainly s t)) t

-- ---- all of them

unfoldable pub images_of : Setting → List (List ℕ) → List (List ℕ)
images_of s [] = []
images_of s (t ∷ ts) = image s t ∷ images_of s ts

-- the joined image
abbrev pub images : Setting → List (List ℕ) → List ℕ
images s ts = joined (images_of s ts)

-- those of which a test holds
unfoldable pub those : (List ℕ → Bool) → List (List ℕ) → List (List ℕ)
those p [] = []
those p (t ∷ ts) = pick (p t) (t ∷ those p ts) (those p ts)

-- the output's length and the three counts
abbrev pub tally_of : Setting → List (List ℕ) → Tally
tally_of s ts = record {
  length = length (images s ts);
  regrouped = length (those (is_regrouped s) ts);
  refused = length (those (is_refused s) ts);
  others = length (those (is_other s) ts);
}

-- ---- the call

-- the triplets of an accepted feed; or the refusal with its place
pub data Answer : Type 0 where
  ok : List (List ℕ) → Answer
  refused : Fault → ℕ → Answer

abbrev pub check : Bool → Refusal → Answer → Answer
check true r a = a
check false r a = refused (Plain r) 0

-- a feed of at most 1 MiB
abbrev pub limited : Bool → Answer → Answer
limited true a = a
limited false a = refused Triplet 0

-- triplets whose joined image the slice has room for
abbrev pub fitting : Setting → ℕ → Split → Answer
fitting s room (whole ts) = check (leb (length (images s ts)) room) ShortSlice (ok ts)
fitting s room (broken i) = refused Triplet i

-- 1, 2, 3, 5, then 21, then 15; `room` is the length of the lent output slice
unfoldable pub feed_of : Setting → List ℕ → ℕ → Answer
feed_of s feed room =
    check (tag_table_ok s.tags) TagTable
    (check (pack_table_ok s.packs) PackTable
    (check (target_ok s.target) Target
    (check (is_group (kind_of s.source)) GroupKey
    (limited (leb (length feed) 1048576)
    (fitting s room (triplets feed))))))

-- what the call answers, and what it leaves of a slice that held d
abbrev pub fed : Setting → Answer → Result Tally (Refused Fault)
fed s (ok ts) = Ok (tally_of s ts)
fed s (refused f p) = Err (record { why = f; place = p })

abbrev pub fed_left : Setting → List ℕ → Answer → List ℕ
fed_left s d (ok ts) = pasted d 0 (images s ts)
fed_left s d (refused f p) = d

-- the contract of the call: d is the output slice at entry, x at exit, r the answer
pub record Feeds (s : Setting) (feed d x : List ℕ) (r : Result Tally (Refused Fault)) : Type 0 where
  -- the output's length and the three counts, or the refusal with its place
  pub answer : r ≡ fed s (feed_of s feed (length d))
  -- the joined image at the front of the slice; a refusal leaves it as it was
  pub bytes : x ≡ fed_left s d (feed_of s feed (length d))
