-- What the walks over a feed do: measuring and writing; of private functions only.
use Rattle.std.specs.Prelude.{ℕ, ◌+◌, ◌*◌, ◌≤◌, ◌≡◌, Bool, true, false, List, [], Option, Some, None, Result, Ok, Err, length}
use Rattle.std.proofs.Math.Option as math
use Rattle.std.proofs.Math.Option.{none, some}
use Rattle.klv.specs.Pick.{pick}
use Rattle.groups.specs.declared.refusal.Refused.{Refused}
use Rattle.groups.specs.declared.refusal.Refusal.{Refusal}
use Rattle.groups.specs.declared.refusal.Refusal.TheVariants.{TagTable, PackTable, Target, GroupKey}
use Rattle.groups.specs.Kind.{kind_of, is_group}
use Rattle.groups.specs.Tables.{tag_table_ok, pack_table_ok}
use Rattle.groups.specs.Regroup.{target_ok}
use Rattle.feed.specs.declared.setting.Setting as lent
use Rattle.feed.specs.declared.fault.Fault.{Fault}
use Rattle.feed.specs.declared.fault.Fault.TheVariants.{Plain, Triplet}
use Rattle.feed.specs.declared.fault.Tally.{Tally}
use Rattle.feed.specs.Triplets.{Split, whole, broken, triplets}
use Rattle.feed.specs.Feed.{Setting, setting, Answer, refused, check, is_regrouped, is_refused, is_other, image, tally_of, fitting, fed, fed_left}

-- ---- a setting by value

abbrev pub given : lent.Setting → Setting
given s = setting s.tags.now s.packs.now s.source s.target.now

-- 1, 2, 3, 5: what tables and keys are refused with, or what is answered after
abbrev pub checked : Setting → Answer → Answer
checked s a =
    check (tag_table_ok s.tags) TagTable
    (check (pack_table_ok s.packs) PackTable
    (check (target_ok s.target) Target
    (check (is_group (kind_of s.source)) GroupKey a)))

-- what they are by value: a setting if all are good, or why one is refused
abbrev pub Settled : Setting → Result lent.Setting Refusal → Type 0
Settled s (Ok x) = (given x ≡ s) × ((a : Answer) → checked s a ≡ a)
Settled s (Err r) = (a : Answer) → checked s a ≡ refused (Plain r) 0

-- ---- one triplet

-- a size by value
abbrev pub or_none : math.Option ℕ → Option ℕ
or_none (some n) = Some n
or_none none = None

-- ---- measured

-- one triplet of which the test holds
abbrev pub one : Bool → ℕ
one true = 1
one false = 0

-- the tally with one triplet more
abbrev pub tallied : Setting → Tally → List ℕ → Tally
tallied s y t = record {
  length = y.length + length (image s t);
  regrouped = y.regrouped + one (is_regrouped s t);
  refused = y.refused + one (is_refused s t);
  others = y.others + one (is_other s t);
}

-- the tally of n triplets is no larger than a feed's
pub record Small (y : Tally) (t : List ℕ) : Type 0 where
  pub length_most : y.length ≤ 65536 * 1048576
  pub regrouped_most : y.regrouped ≤ 1048576
  pub refused_most : y.refused ≤ 1048576
  pub others_most : y.others ≤ 1048576
  pub long : 16 ≤ length t
  pub most : length t ≤ 1048576

-- what measuring answers
abbrev pub measured : Setting → Split → Result Tally (Refused Fault)
measured s (whole ts) = Ok (tally_of s ts)
measured s (broken i) = Err (record { why = Triplet; place = i })

-- ---- written

abbrev pub is_whole : Split → Bool
is_whole (whole ts) = true
is_whole (broken i) = false

-- the triplets, if the feed is whole
abbrev pub triplets_of : Split → List (List ℕ)
triplets_of (whole ts) = ts
triplets_of (broken i) = []

-- what goes out for a regrouped triplet, and nothing for another
abbrev pub if_regrouped : Setting → List ℕ → List ℕ
if_regrouped s t = pick (is_regrouped s t) (image s t) []

-- ---- both

-- what is answered and left once tables, keys and size are good: d is the output slice at entry, x at exit
pub record Fits (s : Setting) (feed d x : List ℕ) (r : Result Tally (Refused Fault)) : Type 0 where
  pub answer : r ≡ fed s (fitting s (length d) (triplets feed))
  pub bytes : x ≡ fed_left s d (fitting s (length d) (triplets feed))
