-- The regrouping call: the table of refusals from top to bottom.
use Rattle.std.specs.Prelude.{ℕ, Bool, ◌≡◌, List, Result, Ok, Err, leb, length, take}
use Rattle.klv.specs.Bytes.{pasted}
use Rattle.groups.specs.declared.refusal.Refusal.{Refusal}
use Rattle.groups.specs.declared.refusal.Refused.{Refused}
use Rattle.groups.specs.declared.refusal.Refusal.TheVariants.{TagTable, PackTable, Target, Oversize, GroupKey, Family, LongOutput, ShortSlice}
use Rattle.groups.specs.Refusal.{Answer, ok, refused, and_then, check, number_of, Said, accepted, numbered, said}
use Rattle.groups.specs.Kind.{kind_of, is_group, family}
use Rattle.groups.specs.Tables.{tag_table_ok, pack_table_ok}
use Rattle.groups.specs.Read.{Entry, group_key_ok, read_body, items}
use Rattle.groups.specs.Listing.{read_up_to}
use Rattle.groups.specs.Write.{write}

-- sixteen bytes, a key, and a group kind
abbrev pub target_ok : List ℕ → Bool
target_ok target = is_group (kind_of target)

-- an output that the slice has room for
abbrev pub room_for : ℕ → List ℕ → Answer (List ℕ)
room_for room l = check (leb (length l) room) ShortSlice (ok l)

-- an output of at most 65,536 bytes that the slice has room for
abbrev pub sized : ℕ → List ℕ → Answer (List ℕ)
sized room l = check (leb (length l) 65536) LongOutput (check (leb (length l) room) ShortSlice (ok l))

-- the items of a group that was read, written as the target's
abbrev pub regroup_read : List ℕ → List ℕ → List ℕ → List ℕ → ℕ → Answer (List ℕ)
regroup_read tags packs target group room =
    and_then (read_body tags packs group) (λ (es : List Entry). and_then (write tags packs target (items es)) (sized room))

-- the same of at most so many items
abbrev pub regroup_up_to : ℕ → List ℕ → List ℕ → List ℕ → List ℕ → ℕ → Answer (List ℕ)
regroup_up_to n tags packs target group room =
    and_then (read_up_to n tags packs group) (λ (es : List Entry). and_then (write tags packs target (items es)) (sized room))

-- refusals 4 to 6, and then the items
abbrev pub sourced : List ℕ → List ℕ → List ℕ → List ℕ → ℕ → Answer (List ℕ)
sourced tags packs target group room =
    check (leb (length group) 65536) Oversize
    (check (group_key_ok group) GroupKey
    (check (family (take 16 group) target) Family
    (regroup_read tags packs target group room)))

-- the output, or the refusal with its place; `room` is the length of the lent output slice
unfoldable pub regroup_of : List ℕ → List ℕ → List ℕ → List ℕ → ℕ → Answer (List ℕ)
regroup_of tags packs target group room =
    check (tag_table_ok tags) TagTable
    (check (pack_table_ok packs) PackTable
    (check (target_ok target) Target
    (sourced tags packs target group room)))

-- the call with a slice long enough: no output has more bytes
abbrev pub regroup_long : List ℕ → List ℕ → List ℕ → List ℕ → Answer (List ℕ)
regroup_long tags packs target group = regroup_of tags packs target group 65536

-- ---- by value

-- what the call answers, and what it leaves of a slice that held d
abbrev pub regrouped : Answer (List ℕ) → Result ℕ (Refused Refusal)
regrouped (ok w) = Ok (length w)
regrouped (refused r p) = Err (record { why = r; place = p })

abbrev pub output_left : List ℕ → Answer (List ℕ) → List ℕ
output_left d (ok w) = pasted d 0 w
output_left d (refused r p) = d

-- what a call with this answer leaves: d is the output slice at entry, x at exit, r what is returned
pub record Outcome (a : Answer (List ℕ)) (d x : List ℕ) (r : Result ℕ (Refused Refusal)) : Type 0 where
  pub answer : r ≡ regrouped a
  pub bytes : x ≡ output_left d a

-- what each case of the result says in 01's words
abbrev pub regrouped_says : Result ℕ (Refused Refusal) → Said
regrouped_says (Ok n) = accepted n
regrouped_says (Err e) = numbered (number_of e.why) e.place

-- the contract of the regrouping call: d is the output slice at entry, x at exit, r what is returned
pub record Regroups (tags packs target group d x : List ℕ) (r : Result ℕ (Refused Refusal)) : Type 0 where
  -- the output's length, or the refusal with its place
  pub answer : r ≡ regrouped (regroup_of tags packs target group (length d))
  -- in 01's words: the length, or number and place
  pub says : regrouped_says r ≡ said (regroup_of tags packs target group (length d))
  -- the output at the front of the slice; a refusal leaves it as it was
  pub bytes : x ≡ output_left d (regroup_of tags packs target group (length d))

-- the contract of its length alone: what the regrouping call answers with a slice long enough
pub record RegroupLength (tags packs target group : List ℕ) (r : Result ℕ (Refused Refusal)) : Type 0 where
  pub answer : r ≡ regrouped (regroup_long tags packs target group)
  -- in 01's words: the length, or number and place
  pub says : regrouped_says r ≡ said (regroup_long tags packs target group)
