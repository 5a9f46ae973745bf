-- A slice of any length gives the answer of one long enough, if there is room for the output.
use mathlib.Core.Path.{◌≡◌, refl}
use mathlib.Core.Bool.{Bool, true, false}
use mathlib.Core.List.{List}
use Prim.Native.Nat.{ℕ}
use lib.Dec.{leb}
use lib.ListN.{length, take}
use Rattle.klv.proofs.Cases.{test_cases}
use Rattle.groups.specs.declared.refusal.Refusal.{Refusal}
use Rattle.groups.specs.declared.refusal.Refusal.TheVariants.{TagTable, PackTable, Target, Oversize, GroupKey, Family}
use Rattle.groups.specs.Refusal.{Answer, ok, refused, and_then, check}
use Rattle.groups.specs.Kind.{family}
use Rattle.groups.specs.Tables.{tag_table_ok, pack_table_ok}
use Rattle.groups.specs.Read.{Entry, group_key_ok, read_body, items}
use Rattle.groups.specs.Write.{write}
use Rattle.groups.specs.Regroup.{room_for, sized, target_ok, regroup_of, regroup_long}

sized_room : (room : ℕ) (l : List ℕ) → sized room l ≡ and_then (sized 65536 l) (room_for room)
sized_room room l = test_cases (leb (length l) 65536) (λ t. rw t) (λ t. rw t)

written_room : (room : ℕ) (a : Answer (List ℕ)) → and_then a (sized room) ≡ and_then (and_then a (sized 65536)) (room_for room)
written_room room (ok w) = sized_room room w
written_room room (refused r p) = refl

read_room : (room : ℕ) (a : Answer (List Entry)) (f : List Entry → Answer (List ℕ))
    → and_then a (λ (es : List Entry). and_then (f es) (sized room)) ≡ and_then (and_then a (λ (es : List Entry). and_then (f es) (sized 65536))) (room_for room)
read_room room (ok es) f = written_room room (f es)
read_room room (refused r p) f = refl

check_room : (room : ℕ) (t : Bool) (r : Refusal) (a b : Answer (List ℕ)) → a ≡ and_then b (room_for room) → check t r a ≡ and_then (check t r b) (room_for room)
check_room room true r a b e = e
check_room room false r a b e = refl

pub regroup_room : (tags packs target s : List ℕ) (room : ℕ) → regroup_of tags packs target s room ≡ and_then (regroup_long tags packs target s) (room_for room)
unfolding regroup_of
regroup_room tags packs target s room =
    check_room room (tag_table_ok tags) TagTable _ _
    (check_room room (pack_table_ok packs) PackTable _ _
    (check_room room (target_ok target) Target _ _
    (check_room room (leb (length s) 65536) Oversize _ _
    (check_room room (group_key_ok s) GroupKey _ _
    (check_room room (family (take 16 s) target) Family _ _
    (read_room room (read_body tags packs s) (λ (es : List Entry). write tags packs target (items es))))))))
