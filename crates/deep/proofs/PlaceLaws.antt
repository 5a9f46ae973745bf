-- Bounds of what a deep operation answers: the place of a refusal is at most 256, and its number at most 20.
use mathlib.Core.Path.{◌≡◌}
use mathlib.Core.List.{List, []}
use Prim.Native.Nat.{ℕ, ◌-◌, ◌*◌, ◌≤◌}
use native.Mathlib.Omega.{arith}
use lib.Dec.{leb, eqb}
use lib.ListN.{length, take, drop}
use Rattle.klv.specs.Pick.{both}
use Rattle.klv.specs.Layout.{read_as}
use Rattle.klv.specs.declared.layout.Form.TheVariants.{Ber}
use Rattle.std.specs.Prelude.{Ok, Err}
use Rattle.klv.specs.Number.{Read}
use Rattle.klv.proofs.Cases.{absurd_number}
use Rattle.groups.specs.declared.refusal.Refusal.TheVariants.{TagTable, Oversize, GroupKey, OuterLength, LongOutput, ShortSlice}
use Rattle.groups.specs.Kind.{kind_of}
use Rattle.groups.specs.Tables.{tag_table_ok}
use Rattle.groups.specs.Read.{under}
use Rattle.groups.proofs.regroup.PlaceLaws.{number_most}
use Rattle.deep.specs.declared.fault.Fault.{Fault}
use Rattle.deep.specs.declared.fault.Fault.TheVariants.{Plain, TooDeep, Unread}
use Rattle.deep.specs.Tree.{Answer, refused, opens, Tree, tree_of, inside_of, after_length, deep_body, deep_read}
use Rattle.deep.specs.Deep.{fault_number, universal_set, deep_of, count_of, deep_listing_of}
use Rattle.deep.proofs.DeepAnswers.{check_refused, then_refused}
use Rattle.deep.proofs.TreeBounds.{tree_place}

pub fault_most : (f : Fault) → fault_number f ≤ 20
unfolding fault_number
fault_most (Plain r) = number_most r
fault_most TooDeep = omega arith
fault_most Unread = omega arith

length_place : (l : List ℕ) (n : Read) (go : List ℕ → Answer Tree) (f : Fault) (p : ℕ) → ((body : List ℕ) → go body ≡ refused f p → p ≤ 256) → after_length l n go ≡ refused f p → p ≤ 256
length_place l (Ok n) go f p h e = check_refused (eqb n.value (length l - n.width)) OuterLength (go (drop n.width l)) f p e (λ t a b. omega arith) (λ t a. h (drop n.width l) a)
length_place l (Err x) go f p h e = let z : 0 ≡ p = cc in omega arith

read_place : (tags group : List ℕ) (f : Fault) (p : ℕ) → deep_read tags group ≡ refused f p → p ≤ 256
unfolding deep_read deep_body
read_place tags group f p e =
    check_refused (tag_table_ok tags) TagTable _ f p e
    (λ t q z. omega arith)
    (λ t a. check_refused (leb (length group) 65536) Oversize _ f p a
    (λ t q z. omega arith)
    (λ t b. check_refused (opens (kind_of (take 16 group))) GroupKey _ f p b
    (λ t q z. omega arith)
    (λ t c. length_place (drop 16 group) (read_as Ber (drop 16 group)) (λ (body : List ℕ). tree_of (inside_of 3 tags) (under (take 16 group) tags []) 256 0 body) f p
    (λ body d. omega (arith, tree_place (inside_of 3 tags) (under (take 16 group) tags []) 256 0 body f p d)) c)))

pub write_place : (tags group : List ℕ) (room : ℕ) (f : Fault) (p : ℕ) → deep_of tags group room ≡ refused f p → p ≤ 256
unfolding deep_of
write_place tags group room f p e =
    then_refused (deep_read tags group) _ f p e
    (λ a. read_place tags group f p a)
    (λ t a b. check_refused (leb (length (universal_set group t)) 65536) LongOutput _ f p b
    (λ g q z. omega arith)
    (λ g c. check_refused (leb (length (universal_set group t)) room) ShortSlice _ f p c (λ h q z. omega arith) (λ h d. absurd_number (cc))))

pub listing_place : (tags group : List ℕ) (key_room number_room : ℕ) (f : Fault) (p : ℕ) → deep_listing_of tags group key_room number_room ≡ refused f p → p ≤ 256
unfolding deep_listing_of
listing_place tags group key_room number_room f p e =
    then_refused (deep_read tags group) _ f p e
    (λ a. read_place tags group f p a)
    (λ t a b. check_refused (both (leb (16 * count_of t) key_room) (leb (3 * count_of t) number_room)) ShortSlice _ f p b (λ g q z. omega arith) (λ g c. absurd_number (cc)))
