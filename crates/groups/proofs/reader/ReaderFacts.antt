-- `reader`: where the next item begins, each fact in the shape of its need.
use mathlib.Core.Path.{◌≡◌, refl}
use mathlib.Core.List.{List}
use Prim.Native.Nat.{ℕ, ◌+◌, ◌^◌, ◌<◌, ◌≤◌}
use native.Mathlib.Omega.{arith}
use mir.Val.{Fits}
use mir.Syntax.{w64}
use lib.ListN.{length, drop, length-drop}
use Rattle.std.specs.Prelude.{Result, Ok, Err}
use Rattle.klv.proofs.Cases.{absurd_number}
use Rattle.groups.specs.declared.item.Item.{Item}
use Rattle.groups.specs.declared.refusal.Refusal.{Refusal}
use Rattle.groups.specs.Refusal.{Answer, ok, refused}
use Rattle.groups.specs.Read.{Entry, Under, head_of, read_item}
use Rattle.groups.specs.Reader.{next_offset, offset_after}
use Rattle.groups.proofs.item.EntryLaws.{entry_within}

pub next_is : (at : ℕ) (i : Item) → at + i.label + i.width + i.length ≡ next_offset at i
unfolding next_offset
next_is at i = refl

pub label_in : (at : ℕ) (i : Item) → next_offset at i < 2 ^ 64 → Fits w64 (at + i.label)
label_in at i h = omega (arith, next_is at i)

pub width_in_law : (at : ℕ) (i : Item) → next_offset at i < 2 ^ 64 → Fits w64 (at + i.label + i.width)
width_in_law at i h = omega (arith, next_is at i)

pub value_in : (at : ℕ) (i : Item) → next_offset at i < 2 ^ 64 → Fits w64 (at + i.label + i.width + i.length)
value_in at i h = omega (arith, next_is at i)

-- an item by value tells the entry
pub head_told : {P : Type 0} (x : Answer Entry) (i : Item) → head_of x ≡ Ok i → ((e : Entry) → x ≡ ok e → i ≡ record { label = e.label; width = e.width; length = length e.value; key = e.key } → P) → P
head_told (ok e) i h f = f e refl (cc)
head_told (refused r p) i h f = absurd_number (cc)

-- an item ends within the bytes
pub past_within : (u : Under) (place at : ℕ) (s : List ℕ) (i : Item) → head_of (read_item u place (drop at s)) ≡ Ok i → at ≤ length s → next_offset at i ≤ length s
unfolding next_offset
past_within u place at s i q h =
    head_told (read_item u place (drop at s)) i q
    (λ e r z. rw z (omega (arith, entry_within u place (drop at s) e r, length-drop at s)))

pub past_small : (u : Under) (place at : ℕ) (s : List ℕ) (i : Item) → head_of (read_item u place (drop at s)) ≡ Ok i → at ≤ length s → length s < 2 ^ 64 → next_offset at i < 2 ^ 64
past_small u place at s i q h l = omega (arith, past_within u place at s i q h)

-- where there is no item, the offset stays
pub next_stays : (at : ℕ) (x : Result Item Refusal) (why : Refusal) → x ≡ Err why → at ≡ offset_after at x
unfolding offset_after
next_stays at x why e = rw e

answer_within : (u : Under) (place at : ℕ) (s : List ℕ) (x : Result Item Refusal) → head_of (read_item u place (drop at s)) ≡ x → at ≤ length s → offset_after at x ≤ length s
unfolding offset_after
answer_within u place at s (Ok i) q h = past_within u place at s i q h
answer_within u place at s (Err why) q h = h

-- whatever the answer, the next item begins within the bytes
pub next_within : (u : Under) (place at : ℕ) (s : List ℕ) → at ≤ length s → offset_after at (head_of (read_item u place (drop at s))) ≤ length s
next_within u place at s h = answer_within u place at s (head_of (read_item u place (drop at s))) refl h

pub next_small : (u : Under) (place at : ℕ) (s : List ℕ) (x : Result Item Refusal) → x ≡ head_of (read_item u place (drop at s)) → at ≤ length s → length s < 2 ^ 64 → offset_after at x < 2 ^ 64
next_small u place at s x e h l = rw e (omega (arith, next_within u place at s h))
