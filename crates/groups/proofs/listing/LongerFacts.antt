-- Module `listing`: how many items had a longer BER form than needed; each fact in the shape of its need.
use mathlib.Core.Path.{◌≡◌, refl, sym, ap, ◌∙◌}
use mathlib.Core.Bool.{Bool, true, false}
use mathlib.Core.List.{List, [], ◌∷◌, ◌++◌}
use Prim.Native.Nat.{ℕ, zero, suc, ◌+◌, ◌*◌, ◌≤◌}
use native.Mathlib.Omega.{arith}
use lib.ListN.{length, get_or, take, drop}
use lib.Seq.{drop-drop, get_or-drop}
use Rattle.std.specs.List.{filter, range_with_len}
use Rattle.klv.specs.Ber.{longer}
use Rattle.klv.specs.Bytes.{pasted}
use Rattle.klv.specs.Pick.{pick}
use Rattle.klv.proofs.Cases.{test_cases}
use Rattle.klv.proofs.Paste.{pasted_is}
use Rattle.groups.specs.declared.kind.Kind.{Kind}
use Rattle.groups.specs.declared.root.Group.{Group}
use Rattle.groups.specs.Kind.{kind_of}
use Rattle.groups.specs.Root.{group_of}
use Rattle.groups.specs.Span.{ber_lengths}
use Rattle.groups.specs.Read.{Entry, size}
use Rattle.groups.specs.Listing.{longer_items}
use Rattle.groups.specs.Slots.{held_size, held_width, longer_slots, slots_from}

-- ---- one slot

abbrev is_one : List ℕ → ℕ → ℕ
is_one slots i = pick (longer (held_size slots i) (held_width slots i)) 1 0

-- ---- n slots, one after another

slots_more : (n i : ℕ) (slots : List ℕ) → longer_slots (suc n) (drop (4 * i) slots) ≡ is_one slots i + longer_slots n (drop (4 * (i + 1)) slots)
unfolding longer_slots
slots_more n i slots =
    let a : get_or (drop (4 * i) slots) 1 0 ≡ held_size slots i = get_or-drop (4 * i) slots 1 0 in
    let b : get_or (drop (4 * i) slots) 2 0 ≡ held_width slots i = get_or-drop (4 * i) slots 2 0 in
    let z : 4 * i + 4 ≡ 4 * (i + 1) = omega arith in
    rw (a, b, drop-drop 4 (4 * i) slots, z)

-- an item counts once at most
pub one_most : (t : Bool) → pick t 1 0 ≤ 1
one_most true = omega arith
one_most false = omega arith

-- the items with a longer form, as a filter gives them
counted_from : (n i : ℕ) (slots : List ℕ) → length (filter (λ (j : ℕ). longer (held_size slots j) (held_width slots j)) (range_with_len i n)) ≡ longer_slots n (drop (4 * i) slots)
unfolding longer_slots
counted_from zero i slots = refl
counted_from (suc n) i slots =
    let r : length (filter (λ (j : ℕ). longer (held_size slots j) (held_width slots j)) (range_with_len (i + 1) n)) ≡ longer_slots n (drop (4 * (i + 1)) slots) = counted_from n (i + 1) slots in
    test_cases (longer (held_size slots i) (held_width slots i))
    (λ t. rw (slots_more n i slots, t) (omega arith))
    (λ t. rw (slots_more n i slots, t) (omega arith))

pub counted : (n c : ℕ) (slots : List ℕ) → c ≡ length (filter (λ (j : ℕ). longer (held_size slots j) (held_width slots j)) (range_with_len 0 n)) → c ≡ longer_slots n slots
counted n c slots e = e ∙ counted_from n 0 slots

-- ---- the slots of entries

held_longer : (kind : Kind) (at : ℕ) (es : List Entry) (r : List ℕ) → ber_lengths kind ≡ true → longer_slots (length es) (slots_from at es ++ r) ≡ length (longer_items kind es)
unfolding longer_slots longer_items slots_from
held_longer kind at [] r h = refl
held_longer kind at (e ∷ es) r h =
    let i : longer_slots (length es) (slots_from (at + size e) es ++ r) ≡ length (longer_items kind es) = held_longer kind (at + size e) es r h in
    test_cases (longer (length e.value) e.width) (λ t. rw (h, t, i) (omega arith)) (λ t. rw (h, t, i) (omega arith))

-- lengths that are not BER have no longer form
pub none_longer : (kind : Kind) (es : List Entry) → ber_lengths kind ≡ false → longer_items kind es ≡ []
unfolding longer_items
none_longer kind [] h = refl
none_longer kind (e ∷ es) h = rw h (none_longer kind es h)

-- how many of the entries that the slots hold had a longer form
pub longer_counted : (kind : Kind) (at n : ℕ) (es : List Entry) (x d : List ℕ) → length es ≡ n → x ≡ pasted d 0 (slots_from at es)
    → pick (ber_lengths kind) (longer_slots n x) 0 ≡ length (longer_items kind es)
longer_counted kind at n es x d l e =
    let f : x ≡ slots_from at es ++ drop (0 + length (slots_from at es)) d = e ∙ pasted_is d 0 (slots_from at es) in
    test_cases (ber_lengths kind)
    (λ t. rw (t, ← l, f) (held_longer kind at es (drop (0 + length (slots_from at es)) d) t))
    (λ t. rw (t, none_longer kind es t))

-- ---- the items of a group

pub kind_longer : (s : List ℕ) (g : Group) (ber : Bool) (n c : ℕ) (slots : List ℕ) → g ≡ group_of (take 16 s) → ber ≡ ber_lengths g.kind → ber ≡ true → c ≡ longer_slots n slots
    → c ≡ pick (ber_lengths (kind_of (take 16 s))) (longer_slots n slots) 0
unfolding group_of
kind_longer s g ber n c slots e f t h = rw (sym (f ∙ ap (λ (x : Group). ber_lengths x.kind) e) ∙ t) h

pub kind_fixed : (s : List ℕ) (g : Group) (ber : Bool) (n : ℕ) (slots : List ℕ) → g ≡ group_of (take 16 s) → ber ≡ ber_lengths g.kind → ber ≡ false
    → ◌≡◌ {A = ℕ} 0 (pick (ber_lengths (kind_of (take 16 s))) (longer_slots n slots) 0)
unfolding group_of
kind_fixed s g ber n slots e f t = rw (sym (f ∙ ap (λ (x : Group). ber_lengths x.kind) e) ∙ t)
