-- What the answer of a write tells: it was done, the value is too large, or there is no room.
use mathlib.Core.Path.{◌≡◌, sym}
use Prim.Native.Nat.{ℕ, ◌+◌, ◌<◌, ◌≤◌}
use lib.Dec.{leb}
use lib.ListN.{length}
use borrow.Author.Tests.{leb-true, leb-false}
use Rattle.klv.specs.Layout.{written, largest_of, writing}
use Rattle.klv.specs.declared.layout.Form.{Form}
use Rattle.klv.specs.declared.layout.WriteError.TheVariants.{TooLarge, NoRoom}
use Rattle.std.specs.Prelude.{Ok, Err}
use Rattle.klv.proofs.Cases.{pick_cases, absurd_number}

-- it was done: the value fits, and the position is after it
pub next_told : (f : Form) (at n room end : ℕ) → writing f at n room ≡ Ok end → (n ≤ largest_of f) × (end ≡ at + length (written f n))
unfolding writing
next_told f at n room end e =
    pick_cases (leb n (largest_of f)) _ _ (Ok end) e
    (λ t g. pick_cases (leb (at + length (written f n)) room) _ _ (Ok end) g
    (λ u h. (leb-true n (largest_of f) t, (let q : at + length (written f n) ≡ end = cc in sym q)))
    (λ u h. absurd_number (cc)))
    (λ t g. absurd_number (cc))

-- and its bytes had room
pub next_room : (f : Form) (at n room end : ℕ) → writing f at n room ≡ Ok end → at + length (written f n) ≤ room
unfolding writing
next_room f at n room end e =
    pick_cases (leb n (largest_of f)) _ _ (Ok end) e
    (λ t g. pick_cases (leb (at + length (written f n)) room) _ _ (Ok end) g
    (λ u h. leb-true (at + length (written f n)) room u)
    (λ u h. absurd_number (cc)))
    (λ t g. absurd_number (cc))

-- the value is larger than the largest
pub large_told : (f : Form) (at n room : ℕ) → writing f at n room ≡ Err TooLarge → largest_of f < n
unfolding writing
large_told f at n room e =
    pick_cases (leb n (largest_of f)) _ _ (Err TooLarge) e
    (λ t g. pick_cases (leb (at + length (written f n)) room) _ _ (Err TooLarge) g (λ u h. absurd_number (cc)) (λ u h. absurd_number (cc)))
    (λ t g. leb-false n (largest_of f) t)

-- the value fits, and its bytes do not
pub no_room_told : (f : Form) (at n room : ℕ) → writing f at n room ≡ Err NoRoom → (n ≤ largest_of f) × (room < at + length (written f n))
unfolding writing
no_room_told f at n room e =
    pick_cases (leb n (largest_of f)) _ _ (Err NoRoom) e
    (λ t g. pick_cases (leb (at + length (written f n)) room) _ _ (Err NoRoom) g
    (λ u h. absurd_number (cc))
    (λ u h. (leb-true n (largest_of f) t, leb-false (at + length (written f n)) room u)))
    (λ t g. absurd_number (cc))
