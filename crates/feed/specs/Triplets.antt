-- Triplets (02, point 4): any sixteen key bytes, a BER length, and as many bytes.
use Rattle.std.specs.Prelude.{Some, None, ℕ, zero, suc, ◌+◌, List, [], ◌∷◌, ◌++◌, ltb, length, take, drop}
use Rattle.std.specs.Prelude as std
use Rattle.std.proofs.Math.Option.{Option, none, some}
use Rattle.klv.specs.Pick.{pick}
use Rattle.klv.specs.Layout.{read_as}
use Rattle.klv.specs.declared.layout.Form.TheVariants.{Ber}
use Rattle.groups.specs.Span.{within}
use Rattle.groups.specs.declared.span.Span.{Span}

-- the bytes of a span with a key before it
abbrev pub with_key : std.Option Span → Option ℕ
with_key (Some span) = some (16 + span.width + span.length)
with_key None = none

-- how many bytes the triplet at the front of a list has: none where key or length is cut off, the length is malformed or
-- the value is longer than what is left
unfoldable pub triplet_size : List ℕ → Option ℕ
triplet_size l = pick (ltb (length l) 16) none (with_key (within (length (drop 16 l)) (read_as Ber (drop 16 l))))

-- the triplets of a feed; or the index of the first that is none
pub data Split : Type 0 where
  whole : List (List ℕ) → Split
  broken : ℕ → Split

abbrev pub before : List ℕ → Split → Split
before t (whole ts) = whole (t ∷ ts)
before t (broken i) = broken i

abbrev pub next : ℕ → List ℕ → Option ℕ → (ℕ → Split) → Split
next index l none go = broken index
next index l (some n) go = before (take n l) (go n)

-- the next at `index`; `most` is no less than the bytes that are left, and each triplet has some
unfoldable pub split : ℕ → ℕ → List ℕ → Split
split zero index l = whole []
split (suc most) index [] = whole []
split (suc most) index (b ∷ bs) = next index (b ∷ bs) (triplet_size (b ∷ bs)) (λ (n : ℕ). split most (suc index) (drop n (b ∷ bs)))

abbrev pub triplets : List ℕ → Split
triplets feed = split (length feed) 0 feed

-- lists of bytes, one after the other
unfoldable pub joined : List (List ℕ) → List ℕ
joined [] = []
joined (t ∷ ts) = t ++ joined ts
