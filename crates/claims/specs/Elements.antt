-- The elements of packs (02, point 5), by what stands in the length column of the record at their place.
use Rattle.std.specs.Prelude.{ℕ, ◌≤◌, ◌≡◌, List, ◌++◌, ◌↔◌, length, take}
use Rattle.std.proofs.Math.Option.{some}
use Rattle.groups.specs.declared.kind.Kind.TheVariants.{Defined}
use Rattle.groups.specs.Tables.{Table}
use Rattle.groups.specs.Span.{spanned, read_span, write_span}
use Rattle.groups.specs.SpanText.{Triplet}

-- an element of a defined-length pack; w bytes stand before its value, which has m
pub record Elements (packs : Table) (place : ℕ) : Type 0 where
  -- FF FF FF FF: the element is one whole triplet at the front of what is left, and its value is all of it
  pub measured_read : (packs.row place).number ≡ 0xFFFF_FFFF → (l : List ℕ) (w m : ℕ) → (read_span Defined packs place l ≡ spanned w m) ↔ ((w ≡ 0) × Triplet l m)
  -- it is written from a value that is one whole triplet, and no more, as it stands
  pub measured_written : (packs.row place).number ≡ 0xFFFF_FFFF → (v b : List ℕ) → (write_span Defined packs place v ≡ some b) ↔ ((b ≡ v) × Triplet v (length v))
  -- every other length is constant
  pub constant_read : ((packs.row place).number ≡ 0xFFFF_FFFF → ⊥) → (l : List ℕ) (w m : ℕ)
      → (read_span Defined packs place l ≡ spanned w m) ↔ ((w ≡ 0) × (m ≡ (packs.row place).number) × (m ≤ length l))
  pub constant_written : ((packs.row place).number ≡ 0xFFFF_FFFF → ⊥) → (v b : List ℕ) → (write_span Defined packs place v ≡ some b) ↔ ((b ≡ v) × (length v ≡ (packs.row place).number))
  -- an element that is read from its own bytes is read from them whatever follows
  pub goes_on : (v rest : List ℕ) (w : ℕ) → read_span Defined packs place v ≡ spanned w (length v) → read_span Defined packs place (v ++ rest) ≡ spanned 0 (length v)
  -- an element that is read is written as it stood: 13 never comes at its place
  pub kept : (l : List ℕ) (w m : ℕ) → read_span Defined packs place l ≡ spanned w m → write_span Defined packs place (take m l) ≡ some (take m l)

-- two pack tables that differ in the length column alone
pub record SameKeys (p q : Table) : Type 0 where
  pub count : p.count ≡ q.count
  pub keys : (i : ℕ) → (p.row i).key ≡ (q.row i).key
