-- The key of a set with byte 6 made 01 is the key of a universal set.
use mathlib.Core.Path.{◌≡◌, refl, sym, ◌∙◌}
use mathlib.Core.Bool.{true, false≢true}
use mathlib.Core.List.{List}
use Prim.Native.Nat.{ℕ}
use native.Mathlib.Omega.{arith}
use lib.ListN.{length, get_or, length-set}
use lib.Seq.{get_or-set_same, get_or-set_other, drop-set-lt, set-set}
use Rattle.klv.specs.Key.{is_key}
use Rattle.klv.proofs.KeyLaws.{is_key_iff}
use Rattle.groups.specs.declared.kind.Kind.{Kind}
use Rattle.groups.specs.declared.kind.Kind.TheVariants.{Universal, Global, Local, Variable, Defined, NoGroup}
use Rattle.groups.specs.Kind.{kind_of, kind_of_byte, is_group}
use Rattle.groups.proofs.kind.KindLaws.{group_told}
use Rattle.deep.specs.Tree.{opens}
use Rattle.deep.specs.Deep.{as_universal}

-- kinds that are opened are groups
pub opens_group : (d : Kind) → opens d ≡ true → is_group d ≡ true
opens_group Universal e = refl
opens_group (Global y) e = absurd (false≢true e)
opens_group (Local t y) e = refl
opens_group (Variable y) e = absurd (false≢true e)
opens_group Defined e = absurd (false≢true e)
opens_group NoGroup e = absurd (false≢true e)

-- ---- byte 6 made 01

-- byte j other than byte 6 stays
other : (k : List ℕ) (j : ℕ) → (j ≡ 5 → ⊥) → get_or (as_universal k) j 0 ≡ get_or k j 0
other k j h = get_or-set_other k 5 j 1 0 h

-- a key stays a key
pub universal_key_law : (k : List ℕ) → is_key k ≡ true → is_key (as_universal k) ≡ true
universal_key_law k e =
    let p = (is_key_iff k).0 e in
    let n : length k ≡ 16 = p.size in
    let s : get_or (as_universal k) 5 0 ≡ 1 = get_or-set_same k 5 1 0 (omega arith) in
    (is_key_iff (as_universal k)).1
    (record {
      size = length-set k 5 1 ∙ p.size;
      byte_1 = other k 0 (λ q. omega arith) ∙ p.byte_1;
      byte_2 = other k 1 (λ q. omega arith) ∙ p.byte_2;
      byte_3 = other k 2 (λ q. omega arith) ∙ p.byte_3;
      byte_4 = other k 3 (λ q. omega arith) ∙ p.byte_4;
      byte_5 = rw (other k 4 (λ q. omega arith)) p.byte_5;
      byte_6 = (rw s (omega arith, omega arith), λ a b. let z : 1 ≡ 6 = sym s ∙ b in omega arith);
      byte_7 = rw (other k 6 (λ q. omega arith)) p.byte_7;
      byte_8 = rw (other k 7 (λ q. omega arith)) p.byte_8;
      bytes_9_to_16 = rw (drop-set-lt 8 k 5 1 (omega arith)) p.bytes_9_to_16;
    })

-- byte 6 = 01 of a key with byte 5 = 02 is a universal set
kind_one : (k : List ℕ) → is_key k ≡ true → get_or k 4 0 ≡ 0x02 → get_or k 5 0 ≡ 0x01 → kind_of k ≡ Universal
unfolding kind_of kind_of_byte
kind_one k e f g = rw (e, f, g)

-- the key of a set becomes the key of a universal set
pub universal_kind : (k : List ℕ) → opens (kind_of k) ≡ true → kind_of (as_universal k) ≡ Universal
universal_kind k o =
    let p = group_told k (kind_of k) refl (opens_group (kind_of k) o) in
    let n : length k ≡ 16 = ((is_key_iff k).0 p.0).size in
    kind_one (as_universal k) (universal_key_law k p.0) (other k 4 (λ q. omega arith) ∙ p.1) (get_or-set_same k 5 1 0 (omega arith))

-- a set's key is a key
pub opens_key : (k : List ℕ) → opens (kind_of k) ≡ true → is_key k ≡ true
opens_key k o = (group_told k (kind_of k) refl (opens_group (kind_of k) o)).0

-- byte 6 made 01 twice
pub universal_twice : (k : List ℕ) → as_universal (as_universal k) ≡ as_universal k
universal_twice k = set-set k 5 1 1
