-- Keys (01, "Keys"): which sixteen bytes are a key, and where its label ends. Key bytes count from 1, as in 01.
use Rattle.std.specs.Prelude.{ℕ, zero, suc, ◌+◌, Bool, true, false, List, [], ◌∷◌, Option, Some, None, unwrap_or, ltb, leb, eqb, length, get_or, take, drop, replicate}
use Rattle.klv.specs.Pick.{pick, both}
use Rattle.klv.specs.Bytes.{all_zero}

-- the byte lies in 01..7F
unfoldable pub in_range : ℕ → Bool
in_range b = both (leb 0x01 b) (leb b 0x7F)

-- The bytes are words: a word is bytes of 80 or more, then one below 80; its first byte is not 80, and the last word
-- ends where they do. The first word 00 ends the label, and all bytes after it are 00. `inside`: a word has begun.
unfoldable pub words : Bool → List ℕ → Bool
words true [] = false
words false [] = true
words true (b ∷ bs) = words (leb 0x80 b) bs
words false (b ∷ bs) = pick (eqb b 0x00) (all_zero bs) (pick (eqb b 0x80) false (words (leb 0x80 b) bs))

-- Sixteen bytes, and then the rows of Table 2 of BT.1563-1 in its order.
unfoldable pub is_key : List ℕ → Bool
is_key k =
    both (eqb (length k) 16)
    -- 1, OID
    (both (eqb (get_or k 0 0) 0x06)
    -- 2, UL size
    (both (eqb (get_or k 1 0) 0x0E)
    -- 3, UL code
    (both (eqb (get_or k 2 0) 0x2B)
    -- 4, SMPTE designator
    (both (eqb (get_or k 3 0) 0x34)
    -- 5, category designator
    (both (in_range (get_or k 4 0))
    -- 6, registry designator; Table 3 reserves 06 of category 02
    (both (pick (both (eqb (get_or k 4 0) 0x02) (eqb (get_or k 5 0) 0x06)) false (in_range (get_or k 5 0)))
    -- 7, structure designator
    (both (in_range (get_or k 6 0))
    -- 8, version number
    (both (in_range (get_or k 7 0))
    -- 9 to 16, item designator
    (words false (drop 8 k))))))))))

-- how many bytes stand before the first word 00
unfoldable pub before_zero : Bool → List ℕ → ℕ
before_zero inside [] = zero
before_zero true (b ∷ bs) = suc (before_zero (leb 0x80 b) bs)
before_zero false (b ∷ bs) = pick (eqb b 0x00) zero (suc (before_zero (leb 0x80 b) bs))

-- the same of a key, whose words begin with byte 9
unfoldable pub label_length : List ℕ → ℕ
label_length k = 8 + before_zero false (drop 8 k)

-- the key at the front of a list, if sixteen bytes are there
unfoldable pub key_at : List ℕ → Option (List ℕ)
key_at l = pick (ltb (length l) 16) None (Some (take 16 l))

-- the sixteen bytes there, or bytes 00 where there are fewer
unfoldable pub key_or_zeros : List ℕ → List ℕ
key_or_zeros l = unwrap_or (key_at l) (replicate 16 0x00)
