-- Keys (01, "Keys") a second time, as sentences and not as tests. `Key` says what `is_key` of `Key.antt` tests, which the
-- law `is_key_iff` proves. Key bytes count from 1, as in 01; the index of a byte counts from 0.
use Rattle.std.specs.Prelude.{ℕ, ◌<◌, ◌≤◌, ◌≡◌, Bool, List, [], ◌∷◌, ◌++◌, leb, length, get_or, drop}

-- all bytes are 00
abbrev pub AllZero : List ℕ → Type 0
AllZero l = (i : ℕ) → i < length l → get_or l i 0 ≡ 0x00

-- bytes of 80 or more, then one below 80
pub data Word : List ℕ → Type 0 where
  last : {b : ℕ} → b < 0x80 → Word (b ∷ [])
  more : {b : ℕ} {w : List ℕ} → 0x80 ≤ b → Word w → Word (b ∷ w)

-- a word of a label: its first byte is not 80, and it is not the word 00
pub record LabelWord (w : List ℕ) : Type 0 where
  pub is_word : Word w
  pub not_80 : get_or w 0 0 ≡ 0x80 → ⊥
  pub not_00 : w ≡ 0x00 ∷ [] → ⊥

-- words up to the end, or up to the first word 00, after which all bytes are 00
pub data Label : List ℕ → Type 0 where
  full : Label []
  ended : {bs : List ℕ} → AllZero bs → Label (0x00 ∷ bs)
  word : {w rest : List ℕ} → LabelWord w → Label rest → Label (w ++ rest)

-- the byte lies in 01..7F
abbrev pub Ranged : ℕ → Type 0
Ranged b = (0x01 ≤ b) × (b ≤ 0x7F)

-- sixteen bytes that are a key: the rows of Table 2 of BT.1563-1 in its order
pub record Key (k : List ℕ) : Type 0 where
  pub size : length k ≡ 16
  -- 1, OID
  pub byte_1 : get_or k 0 0 ≡ 0x06
  -- 2, UL size
  pub byte_2 : get_or k 1 0 ≡ 0x0E
  -- 3, UL code
  pub byte_3 : get_or k 2 0 ≡ 0x2B
  -- 4, SMPTE designator
  pub byte_4 : get_or k 3 0 ≡ 0x34
  -- 5, category designator
  pub byte_5 : Ranged (get_or k 4 0)
  -- 6, registry designator; Table 3 reserves 06 of category 02
  pub byte_6 : Ranged (get_or k 5 0) × (get_or k 4 0 ≡ 0x02 → get_or k 5 0 ≡ 0x06 → ⊥)
  -- 7, structure designator
  pub byte_7 : Ranged (get_or k 6 0)
  -- 8, version number
  pub byte_8 : Ranged (get_or k 7 0)
  -- 9 to 16, item designator
  pub bytes_9_to_16 : Label (drop 8 k)

-- whether a word is open after the bytes, where `inside` says it of the place before them
unfoldable pub inside_after : Bool → List ℕ → Bool
inside_after inside [] = inside
inside_after inside (b ∷ bs) = inside_after (leb 0x80 b) bs
