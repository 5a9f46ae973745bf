-- The text from a listing that an array of keys and one of records hold, a record being three numbers: offset, length and
-- depth. This is what the printing functions measure and write; the depth is not printed.
use Rattle.std.specs.Prelude.{ℕ, zero, suc, ◌+◌, ◌*◌, ◌≤◌, ◌≡◌, List, [], ◌∷◌, ◌++◌, length, get_or, take, drop}
use Rattle.job.specs.Text.{decimal, hex, ok_word}
use Rattle.job.specs.Job.{number_at}

-- a number of the job file by value
pub record NumberAt (f : List ℕ) (at r : ℕ) : Type 0 where
  pub is : r ≡ number_at f at
  pub small : r ≤ 0xFFFF_FFFF

-- a space and a number
abbrev pub field : ℕ → List ℕ
field n = 0x20 ∷ decimal n

-- the end of a line: two numbers
unfoldable pub numbers : ℕ → ℕ → List ℕ
numbers a b = field a ++ (field b ++ (0x0A ∷ []))

-- the first line: a word and two numbers
unfoldable pub head_line : List ℕ → ℕ → ℕ → List ℕ
head_line word a b = word ++ numbers a b

-- the line of item i
unfoldable pub held_line : List ℕ → List ℕ → ℕ → List ℕ
held_line keys records i = hex (take 16 (drop (16 * i) keys)) ++ numbers (get_or records (3 * i) 0) (get_or records (3 * i + 1) 0)

-- the lines of n items, the first of them item i
unfoldable pub held_lines : ℕ → ℕ → List ℕ → List ℕ → List ℕ
held_lines zero i keys records = []
held_lines (suc n) i keys records = held_line keys records i ++ held_lines n (i + 1) keys records

-- how many bytes they take
unfoldable pub line_length : List ℕ → ℕ → ℕ
line_length records i = 32 + length (numbers (get_or records (3 * i) 0) (get_or records (3 * i + 1) 0))

unfoldable pub lines_length : ℕ → ℕ → List ℕ → ℕ
lines_length zero i records = 0
lines_length (suc n) i records = line_length records i + lines_length n (i + 1) records

-- the last line
unfoldable pub output_line : List ℕ → List ℕ
output_line output = hex output ++ (0x0A ∷ [])

-- the whole text
unfoldable pub held_text : List ℕ → ℕ → List ℕ → List ℕ → List ℕ
held_text output n keys records = head_line ok_word n (length output) ++ (held_lines n 0 keys records ++ output_line output)
