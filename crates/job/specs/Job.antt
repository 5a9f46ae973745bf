-- The job (01, "The host, the listing, the job"): from a job file to the text that is printed.
use Rattle.std.specs.Prelude.{ℕ, ◌+◌, ◌*◌, ◌≡◌, Bool, List, leb, eqb, length, take, drop, Option, Some, None}
use Rattle.klv.specs.Pick.{pick, both}
use Rattle.klv.specs.Bytes.{pasted}
use Rattle.klv.specs.Layout.{read_as}
use Rattle.klv.specs.declared.layout.Form.TheVariants.{Four}
use Rattle.groups.specs.Refusal.{Answer, ok, refused, and_then, number_of}
use Rattle.klv.specs.Compact.{value_of}
use Rattle.groups.specs.Read.{Entry, read}
use Rattle.groups.specs.Regroup.{regroup_of}
use Rattle.job.specs.Text.{ok_text, refusal_text}

-- ---- the job file

-- four bytes, most significant first
unfoldable pub number_at : List ℕ → ℕ → ℕ
number_at f at = value_of (read_as Four (drop at f))

-- pair i, counted from 0: offset and length of a part; and where the part ends
abbrev pub offset : List ℕ → ℕ → ℕ
offset f i = number_at f (8 * i)

abbrev pub size : List ℕ → ℕ → ℕ
size f i = number_at f (8 * i + 4)

abbrev pub end : List ℕ → ℕ → ℕ
end f i = offset f i + size f i

-- the offset after pair i is the end of its part
unfoldable pub follows : List ℕ → ℕ → Bool
follows f i = eqb (offset f (i + 1)) (end f i)

-- each next offset is the previous end, the last end is the file's
unfoldable pub parts_follow : List ℕ → Bool
parts_follow f = both (follows f 0) (both (follows f 1) (both (follows f 2) (eqb (end f 3) (length f))))

-- at most 65,536 bytes; four pairs; the first offset is 32
unfoldable pub job_ok : List ℕ → Bool
job_ok f = both (leb (length f) 65536) (both (leb 32 (length f)) (both (eqb (offset f 0) 32) (parts_follow f)))

-- the parts: tag table, pack table, target key, group
abbrev pub part : List ℕ → ℕ → List ℕ
part f i = take (size f i) (drop (offset f i) f)

-- ---- the answer

-- the text of an output, which is read for its items
unfoldable pub output_text : List ℕ → List ℕ → List ℕ → Answer (List ℕ)
output_text tags packs output = and_then (read tags packs output) (λ (es : List Entry). ok (ok_text output es))

-- the group regrouped into at most 65,536 bytes
unfoldable pub regroup_text : List ℕ → List ℕ → List ℕ → List ℕ → Answer (List ℕ)
regroup_text tags packs target group = and_then (regroup_of tags packs target group 65536) (output_text tags packs)

abbrev pub answer_of : List ℕ → Answer (List ℕ)
answer_of f = regroup_text (part f 0) (part f 1) (part f 2) (part f 3)

-- ---- the text

abbrev pub text_for : Answer (List ℕ) → List ℕ
text_for (ok t) = t
text_for (refused r p) = refusal_text (number_of r) p

-- a malformed job file is 16, before all else
unfoldable pub text_of : List ℕ → List ℕ
text_of f = pick (job_ok f) (text_for (answer_of f)) (refusal_text 16 0)

-- the contract of a function that prints the text t into a slice: d is the slice at entry, x at exit, r the answer
pub record Prints (t d x : List ℕ) (r : Option ℕ) : Type 0 where
  pub answer : r ≡ pick (leb (length t) (length d)) (Some (length t)) None
  pub bytes : x ≡ pick (leb (length t) (length d)) (pasted d 0 t) d
