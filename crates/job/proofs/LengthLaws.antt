-- No text is longer than 142,606 bytes: 13 for the first line, 45 for each of 256 items, 131,073 for an output of 65,536.
use mathlib.Core.Path.{◌≡◌, refl, sym, ap, ◌∙◌, subst}
use mathlib.Core.Bool.{true}
use mathlib.Core.List.{List, [], ◌∷◌, ◌++◌}
use Prim.Native.Nat.{ℕ, zero, suc, ◌+◌, ◌*◌, ◌^◌, ◌<◌, ◌≤◌}
use native.Mathlib.Omega.{arith}
use lib.Dec.{leb}
use lib.ListN.{length, drop, take, length-append, length-drop}
use borrow.Author.Tests.{le-leb}
use Rattle.std.specs.Prelude.{Option, Some}
use Rattle.klv.specs.Layout.{read_as}
use Rattle.klv.specs.declared.layout.Form.TheVariants.{Ber}
use Rattle.klv.proofs.Cases.{pick_cases}
use Rattle.klv.proofs.Fewest.{fewest_least}
use Rattle.klv.proofs.KeyLaws.{key_size}
use Rattle.klv.proofs.LayoutLaws.{read_within}
use Rattle.groups.specs.Refusal.{Answer, ok, refused, number_of}
use Rattle.groups.specs.Read.{Entry, Under, ended, cons, items, size, read_item, read_items, under, most, read}
use Rattle.groups.specs.Listing.{width_of, start}
use Rattle.groups.specs.Regroup.{regroup_of}
use Rattle.groups.proofs.regroup.AnswerLaws.{not_ok, ok_same, then_ok, cons_ok}
use Rattle.groups.proofs.item.EntryStands.{item_stands}
use Rattle.groups.proofs.item.GoodItems.{AllKeys}
use Rattle.groups.proofs.read.ReadGood.{body_told, read_told, read_good}
use Rattle.job.specs.Text.{decimal, hex, ok_word, refusal_text, item_lines, ok_text}
use Rattle.job.specs.Job.{job_ok, answer_of, part, output_text, regroup_text, text_for, text_of, Prints}
use Rattle.job.specs.Held.{numbers, head_line, output_line}
use Rattle.job.proofs.DigitFacts.{length_decimal, length_hex}
use Rattle.job.proofs.JobFacts.{lines_more, lines_none, ok_is}
use Rattle.job.proofs.LineFacts.{length_numbers, numbers_most, head_size, output_size}
use Rattle.job.proofs.PrintFacts.{refusal_size}

-- ---- numbers

decimal_few : (k n : ℕ) → 0 < k → n < 10 ^ k → length (decimal n) ≤ k
decimal_few k n h l = rw (length_decimal n) (fewest_least 10 20 k n (omega arith) h l)

decimal_five : (n : ℕ) → n ≤ 65536 → length (decimal n) ≤ 5
decimal_five n h = decimal_few 5 n (omega arith) (omega arith)

numbers_few : (a b : ℕ) → a ≤ 65536 → b ≤ 65536 → length (numbers a b) ≤ 13
numbers_few a b h k = omega (arith, length_numbers a b, decimal_five a h, decimal_five b k)

-- ---- the lines of items

line_few : (at : ℕ) (e : Entry) (es : List Entry) → length e.key ≡ 16 → at + size e ≤ 65536 → length (item_lines at (e ∷ es)) ≤ 45 + length (item_lines (at + size e) es)
line_few at e es k h =
    let n : List ℕ = numbers (at + e.label + e.width) (length e.value) in
    let a : length (item_lines at (e ∷ es)) ≡ length (hex e.key) + length n + length (item_lines (at + size e) es) =
    ap length (lines_more at e es) ∙ length-append (hex e.key ++ n) (item_lines (at + size e) es) ∙ rw (length-append (hex e.key) n) in
    omega (arith, a, length_hex e.key, k, numbers_few (at + e.label + e.width) (length e.value) (omega arith) (omega arith))

none_few : (at : ℕ) (es : List Entry) → ok [] ≡ ok es → length (item_lines at es) ≤ 45 * length es
none_few at es e = subst (λ (x : List Entry). length (item_lines at x) ≤ 45 * length x) (ok_same [] es e) (rw (lines_none at) (omega arith))

lines_few : (u : Under) (left place : ℕ) (l : List ℕ) (es : List Entry) (at : ℕ) → read_items u left place l ≡ ok es → AllKeys (items es) → at + length l ≤ 65536
    → length (item_lines at es) ≤ 45 * length es
unfolding read_items
lines_few u zero place [] es at e k h = none_few at es e
lines_few u zero place (b ∷ bs) es at e k h = not_ok _ place es e
lines_few u (suc left) place l es at e k h =
    pick_cases (ended u l) (ok []) _ (ok es) e
    (λ t q. none_few at es q)
    (λ t q.
    let m = then_ok (read_item u place l) (λ (x : Entry). cons x (read_items u left (suc place) (drop (size x) l))) es q in
    let x : Entry = m.0 in
    let c = cons_ok x (read_items u left (suc place) (drop (size x) l)) es m.2 in
    let k' : AllKeys (items (x ∷ c.0)) = subst (λ (z : List Entry). AllKeys (items z)) c.2 k in
    let s : size x ≤ length l = (item_stands u place l x m.1).lies in
    let r : length (item_lines (at + size x) c.0) ≤ 45 * length c.0 =
    lines_few u left (suc place) (drop (size x) l) c.0 (at + size x) c.1 k'.1 (simp length-drop (omega arith)) in
    subst (λ (z : List Entry). length (item_lines at z) ≤ 45 * length z) (sym c.2)
    (omega (arith, r, line_few at x c.0 (key_size x.key k'.0) (omega arith))))

-- ---- a text

start_is : (w : List ℕ) → start w ≡ 16 + width_of (read_as Ber (drop 16 w))
unfolding start
start_is w = refl

ok_few : (tags packs w : List ℕ) (es : List Entry) → read tags packs w ≡ ok es → length (ok_text w es) ≤ 142606
ok_few tags packs w es e =
    let t = read_told tags packs w es e in
    let small : length w ≤ 65536 = t.small in
    let g = read_good tags packs w es e in
    let few : length es ≤ 256 = g.1 in
    let b = body_told tags packs w es t.body in
    let in-l = read_within Ber (drop 16 w) b.count b.width b.outer in
    let st : start w ≡ 16 + b.width = start_is w ∙ ap (λ (x : ℕ). 16 + x) (ap width_of b.outer) in
    let lines : length (item_lines (start w) es) ≤ 45 * length es =
    lines_few (under (take 16 w) tags packs) (most (under (take 16 w) tags packs)) 0 (drop b.width (drop 16 w)) es (start w) b.reads g.0
    (simp (length-drop, length-drop) (omega (arith, in-l.0, in-l.1, length-drop 16 w, st))) in
    let three : length (decimal (length es)) ≤ 3 = decimal_few 3 (length es) (omega arith) (omega arith) in
    let whole : length (ok_text w es) ≡ 2 + length (numbers (length es) (length w)) + (length (item_lines (start w) es) + (2 * length w + 1)) =
    ap length (ok_is w es)
    ∙ length-append (head_line ok_word (length es) (length w)) (item_lines (start w) es ++ output_line w)
    ∙ rw (length-append (item_lines (start w) es) (output_line w), head_size ok_word (length es) (length w), output_size w, length_hex w) in
    omega (arith, whole, length_numbers (length es) (length w), three, decimal_five (length w) small, lines)

refusal_few : (n p : ℕ) → length (refusal_text n p) ≤ 142606
refusal_few n p = omega (arith, refusal_size n p, numbers_most n p)

answer_few : (a : Answer (List ℕ)) → ((t : List ℕ) → a ≡ ok t → length t ≤ 142606) → length (text_for a) ≤ 142606
answer_few (ok t) f = f t refl
answer_few (refused r p) f = refusal_few (number_of r) p

regrouped_few : (tags packs target group t : List ℕ) → regroup_text tags packs target group ≡ ok t → length t ≤ 142606
unfolding regroup_text output_text
regrouped_few tags packs target group t e =
    let a = then_ok (regroup_of tags packs target group 65536) (output_text tags packs) t e in
    let b = then_ok (read tags packs a.0) (λ (es : List Entry). ok (ok_text a.0 es)) t a.2 in
    subst (λ (x : List ℕ). length x ≤ 142606) (ok_same (ok_text a.0 b.0) t b.2) (ok_few tags packs a.0 b.0 b.1)

pub text_most : (f : List ℕ) → length (text_of f) ≤ 142606
unfolding text_of
text_most f =
    pick_cases (job_ok f) (text_for (answer_of f)) (refusal_text 16 0) (text_of f) refl
    (λ t e. subst (λ (x : List ℕ). length x ≤ 142606) e (answer_few (answer_of f) (λ x q. regrouped_few (part f 0) (part f 1) (part f 2) (part f 3) x q)))
    (λ t e. subst (λ (x : List ℕ). length x ≤ 142606) e (refusal_few 16 0))

-- a slice of so many bytes is never too short
pub never_short : (f d x : List ℕ) (r : Option ℕ) → length d ≡ 142606 → Prints (text_of f) d x r → r ≡ Some (length (text_of f))
never_short f d x r l p =
    let e : leb (length (text_of f)) (length d) ≡ true = le-leb (length (text_of f)) (length d) (omega (arith, text_most f)) in
    rw e at p.answer
