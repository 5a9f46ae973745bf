-- `print::print_output` and `print_job`: each fact in the shape of its need.
use mathlib.Core.Path.{◌≡◌, refl, sym, ap, ◌∙◌, subst}
use mathlib.Core.List.{List, [], ◌∷◌, ◌++◌, append_assoc}
use Prim.Native.Nat.{ℕ, ◌+◌, ◌*◌, ◌≤◌}
use native.Mathlib.Omega.{arith}
use lib.Dec.{leb}
use lib.ListN.{length, get_or, take, drop, replicate, length-replicate}
use lib.Seq.{length-take-le, take_at, drop_at, drop-drop, get_or-drop}
use borrow.Author.Tests.{le-leb}
use Rattle.std.specs.Prelude.{Option, Result, Ok, Err}
use Rattle.klv.specs.Pick.{both}
use Rattle.klv.proofs.Cases.{absurd_number}
use Rattle.klv.proofs.KeyLaws.{key_size}
use Rattle.klv.proofs.Paste.{pasted_is}
use Rattle.groups.specs.declared.kind.Kind.{Kind}
use Rattle.groups.specs.declared.listing.Listed.{Listed}
use Rattle.groups.specs.declared.refusal.Refusal.{Refusal}
use Rattle.groups.specs.declared.refusal.Refused.{Refused}
use Rattle.groups.specs.declared.refusal.Refusal.TheVariants.{ShortSlice}
use Rattle.groups.specs.Refusal.{Answer, ok, refused, and_then, check, number_of}
use Rattle.groups.specs.Kind.{kind_of}
use Rattle.groups.specs.Read.{Entry, read, items, size}
use Rattle.groups.specs.Listing.{keys_of, numbers_from, listed, start, listing_of, Lists}
use Rattle.groups.specs.Regroup.{regrouped, regroup_of, Regroups}
use Rattle.groups.proofs.regroup.Accepted.{accepted_told}
use Rattle.groups.proofs.item.GoodItems.{AllKeys}
use Rattle.groups.proofs.listing.ListingFacts.{listed_told, unlisted_told}
use Rattle.groups.proofs.read.ReadGood.{read_good, read_told}
use Rattle.job.specs.Text.{hex, item_lines, ok_text, ok_word, refusal_text}
use Rattle.job.specs.Job.{output_text, regroup_text, text_for, Prints}
use Rattle.job.specs.Held.{numbers, head_line, held_line, held_lines, output_line, held_text}
use Rattle.job.proofs.ItemFacts.{held_more, held_none}

-- what an array holds at first
abbrev zeros : ℕ → List ℕ
zeros n = replicate n 0

length_zeros : (n : ℕ) → length (zeros n) ≡ n
length_zeros n = length-replicate {A = ℕ} n 0

-- ---- the lines of entries are those of the arrays that hold them

pub lines_more : (at : ℕ) (e : Entry) (es : List Entry)
    → item_lines at (e ∷ es) ≡ (hex e.key ++ numbers (at + e.label + e.width) (length e.value)) ++ item_lines (at + size e) es
unfolding item_lines numbers
lines_more at e es = refl

pub lines_none : (at : ℕ) → item_lines at [] ≡ []
unfolding item_lines
lines_none at = refl

keys_more : (e : Entry) (es : List Entry) (r : List ℕ) → keys_of (e ∷ es) ++ r ≡ e.key ++ (keys_of es ++ r)
unfolding keys_of
keys_more e es r = append_assoc e.key (keys_of es) r

records_more : (at : ℕ) (e : Entry) (es : List Entry) (q : List ℕ)
    → numbers_from at (e ∷ es) ++ q ≡ (at + e.label + e.width) ∷ length e.value ∷ 1 ∷ (numbers_from (at + size e) es ++ q)
unfolding numbers_from
records_more at e es q = refl

line_held : (keys records : List ℕ) (i : ℕ) (k r q : List ℕ) (a b c : ℕ) → length k ≡ 16 → drop (16 * i) keys ≡ k ++ r → drop (3 * i) records ≡ a ∷ b ∷ c ∷ q
    → held_line keys records i ≡ hex k ++ numbers a b
unfolding held_line
line_held keys records i k r q a b c l e f =
    let x : get_or records (3 * i) 0 ≡ a = sym (get_or-drop (3 * i) records 0 0 ∙ ap (λ (m : ℕ). get_or records m 0) (let z : 3 * i + 0 ≡ 3 * i = omega arith in z)) ∙ ap (λ (s : List ℕ). get_or s 0 0) f in
    let y : get_or records (3 * i + 1) 0 ≡ b = sym (get_or-drop (3 * i) records 1 0) ∙ ap (λ (s : List ℕ). get_or s 1 0) f in
    let t : take 16 (drop (16 * i) keys) ≡ k = ap (take 16) e ∙ take_at k r 16 l in
    rw (x, y, t)

drop_more : (m next n : ℕ) (s k r : List ℕ) → next ≡ m + n → length k ≡ n → drop m s ≡ k ++ r → drop next s ≡ r
drop_more m next n s k r z l e = ap (λ (i : ℕ). drop i s) z ∙ sym (drop-drop n m s) ∙ ap (drop n) e ∙ drop_at k r n l

lines_held : (es : List Entry) (at i : ℕ) (keys records r q : List ℕ) → AllKeys (items es) → drop (16 * i) keys ≡ keys_of es ++ r → drop (3 * i) records ≡ numbers_from at es ++ q
    → held_lines (length es) i keys records ≡ item_lines at es
lines_held [] at i keys records r q a e f = held_none i keys records ∙ sym (lines_none at)
lines_held (x ∷ es) at i keys records r q (k, a) e f =
    let l : length x.key ≡ 16 = key_size x.key k in
    let e' : drop (16 * i) keys ≡ x.key ++ (keys_of es ++ r) = e ∙ keys_more x es r in
    let f' : drop (3 * i) records ≡ ((at + x.label + x.width) ∷ length x.value ∷ 1 ∷ []) ++ (numbers_from (at + size x) es ++ q) = f ∙ records_more at x es q in
    let here : held_line keys records i ≡ hex x.key ++ numbers (at + x.label + x.width) (length x.value) =
    line_held keys records i x.key (keys_of es ++ r) (numbers_from (at + size x) es ++ q) (at + x.label + x.width) (length x.value) 1 l e' f' in
    let more : held_lines (length es) (i + 1) keys records ≡ item_lines (at + size x) es =
    lines_held es (at + size x) (i + 1) keys records r q a (drop_more (16 * i) (16 * (i + 1)) 16 keys x.key (keys_of es ++ r) (omega arith) l e')
    (drop_more (3 * i) (3 * (i + 1)) 3 records ((at + x.label + x.width) ∷ length x.value ∷ 1 ∷ []) (numbers_from (at + size x) es ++ q) (omega arith) refl f') in
    held_more (length es) i keys records ∙ rw (here, more) (sym (lines_more at x es))

pub ok_is : (w : List ℕ) (es : List Entry) → ok_text w es ≡ head_line ok_word (length es) (length w) ++ (item_lines (start w) es ++ output_line w)
unfolding ok_text head_line numbers output_line
ok_is w es = refl

text_held : (w : List ℕ) (es : List Entry) (keys records r q : List ℕ) → AllKeys (items es) → keys ≡ keys_of es ++ r → records ≡ numbers_from (start w) es ++ q
    → held_text w (length es) keys records ≡ ok_text w es
unfolding held_text
text_held w es keys records r q a e f = rw (lines_held es (start w) 0 keys records r q a e f) (sym (ok_is w es))

-- ---- an output is listed: 256 keys and 256 records fit into the arrays

listing_is_read : (tags packs w : List ℕ) → listing_of tags packs w 4096 768 ≡ read tags packs w
unfolding listing_of
listing_is_read tags packs w = by_answer (read tags packs w) refl
  where
    by_answer : (x : Answer (List Entry)) → read tags packs w ≡ x
        → and_then x (λ (es : List Entry). check (both (leb (16 * length es) 4096) (leb (3 * length es) 768)) ShortSlice (ok es)) ≡ x
    by_answer (ok es) e =
        let few : length es ≤ 256 = (read_good tags packs w es e).1 in
        rw (le-leb (16 * length es) 4096 (omega arith), le-leb (3 * length es) 768 (omega arith))
    by_answer (refused r p) e = refl

module _ (tags packs w kx sx : List ℕ) (c : Result Listed (Refused Refusal)) (o : Lists tags packs w (zeros 4096) kx (zeros 768) sx c) where
  rooms : listing_of tags packs w (length (zeros 4096)) (length (zeros 768)) ≡ read tags packs w
  rooms =
      ap (λ (m : ℕ). listing_of tags packs w m (length (zeros 768))) (length_zeros 4096)
      ∙ ap (λ (m : ℕ). listing_of tags packs w 4096 m) (length_zeros 768)
      ∙ listing_is_read tags packs w

  abbrev kind : Kind
  kind = kind_of (take 16 w)

  told : (l : Listed) → c ≡ Ok l → (es : List Entry) × (read tags packs w ≡ ok es) × (length es ≡ l.count)
  told l e = listed_told kind (read tags packs w) l (sym e ∙ o.answer ∙ ap (listed kind) rooms) (λ es r n k. (es, r, n))

  pub count_few : (l : Listed) → c ≡ Ok l → l.count ≤ 256
  count_few l e = let t = told l e in omega (arith, t.2, (read_good tags packs w t.0 t.1).1)

  pub keys_hold : (l : Listed) → c ≡ Ok l → length kx ≡ 4096 → 16 * l.count ≤ length kx
  keys_hold l e s = omega (arith, count_few l e)

  pub records_hold : (l : Listed) → c ≡ Ok l → length sx ≡ 768 → 3 * l.count ≤ length sx
  records_hold l e s = omega (arith, count_few l e)

  pub output_small : (l : Listed) → c ≡ Ok l → length w ≤ 65536
  output_small l e = let t = told l e in (read_told tags packs w t.0 t.1).small

  pub output_printed : (l : Listed) (d x : List ℕ) (r : Option ℕ) → c ≡ Ok l → Prints (held_text w l.count kx sx) d x r → Prints (text_for (output_text tags packs w)) d x r
  unfolding output_text
  output_printed l d x r e p =
      let t = told l e in
      let es : List Entry = t.0 in
      let a : listing_of tags packs w (length (zeros 4096)) (length (zeros 768)) ≡ ok es = rooms ∙ t.1 in
      let k : kx ≡ keys_of es ++ drop (0 + length (keys_of es)) (zeros 4096) = (rw a at o.keys) ∙ pasted_is (zeros 4096) 0 (keys_of es) in
      let s : sx ≡ numbers_from (start w) es ++ drop (0 + length (numbers_from (start w) es)) (zeros 768) = (rw a at o.numbers) ∙ pasted_is (zeros 768) 0 (numbers_from (start w) es) in
      let h : held_text w l.count kx sx ≡ ok_text w es =
      ap (λ (m : ℕ). held_text w m kx sx) (sym t.2)
      ∙ text_held w es kx sx (drop (0 + length (keys_of es)) (zeros 4096)) (drop (0 + length (numbers_from (start w) es)) (zeros 768)) (read_good tags packs w es t.1).0 k s in
      subst (λ (m : List ℕ). Prints m d x r) (rw t.1 h) p

  pub output_refused : (f : Refused Refusal) (m : ℕ) (d x : List ℕ) (r : Option ℕ) → c ≡ Err f → m ≡ number_of f.why → Prints (refusal_text m f.place) d x r
      → Prints (text_for (output_text tags packs w)) d x r
  unfolding output_text
  output_refused f m d x r e g p =
      let u : read tags packs w ≡ refused f.why f.place = unlisted_told kind (read tags packs w) f (sym e ∙ o.answer ∙ ap (listed kind) rooms) (λ z. z) in
      subst (λ (z : List ℕ). Prints z d x r) (rw (u, g)) p

-- ---- a group is regrouped

accepted : (a : Answer (List ℕ)) (n : ℕ) → Ok n ≡ regrouped a → (w : List ℕ) × (a ≡ ok w) × (length w ≡ n)
accepted (ok w) n e = (w, refl, cc)
accepted (refused r p) n e = absurd_number (cc)

rejected : (a : Answer (List ℕ)) (f : Refused Refusal) → Err f ≡ regrouped a → a ≡ refused f.why f.place
rejected (ok w) f e = absurd_number (cc)
rejected (refused r p) f e = let a : r ≡ f.why = cc in let b : p ≡ f.place = cc in rw (a, b)

module _ (tags packs target group o₀ ox : List ℕ) (c : Result ℕ (Refused Refusal)) (o : Regroups tags packs target group o₀ ox c) (l : length o₀ ≡ 65536) where
  room : regroup_of tags packs target group (length o₀) ≡ regroup_of tags packs target group 65536
  room = ap (λ (m : ℕ). regroup_of tags packs target group m) l

  taken : (n : ℕ) → c ≡ Ok n → (w : List ℕ) × (regroup_of tags packs target group (length o₀) ≡ ok w) × (length w ≡ n)
  taken n e = accepted (regroup_of tags packs target group (length o₀)) n (sym e ∙ o.answer)

  output_most : (n : ℕ) → c ≡ Ok n → n ≤ 65536
  output_most n e = let t = taken n e in omega (arith, t.2, (accepted_told tags packs target group 65536 t.0 (sym room ∙ t.1)).most)

  pub output_fits : (n : ℕ) → c ≡ Ok n → length ox ≡ length o₀ → n ≤ length ox
  output_fits n e s = omega (arith, output_most n e)

  pub output_part : (n : ℕ) → c ≡ Ok n → length ox ≡ length o₀ → n ≡ length (take n ox)
  output_part n e s = sym (length-take-le n ox (output_fits n e s))

  pub job_printed : (n : ℕ) (d x : List ℕ) (r : Option ℕ) → c ≡ Ok n → Prints (text_for (output_text tags packs (take n ox))) d x r
      → Prints (text_for (regroup_text tags packs target group)) d x r
  unfolding regroup_text
  job_printed n d x r e p =
      let t = taken n e in
      let w : List ℕ = t.0 in
      let b : ox ≡ w ++ drop (0 + length w) o₀ = (rw t.1 at o.bytes) ∙ pasted_is o₀ 0 w in
      let f : take n ox ≡ w = ap (take n) b ∙ take_at w (drop (0 + length w) o₀) n t.2 in
      let g : regroup_of tags packs target group 65536 ≡ ok w = sym room ∙ t.1 in
      subst (λ (m : List ℕ). Prints m d x r) (rw (f, g)) p

  pub job_refused : (f : Refused Refusal) (m : ℕ) (d x : List ℕ) (r : Option ℕ) → c ≡ Err f → m ≡ number_of f.why → Prints (refusal_text m f.place) d x r
      → Prints (text_for (regroup_text tags packs target group)) d x r
  unfolding regroup_text
  job_refused f m d x r e g p =
      let u : regroup_of tags packs target group 65536 ≡ refused f.why f.place =
      sym room ∙ rejected (regroup_of tags packs target group (length o₀)) f (sym e ∙ o.answer) in
      subst (λ (z : List ℕ). Prints z d x r) (rw (u, g)) p
