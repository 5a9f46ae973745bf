-- A written item is read back as that item, whatever follows it, for every kind under valid tables. From the laws of
-- labels and of spans.
use mathlib.Core.Path.{◌≡◌, refl, sym, ap, ◌∙◌}
use mathlib.Core.Bool.{true, false}
use mathlib.Core.List.{List, ◌++◌, append_assoc}
use mathlib.Core.Option.{Option, some}
use Prim.Native.Nat.{ℕ, ◌+◌, ◌<◌}
use native.Mathlib.Omega.{arith}
use lib.ListN.{length, take, drop, length-append}
use lib.Seq.{take_at, drop_at, drop-append-add}
use Rattle.klv.specs.Ber.{longer}
use Rattle.klv.specs.Key.{is_key}
use Rattle.klv.specs.Pick.{both}
use Rattle.klv.proofs.Cases.{test_cases}
use Rattle.groups.specs.declared.kind.Kind.{Kind}
use Rattle.groups.specs.declared.refusal.Refusal.TheVariants.{NoLabel, NoSpan}
use Rattle.groups.specs.Refusal.{ok, and_then}
use Rattle.groups.specs.Kind.{is_pack}
use Rattle.groups.specs.Root.{label_of}
use Rattle.groups.specs.Label.{read_label, write_label}
use Rattle.groups.specs.Span.{spanned, ber_lengths, read_span, write_span}
use Rattle.groups.specs.Read.{Item, Entry, Under, read_item, size, item}
use Rattle.groups.specs.Listing.{is_longer}
use Rattle.groups.specs.Write.{or_refuse, write_item}
use Rattle.groups.proofs.regroup.AnswerLaws.{ok_same, then_ok, part_ok}
use Rattle.groups.proofs.label.LabelBack.{Fit, label_back, element_within}
use Rattle.groups.proofs.span.SpanBack.{span_back}

-- ---- a written item is a label and a span

-- the two parts
pub record ItemParts (u : Under) (place : ℕ) (x : Item) (a : List ℕ) : Type 0 where
  pub label : List ℕ
  pub span : List ℕ
  pub labelled : write_label u.kind u.root u.tags u.packs place x.key ≡ some label
  pub spans : write_span u.kind u.packs place x.value ≡ some span
  pub joined : a ≡ label ++ span

-- an item that was written has both
pub item_parts : (u : Under) (place : ℕ) (x : Item) (a : List ℕ) → write_item u place x ≡ ok a → ItemParts u place x a
unfolding write_item
item_parts u place x a e =
    let o : Option (List ℕ) = write_label u.kind u.root u.tags u.packs place x.key in
    let s : Option (List ℕ) = write_span u.kind u.packs place x.value in
    let p = then_ok (or_refuse o NoLabel place) (λ (b : List ℕ). and_then (or_refuse s NoSpan place) (λ (c : List ℕ). ok (b ++ c))) a e in
    let q = then_ok (or_refuse s NoSpan place) (λ (c : List ℕ). ok (p.0 ++ c)) a p.2 in
    record {
      label = p.0;
      span = q.0;
      labelled = part_ok o NoLabel place p.0 p.1;
      spans = part_ok s NoSpan place q.0 q.1;
      joined = sym (ok_same (p.0 ++ q.0) a q.2);
    }

-- an item of a set has at least one byte
pub item_some : (u : Under) (place : ℕ) (x : Item) (a : List ℕ) → is_pack u.kind ≡ false → write_item u place x ≡ ok a → 0 < length a
item_some u place x a h e =
    let p = item_parts u place x a e in
    let s = span_back u.kind u.packs place x.value p.span p.spans in
    rw (p.joined, s.parts) (omega (arith, length-append p.label (s.before ++ x.value), length-append s.before x.value, s.some h))

-- an item of a pack has a record
pub item_within : (u : Under) (place : ℕ) (x : Item) (a : List ℕ) → is_pack u.kind ≡ true → write_item u place x ≡ ok a → place < u.packs.count
item_within u place x a h e =
    let p = item_parts u place x a e in
    element_within u.kind u.root u.tags u.packs place x.key p.label h p.labelled

-- ---- and is read back

-- an item written as the bytes a is read back, whatever follows them
pub record ItemBack (u : Under) (place : ℕ) (x : Item) (a : List ℕ) : Type 0 where
  pub entry : Entry
  pub is : item entry ≡ x
  pub sizes : size entry ≡ length a
  pub shortest : is_longer u.kind entry ≡ false
  pub reads : (rest : List ℕ) → read_item u place (a ++ rest) ≡ ok entry

-- the value of an entry
value_back : (v b c rest : List ℕ) → take (length v) (drop (length b + length c) (b ++ ((c ++ v) ++ rest))) ≡ v
value_back v b c rest =
    rw (drop-append-add b ((c ++ v) ++ rest) (length c), append_assoc c v rest, drop_at c (v ++ rest) (length c) refl) (take_at v rest (length v) refl)

-- an entry from what reads as its label and its span
read_parts : (u : Under) (place : ℕ) (k v b c rest : List ℕ)
    → read_label u.kind u.root u.tags u.packs place (b ++ ((c ++ v) ++ rest)) ≡ label_of (length b) k
    → read_span u.kind u.packs place ((c ++ v) ++ rest) ≡ spanned (length c) (length v)
    → read_item u place (b ++ ((c ++ v) ++ rest)) ≡ ok (record { key = k; label = length b; width = length c; value = v })
unfolding read_item
read_parts u place k v b c rest l s = rw (l, drop_at b ((c ++ v) ++ rest) (length b) refl, s, value_back v b c rest)

-- a length that is not longer than needed where it is BER
not_longer : (kd : Kind) (n w : ℕ) → (ber_lengths kd ≡ true → longer n w ≡ false) → both (ber_lengths kd) (longer n w) ≡ false
not_longer kd n w h = test_cases (ber_lengths kd) (λ t. rw t (h t)) (λ t. rw t)

-- the same of bytes that are a label, a length and a value
parts_back : (u : Under) (place : ℕ) (x : Item) (a b c : List ℕ) → a ≡ b ++ (c ++ x.value)
    → ((rest : List ℕ) → read_label u.kind u.root u.tags u.packs place (b ++ rest) ≡ label_of (length b) x.key)
    → ((rest : List ℕ) → read_span u.kind u.packs place ((c ++ x.value) ++ rest) ≡ spanned (length c) (length x.value))
    → (ber_lengths u.kind ≡ true → longer (length x.value) (length c) ≡ false) → ItemBack u place x a
parts_back u place x a b c j l s h =
    let v : List ℕ = x.value in
    record {
      entry = record { key = x.key; label = length b; width = length c; value = x.value };
      is = refl;
      sizes = rw j (omega (arith, length-append b (c ++ v), length-append c v));
      shortest = not_longer u.kind (length x.value) (length c) h;
      reads = λ rest. rw (j, append_assoc b (c ++ v) rest) (read_parts u place x.key v b c rest (l ((c ++ v) ++ rest)) (s rest));
    }

-- a written item is read back
pub item_back : (u : Under) (place : ℕ) (x : Item) (a : List ℕ) → Fit u → is_key x.key ≡ true → write_item u place x ≡ ok a → ItemBack u place x a
item_back u place x a f i e =
    let p = item_parts u place x a e in
    let s = span_back u.kind u.packs place x.value p.span p.spans in
    parts_back u place x a p.label s.before
    (p.joined ∙ ap (λ (l : List ℕ). p.label ++ l) s.parts)
    (λ rest. label_back u.kind u.root u.tags u.packs place x.key p.label rest f.root f.tags i p.labelled)
    (λ rest. ap (λ (l : List ℕ). read_span u.kind u.packs place (l ++ rest)) (sym s.parts) ∙ s.reads rest)
    s.shortest
