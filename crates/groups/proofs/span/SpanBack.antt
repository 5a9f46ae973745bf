-- A written span is read back as the value's length, whatever follows it, for every kind. From klv's law that what is
-- written is read back.
use mathlib.Core.Path.{◌≡◌, refl, ap, ◌∙◌}
use mathlib.Core.Bool.{true, false}
use mathlib.Core.List.{List, [], ◌++◌, append_assoc}
use mathlib.Core.Option.{none, some}
use Prim.Native.Nat.{ℕ, ◌<◌, ◌≤◌}
use lib.Dec.{leb}
use lib.ListN.{length}
use borrow.Author.Tests.{leb-true}
use Rattle.klv.specs.Ber.{longer}
use Rattle.klv.specs.Layout.{read_as, written, largest_of}
use Rattle.klv.specs.declared.layout.Form.{Form}
use Rattle.klv.specs.declared.layout.Form.TheVariants.{Ber}
use Rattle.klv.specs.Number.{Value}
use Rattle.klv.proofs.Cases.{pick_cases, absurd_number}
use Rattle.klv.proofs.LayoutLaws.{read_back, written_least}
use Rattle.klv.proofs.LongerLaws.{longer_none, ber_form}
use Rattle.groups.specs.declared.kind.Kind.{Kind}
use Rattle.groups.specs.declared.kind.Kind.TheVariants.{Universal, Global, Local, Variable, Defined, NoGroup}
use Rattle.groups.specs.Tables.{Table}
use Rattle.groups.specs.Kind.{is_pack}
use Rattle.groups.specs.Span.{spanned, within, ber_lengths, read_span, measured, write_span}
use Rattle.groups.proofs.span.WithinLaws.{within_back}
use Rattle.groups.proofs.span.ElementLaws.{element_back, element_ok_told, written_told}

-- a span b of the value v: a length, perhaps of no bytes, and the value; read back whatever follows it
pub record SpanBack (d : Kind) (packs : Table) (place : ℕ) (v b : List ℕ) : Type 0 where
  pub before : List ℕ
  pub parts : b ≡ before ++ v
  pub some : is_pack d ≡ false → 0 < length before
  pub shortest : ber_lengths d ≡ true → longer (length v) (length before) ≡ false
  pub reads : (rest : List ℕ) → read_span d packs place (b ++ rest) ≡ spanned (length before) (length v)

-- a length and its value
measured_told : (f : Form) (v b : List ℕ) → measured f v ≡ some b → (length v ≤ largest_of f) × (b ≡ written f (length v) ++ v)
measured_told f v b e =
    pick_cases (leb (length v) (largest_of f)) _ none (some b) e
    (λ h g. (leb-true (length v) (largest_of f) h, cc))
    (λ h g. absurd_number (cc))

measured_value : (f : Form) (v rest : List ℕ) → length v ≤ largest_of f
    → read_as f ((written f (length v) ++ v) ++ rest) ≡ Value (length v) (length (written f (length v)))
measured_value f v rest h = ap (read_as f) (append_assoc (written f (length v)) v rest) ∙ read_back f (length v) (v ++ rest) h

measured_reads : (f : Form) (v b rest : List ℕ) → measured f v ≡ some b
    → within (length (b ++ rest)) (read_as f (b ++ rest)) ≡ spanned (length (written f (length v))) (length v)
measured_reads f v b rest e =
    let p = measured_told f v b e in
    rw (p.1, measured_value f v rest p.0) (within_back (written f (length v)) v rest)

-- so it is for each kind with a length layout
measured_back : (d : Kind) (packs : Table) (place : ℕ) (f : Form) (v b : List ℕ) → ((l : List ℕ) → read_span d packs place l ≡ within (length l) (read_as f l))
    → (ber_lengths d ≡ true → f ≡ Ber) → measured f v ≡ some b → SpanBack d packs place v b
measured_back d packs place f v b r i e =
    record {
      before = written f (length v);
      parts = (measured_told f v b e).1;
      some = λ q. written_least f (length v);
      shortest = λ q. rw (i q) (longer_none (length v));
      reads = λ rest. r (b ++ rest) ∙ measured_reads f v b rest e;
    }

-- a written span is read back
pub span_back : (d : Kind) (packs : Table) (place : ℕ) (v b : List ℕ) → write_span d packs place v ≡ some b → SpanBack d packs place v b
unfolding read_span write_span ber_lengths
span_back Universal packs place v b e = measured_back Universal packs place Ber v b (λ l. refl) (λ q. refl) e
span_back (Global y) packs place v b e = measured_back (Global y) packs place y.form v b (λ l. refl) (λ q. ber_form y.form q) e
span_back (Local t y) packs place v b e = measured_back (Local t y) packs place y.form v b (λ l. refl) (λ q. ber_form y.form q) e
span_back (Variable y) packs place v b e = measured_back (Variable y) packs place y.form v b (λ l. refl) (λ q. ber_form y.form q) e
span_back Defined packs place v b e =
    let p = written_told (packs.row place).number v b e in
    element_ok_told (packs.row place).number v p.0
    (λ w q.
    record { before = []; parts = p.1; some = λ q. absurd_number (cc); shortest = λ q. absurd_number (cc); reads = λ rest. rw p.1 (element_back (packs.row place).number w v rest q) })
span_back NoGroup packs place v b e = absurd_number (cc)
