-- The elements of defined-length packs are those of 02's point 5.
use mathlib.Core.Path.{◌≡◌, sym, ap, ◌∙◌}
use Prim.Native.Nat.{ℕ}
use native.Mathlib.Omega.{arith}
use lib.ListN.{length, take}
use lib.Seq.{length-take-le}
use borrow.Author.Tests.{eqb-true, eq-eqb}
use Rattle.groups.specs.Tables.{Table}
use Rattle.groups.specs.Span.{spanned, read_span, write_span}
use Rattle.groups.proofs.span.ElementLaws.{triplet_told, element_measured, element_told, constant_found, measured_found, element_back, element_own, element_ok_law, measured_ok, constant_ok, written_told}
use Rattle.claims.specs.Elements.{Elements}

pub elements : (packs : Table) (place : ℕ) → Elements packs place
unfolding read_span write_span
elements packs place =
    let n : ℕ = (packs.row place).number in
    record {
      measured_read = λ h l w m. (λ e. triplet_told l w m (sym (element_measured n l h) ∙ e), λ (z, t). rw z (measured_found n l m h t));
      measured_written = λ h v b. (
        λ e. let p = written_told n v b e in (p.1, (measured_ok n v h).0 p.0),
        λ (z, t). rw ((measured_ok n v h).1 t, z),
      );
      constant_read = λ h l w m. (
        λ e. element_told n l w m e (λ g z t. absurd (h g)) (λ g z q r. (z, q, r)),
        λ (z, q, r). rw (z, q) (constant_found n l h (omega arith)),
      );
      constant_written = λ h v b. (
        λ e. let p = written_told n v b e in (p.1, eqb-true (length v) n (sym (constant_ok n v h) ∙ p.0)),
        λ (z, q). rw (constant_ok n v h, eq-eqb (length v) n q, z),
      );
      goes_on = λ v rest w e. element_back n w v rest e;
      kept = λ l w m e.
          let r : length (take m l) ≡ m = element_told n l w m e (λ h z t. length-take-le m l t.there) (λ h z q r. length-take-le m l r) in
          rw (element_ok_law n 0 (take m l) (element_own n l w m e ∙ ap (spanned 0) (sym r)));
    }
