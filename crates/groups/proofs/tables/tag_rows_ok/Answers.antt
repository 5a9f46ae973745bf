use Rattle.std.proofs.Common.{rules, arith, ◌≡◌, ◌/◌, length, ℕ, true, false}
use Rattle.std.proofs.lemmas.Iterator.{cases_from_all, YieldsList-from_range}
use Rattle.groups.specs.Tables.{table_of, tag_row_ok}
use Rattle.groups.proofs.tables.Below.{all_range}
use Rattle.groups.proofs.tables.tag_rows_ok.Goals as goal

pub returns : goal.returns
returns c =
    all_range (tag_row_ok (table_of c.args.t.now)) (length c.args.t.now / 20) c.all.result
    (cases_from_all _ _ _ (λ (i : ℕ). tag_row_ok (table_of c.args.t.now) i ≡ true) (λ (i : ℕ). tag_row_ok (table_of c.args.t.now) i ≡ false)
    c.all.ensures.ran (YieldsList-from_range 0 (length c.args.t.now / 20) (length c.args.t.now / 20) (cc) (omega arith)) (λ x q k. search rules) (λ x q k. search rules))
