use Rattle.std.proofs.Common.{rules, arith, ◌≡◌, ◌/◌, length, ℕ, true, false}
use Rattle.std.proofs.lemmas.Iterator.{cases_from_all, YieldsList-from_range}
use Rattle.groups.specs.Tables.{table_of, pack_row_ok}
use Rattle.groups.proofs.tables.Below.{all_range}
use Rattle.groups.proofs.tables.TableLoops.{packs_size, packs_whole, pack_row_good, pack_row_bad}
use Rattle.groups.proofs.tables.pack_table_ok.Goals as goal

pub returns-then-size_ok : goal.returns-then-size_ok
returns-then-size_ok c =
    packs_whole c.args.t.now c.size_ok.result c.all.result c.size_ok.ensures c.if-size_ok.true
    (all_range (pack_row_ok (table_of c.args.t.now)) (length c.args.t.now / 20) c.all.result
    (cases_from_all _ _ _ (λ (i : ℕ). pack_row_ok (table_of c.args.t.now) i ≡ true) (λ (i : ℕ). pack_row_ok (table_of c.args.t.now) i ≡ false)
    c.all.ensures.ran (YieldsList-from_range 0 (length c.args.t.now / 20) (length c.args.t.now / 20) (cc) (omega arith))
    (λ x q k. search (rules, pack_row_good)) (λ x q k. search (rules, pack_row_bad))))

pub returns-else-size_ok : goal.returns-else-size_ok
returns-else-size_ok c = packs_size c.args.t.now c.size_ok.result c.size_ok.ensures c.if-size_ok.false
