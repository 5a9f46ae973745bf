use Rattle.std.proofs.Common.{rules, ◌≡◌, true, false, ℕ}
use Rattle.std.proofs.lemmas.Iterator.{first_from_Range}
use Rattle.groups.proofs.tables.FindLoops.{first_found, has_row}
use Rattle.groups.proofs.tables.index.first_with.Goals as goal

pub returns : goal.returns
returns c =
    first_found c.args.tables.now.tags.now c.args.k c.find.result
    (first_from_Range _ _ _ _ (λ (i : ℕ). has_row c.args.tables.now.tags.now c.args.k i ≡ true) (λ (i : ℕ). has_row c.args.tables.now.tags.now c.args.k i ≡ false) c.find.ensures.ran
    (λ x q k. search rules) (λ x q k. search rules))
