use Rattle.std.proofs.Common.{rules, tests, arith, ℕ}
use Rattle.std.proofs.lemmas.Iterator.{YieldsList-from_range}
use Rattle.std.proofs.lemmas.Iterator.Consumers.{YieldsList-from_filter, count_from_yields_List}
use Rattle.klv.specs.Ber.{longer}
use Rattle.groups.specs.Slots.{held_size, held_width}
use Rattle.groups.proofs.listing.LongerFacts.{counted}
use Rattle.groups.proofs.listing.longer_slots.Goals as goal

pub returns : goal.returns
returns c =
    omega (
      arith,
      counted c.args.n c.count.result c.args.slots.now
          (count_from_yields_List c.filter.result _ c.count.ensures.ran
          (YieldsList-from_filter _ (λ (j : ℕ). longer (held_size c.args.slots.now j) (held_width c.args.slots.now j)) (YieldsList-from_range 0 c.args.n c.args.n (cc) (omega arith)) c.filter.ensures.closure
          (λ x r q k. search (rules, tests)))),
    )
