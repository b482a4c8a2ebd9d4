use Rattle.std.proofs.Common.{arith, ap, ◌∙◌}
use Rattle.lists.specs.Lists.{zeros}
use Rattle.printer.proofs.put_listing.Goals as goal

pub put_order-requires : goal.put_order-requires
unfolding zeros
put_order-requires c =
    (record { sized = c.requires.sized; whole = c.requires.whole; below = omega arith }, c.fill.ensures.after (λ y e. e) ∙ ap zeros c.requires.room, c.requires.counts _ (omega arith))
