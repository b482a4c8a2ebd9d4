use Rattle.std.proofs.Common.{rules, sym, ◌∙◌}
use Rattle.printer.proofs.PrintLaws.{ready_of, print_none, print_listed}
use Rattle.printer.proofs.print_listing.Goals as goal

pub put_listing-requires : goal.put_listing-requires
put_listing-requires c = ready_of _ _ _ (sym c.has_listing.ensures ∙ c.if-has_listing.true)

pub returns-then-has_listing : goal.returns-then-has_listing
returns-then-has_listing c =
    print_listed _ _ _ _ _ _ c.has_listing.ensures _ _ _ c.if-has_listing.true c.put_listing.ensures.marks_after (search rules)
    (rw c.new-s.ensures.begun at c.put_listing.ensures.put)

pub returns-else-has_listing : goal.returns-else-has_listing
returns-else-has_listing c = print_none _ _ _ _ _ _ c.has_listing.ensures c.if-has_listing.false
