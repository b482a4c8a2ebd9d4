-- What is printed fits into the buffer.
use Rattle.std.proofs.Common.{arith, sym}
use Rattle.std.proofs.lemmas.List.{length-take-le}
use Rattle.printer.proofs.PrintLaws.{printed_within}
use Rattle.program_listing.proofs.print_some.Goals as goal

pub slice_bounds-write_all-end : goal.slice_bounds-write_all-end
slice_bounds-write_all-end g c = omega (arith, printed_within _ _ _ _ _ _ c.print_listing-n.ensures, c.print_listing-n.auto.out)

pub slice_bounds-write_all-end-2 : goal.slice_bounds-write_all-end-2
slice_bounds-write_all-end-2 g c = sym (length-take-le _ _ (slice_bounds-write_all-end g c))
