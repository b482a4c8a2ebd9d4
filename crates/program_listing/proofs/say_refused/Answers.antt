-- The line fits into its buffer.
use Rattle.std.proofs.Common.{arith, sym}
use Rattle.std.proofs.lemmas.List.{length-take-le}
use Rattle.text.specs.Listing.{refused_line}
use Rattle.printer.proofs.PrintLaws.{fitting_within}
use Rattle.program_listing.proofs.say_refused.Goals as goal

pub slice_bounds-line-end : goal.slice_bounds-line-end
slice_bounds-line-end g c = omega (arith, c.print_refusal-n.ensures.0, fitting_within 0 (refused_line c.from.result) 32, c.print_refusal-n.auto.out)

pub slice_bounds-write_all-end : goal.slice_bounds-write_all-end
slice_bounds-write_all-end g c =
    sym (length-take-le _ _ (omega (arith, c.print_refusal-n.ensures.0, fitting_within 0 (refused_line c.from.result) 32, c.print_refusal-n.auto.out)))
