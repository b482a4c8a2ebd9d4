-- The listing goes on further back each time.
use Rattle.std.proofs.Common.{◌-◌, ◌^◌}
use Rattle.program_listing.proofs.print_all.Given as goal

abbrev pub decreases-loop-next : goal.decreases-loop-next
decreases-loop-next g l = 2 ^ 64 - l.from
