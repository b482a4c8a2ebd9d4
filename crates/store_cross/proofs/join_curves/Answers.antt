-- No tally grows, so each stays in its table.
use Rattle.store_cross.proofs.StoreLaws.{tick_sums}
use Rattle.store_cross.proofs.join_curves.Goals as goal

pub advance-next-requires-clause-faces_bound : goal.advance-next-requires-clause-faces_bound
advance-next-requires-clause-faces_bound c = tick_sums c.args.job c.args.cuts.now c.requires.1
