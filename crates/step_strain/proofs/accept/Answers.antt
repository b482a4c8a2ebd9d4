-- What the block brings is whole, and what is left is what the definition asks for.
use Rattle.step_strain.proofs.DoneLaws.{accept_whole, accept_stored}
use Rattle.step_strain.proofs.accept.Goals as goal

pub sum_block-requires : goal.sum_block-requires
sum_block-requires c = accept_whole c.args.job c.args.cuts.now _ _ c.block_at.ensures _ _ _ _ c.requires

pub returns : goal.returns
returns c =
    accept_stored c.args.job c.args.cuts.now _ _ c.block_at.ensures _ _ _ _ _ _ _ _ _ c.entry_of-entry.ensures _ c.starts_of-starts.ensures _ c.sum_block.ensures.sum _ c.sum_block.ensures.count
