use Rattle.std.proofs.Common.{sym, ◌∙◌}
use Rattle.refusals.specs.Refusals.{number}
use Rattle.step_open.specs.Inner.{refusal_of}
use Rattle.step_open.proofs.DoneLaws.{few, few_blocks, fitting_of}
use Rattle.step_open.proofs.refusal.Goals as goal

pub returns-then-off_size : goal.returns-then-off_size
unfolding refusal_of number
returns-then-off_size c = rw (sym (rw c.extents-e.ensures at c.off_size.ensures) ∙ c.if-off_size.true)

pub returns-then-not-good_cut : goal.returns-then-not-good_cut
unfolding refusal_of number
returns-then-not-good_cut c = rw (sym (rw c.extents-e.ensures at c.off_size.ensures) ∙ c.if-off_size.false, sym (rw c.extents-e.ensures at c.good_cut.ensures) ∙ c.if-not-good_cut.true)

pub block_count-blocks-requires : goal.block_count-blocks-requires
block_count-blocks-requires c = few c.args.job c.args.cuts.now _ (rw c.extents-e.ensures at c.good_cut.ensures) c.if-not-good_cut.false

pub tables_fit-requires : goal.tables_fit-requires
tables_fit-requires c = few_blocks c.args.job c.args.cuts.now _ (rw c.extents-e.ensures at c.good_cut.ensures) c.if-not-good_cut.false _ c.block_count-blocks.ensures

pub returns-then-not-tables_fit : goal.returns-then-not-tables_fit
unfolding refusal_of number
returns-then-not-tables_fit c =
    let fit = fitting_of c.args.job c.args.cuts.now _ _ _ _ _ _ _ c.block_count-blocks.ensures c.tables_fit.ensures in
    rw (
      sym (rw c.extents-e.ensures at c.off_size.ensures) ∙ c.if-off_size.false,
      sym (rw c.extents-e.ensures at c.good_cut.ensures) ∙ c.if-not-good_cut.false,
      sym fit ∙ c.if-not-tables_fit.true,
    )

pub returns : goal.returns
unfolding refusal_of
returns c =
    let fit = fitting_of c.args.job c.args.cuts.now _ _ _ _ _ _ _ c.block_count-blocks.ensures c.tables_fit.ensures in
    rw (
      sym (rw c.extents-e.ensures at c.off_size.ensures) ∙ c.if-off_size.false,
      sym (rw c.extents-e.ensures at c.good_cut.ensures) ∙ c.if-not-good_cut.false,
      sym fit ∙ c.if-not-tables_fit.false,
    )
