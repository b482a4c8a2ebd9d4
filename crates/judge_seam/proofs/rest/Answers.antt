use Rattle.std.proofs.Common.{refl, ◌∙◌}
use Rattle.cells.specs.Box.{triple}
use Rattle.judge.proofs.JudgeLaws.{few_of, count_few}
use Rattle.refusals.specs.Refusals.{number}
use Rattle.refusals.proofs.RefusalLaws.{err_number}
use Rattle.judge_seam.proofs.TestLaws.{lower_sized, upper_sized, lower_cells, upper_cells, judged_fits, late_first, late_8, late_layers}
use Rattle.judge_seam.proofs.rest.Goals as goal

pub block_count-count-requires : goal.block_count-count-requires
block_count-count-requires c = few_of _ c.requires.0

pub trays_fit-whole-requires : goal.trays_fit-whole-requires
trays_fit-whole-requires c =
    let e = triple c.args.job.nx c.args.job.ny c.args.job.nz in (
      count_few _ c.requires.0 _ (c.block_count-count.ensures e),
      lower_sized _ _ _ c.requires.0 c.requires.1 _ (c.block_at-low.ensures e),
      upper_sized _ _ _ c.requires.0 c.requires.1 _ (c.block_at-high.ensures e),
    )

pub judge_map-requires : goal.judge_map-requires
judge_map-requires c =
    let e = triple c.args.job.nx c.args.job.ny c.args.job.nz in
    (lower_sized _ _ _ c.requires.0 c.requires.1 _ (c.block_at-low.ensures e), lower_cells _ _ _ _ _ _ _ _ c.trays_fit-whole.ensures)

pub returns-in_err-judge_map : goal.returns-in_err-judge_map
returns-in_err-judge_map c =
    err_number _ _ c.from_residual.ensures ∙
    late_first c.args.job c.args.cuts.now _ _ _ _ _ _ _ _ _ _ c.block_at-low.ensures c.block_at-high.ensures _ c.block_count-count.ensures _ c.trays_fit-whole.ensures _ _
    c.entry_of-own.ensures c.entry_of-other.ensures _ c.in_err-judge_map.ensures _ refl

pub upper_stands-requires : goal.upper_stands-requires
upper_stands-requires c =
    let e = triple c.args.job.nx c.args.job.ny c.args.job.nz in
    let whole = judged_fits c.args.job _ _ _ _ c.in_ok-judge_map.ensures in
    (upper_sized _ _ _ c.requires.0 c.requires.1 _ (c.block_at-high.ensures e), upper_cells _ _ _ _ _ _ _ _ c.trays_fit-whole.ensures whole)

pub returns-then-not-upper_stands : goal.returns-then-not-upper_stands
unfolding number
returns-then-not-upper_stands c =
    late_8 c.args.job c.args.cuts.now _ _ _ _ _ _ _ _ _ _ c.block_at-low.ensures c.block_at-high.ensures _ c.block_count-count.ensures _ c.trays_fit-whole.ensures _ _
    c.entry_of-own.ensures c.entry_of-other.ensures _ c.in_ok-judge_map.ensures refl _ c.upper_stands.ensures c.if-not-upper_stands.true

pub differ-requires : goal.differ-requires
differ-requires c =
    let e = triple c.args.job.nx c.args.job.ny c.args.job.nz in
    (lower_sized _ _ _ c.requires.0 c.requires.1 _ (c.block_at-low.ensures e), upper_sized _ _ _ c.requires.0 c.requires.1 _ (c.block_at-high.ensures e))

-- The refusal, once the layers are compared.
pub returns-then-differ : goal.returns-then-differ
unfolding number
returns-then-differ c =
    let decided =
    late_layers c.args.job c.args.cuts.now _ _ _ _ _ _ _ _ _ _ c.block_at-low.ensures c.block_at-high.ensures _ c.block_count-count.ensures _ c.trays_fit-whole.ensures _ _
    c.entry_of-own.ensures c.entry_of-other.ensures _ c.in_ok-judge_map.ensures refl _ c.upper_stands.ensures c.if-not-upper_stands.false
    _ c.requires.0 c.requires.1 c.requires.2 _ c.differ.ensures in
    rw c.if-differ.true at decided

pub returns : goal.returns
returns c =
    let decided =
    late_layers c.args.job c.args.cuts.now _ _ _ _ _ _ _ _ _ _ c.block_at-low.ensures c.block_at-high.ensures _ c.block_count-count.ensures _ c.trays_fit-whole.ensures _ _
    c.entry_of-own.ensures c.entry_of-other.ensures _ c.in_ok-judge_map.ensures refl _ c.upper_stands.ensures c.if-not-upper_stands.false
    _ c.requires.0 c.requires.1 c.requires.2 _ c.differ.ensures in
    rw c.if-differ.false at decided
