-- What is read, and what a refusal gives.
use Rattle.std.proofs.Common.{sym}
use Rattle.refusals.specs.Refusals.{number}
use Rattle.cells.specs.Box.{triple}
use Rattle.reading_cell.proofs.NumberLaws.{looked_up_lem, looked_stands}
use Rattle.reading_cell.proofs.LookupLaws.{cell_local, cell_placed, look_refused, look_stray, look_accepted}
use Rattle.reading_cell.proofs.lookup.Goals as goal

pub returns-in_err-refuse : goal.returns-in_err-refuse
returns-in_err-refuse c = look_refused c.args.job c.args.cuts.now c.args.tables.now.ticks.now c.args.tables.now.blocks.now c.args.tables.now.faces.now c.args.tables.now.curves.now c.args.tables.now.points.now c.args.block c.args.m.now c.args.c _ c.in_err-refuse.ensures c.from_residual.result c.from_residual.ensures

pub local-p-requires : goal.local-p-requires
local-p-requires c = cell_local c.args.job c.args.cuts.now c.args.tables.now.ticks.now c.args.tables.now.blocks.now c.args.tables.now.faces.now c.args.tables.now.curves.now c.args.tables.now.points.now c.args.block c.args.m.now c.args.c (sym c.in_ok-refuse.ensures) _ (c.block_at-r.ensures (triple c.args.job.nx c.args.job.ny c.args.job.nz))

pub returns-then-not-number_handed : goal.returns-then-not-number_handed
unfolding number
returns-then-not-number_handed c =
    let acc = sym c.in_ok-refuse.ensures in
    let there = (cell_local c.args.job c.args.cuts.now c.args.tables.now.ticks.now c.args.tables.now.blocks.now c.args.tables.now.faces.now c.args.tables.now.curves.now c.args.tables.now.points.now c.args.block c.args.m.now c.args.c acc _ (c.block_at-r.ensures (triple c.args.job.nx c.args.job.ny c.args.job.nz))).0 in
    let stands =
    looked_stands c.args.job c.args.cuts.now c.args.tables.now.ticks.now c.args.tables.now.blocks.now c.args.tables.now.faces.now c.args.tables.now.curves.now c.args.tables.now.points.now c.args.block c.args.m.now c.args.c _ (c.block_at-r.ensures (triple c.args.job.nx c.args.job.ny c.args.job.nz)) there _ _ _ _ c.local-p.ensures c.entry_of-d.ensures c.read_or-n.ensures c.number_handed.ensures in
    look_stray c.args.job c.args.cuts.now c.args.tables.now.ticks.now c.args.tables.now.blocks.now c.args.tables.now.faces.now c.args.tables.now.curves.now c.args.tables.now.points.now c.args.block c.args.m.now c.args.c acc _ stands c.if-not-number_handed.true

pub number_of-requires : goal.number_of-requires
number_of-requires c = cell_placed c.args.job c.args.cuts.now c.args.tables.now.ticks.now c.args.tables.now.blocks.now c.args.tables.now.faces.now c.args.tables.now.curves.now c.args.tables.now.points.now c.args.block c.args.m.now c.args.c (sym c.in_ok-refuse.ensures) _ (c.block_at-r.ensures (triple c.args.job.nx c.args.job.ny c.args.job.nz))

pub returns : goal.returns
returns c =
    let acc = sym c.in_ok-refuse.ensures in
    let there = (cell_local c.args.job c.args.cuts.now c.args.tables.now.ticks.now c.args.tables.now.blocks.now c.args.tables.now.faces.now c.args.tables.now.curves.now c.args.tables.now.points.now c.args.block c.args.m.now c.args.c acc _ (c.block_at-r.ensures (triple c.args.job.nx c.args.job.ny c.args.job.nz))).0 in
    let stands =
    looked_stands c.args.job c.args.cuts.now c.args.tables.now.ticks.now c.args.tables.now.blocks.now c.args.tables.now.faces.now c.args.tables.now.curves.now c.args.tables.now.points.now c.args.block c.args.m.now c.args.c _ (c.block_at-r.ensures (triple c.args.job.nx c.args.job.ny c.args.job.nz)) there _ _ _ _ c.local-p.ensures c.entry_of-d.ensures c.read_or-n.ensures c.number_handed.ensures in
    look_accepted c.args.job c.args.cuts.now c.args.tables.now.ticks.now c.args.tables.now.blocks.now c.args.tables.now.faces.now c.args.tables.now.curves.now c.args.tables.now.points.now c.args.block c.args.m.now c.args.c acc _ stands c.if-not-number_handed.false _
    (looked_up_lem c.args.job c.args.cuts.now c.args.tables.now.ticks.now c.args.tables.now.blocks.now c.args.tables.now.faces.now c.args.tables.now.curves.now c.args.tables.now.points.now c.args.block c.args.m.now c.args.c _ (c.block_at-r.ensures (triple c.args.job.nx c.args.job.ny c.args.job.nz)) there _ _ _ _ c.local-p.ensures c.entry_of-d.ensures c.read_or-n.ensures c.number_of.ensures)
