-- Whether the total of a face stands, by what the code finds.
use Rattle.std.proofs.Common.{ap, ◌∙◌}
use Rattle.cells.specs.Grid.{cells}
use Rattle.reading_total.proofs.TotalLaws.{stand_holds, stand_none, stand_both}
use Rattle.reading_total.proofs.stand.Goals as goal

pub both_stand-requires : goal.both_stand-requires
both_stand-requires c = (c.requires.1, stand_holds c.args.job _ _ _ _ c.tallies_fit.ensures c.if-tallies_fit.true c.requires.2 c.requires.3)

pub returns-then-tallies_fit : goal.returns-then-tallies_fit
returns-then-tallies_fit c = stand_both c.args.job _ _ _ _ c.tallies_fit.ensures c.if-tallies_fit.true _ (c.grid_cells.ensures ∙ ap cells c.extents.ensures) _ c.both_stand.ensures

pub returns-else-tallies_fit : goal.returns-else-tallies_fit
returns-else-tallies_fit c cx cy cz = c.if-tallies_fit.false ∙ stand_none c.args.job _ _ _ _ c.tallies_fit.ensures c.if-tallies_fit.false cx cy cz
