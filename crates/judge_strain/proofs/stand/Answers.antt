-- Whether the map and the totals stand, by what the code finds.
use Rattle.std.proofs.Common.{sym, ◌∙◌, true≢false}
use Rattle.judge_strain.proofs.TestLaws.{stand_holds, stand_tallies, stand_map, stand_faces}
use Rattle.judge_strain.proofs.stand.Goals as goal
use Rattle.judge_strain.proofs.stand.Goals.{then-tallies_fit, else-tallies_fit}

pub faces_stand-requires : goal.faces_stand-requires
faces_stand-requires c =
    elim c.if-tallies_fit.branch [
      | then-tallies_fit w ↦ (c.requires.2, stand_holds c.args.job _ c.tallies_fit.ensures _ _ w.if-tallies_fit.true c.requires.3)
      | else-tallies_fit w ↦ absurd (true≢false (sym c.if-map_stands.true ∙ w.value-is ∙ w.if-tallies_fit.false))
    ]

pub returns-then-map_stands : goal.returns-then-map_stands
returns-then-map_stands c cx cy cz =
    elim c.if-tallies_fit.branch [
      | then-tallies_fit w ↦ stand_faces c.args.job _ c.tallies_fit.ensures _ _ _ _ _ _ w.if-tallies_fit.true _ w.map_stands.ensures (sym w.value-is ∙ c.if-map_stands.true) _ c.faces_stand.ensures cx cy cz
      | else-tallies_fit w ↦ absurd (true≢false (sym c.if-map_stands.true ∙ w.value-is ∙ w.if-tallies_fit.false))
    ]

pub returns-else-map_stands : goal.returns-else-map_stands
returns-else-map_stands c cx cy cz =
    elim c.if-tallies_fit.branch [
      | then-tallies_fit w ↦ c.if-map_stands.false ∙ stand_map c.args.job _ c.tallies_fit.ensures _ _ _ _ _ _ w.if-tallies_fit.true _ w.map_stands.ensures (sym w.value-is ∙ c.if-map_stands.false) cx cy cz
      | else-tallies_fit w ↦ w.value-is ∙ w.if-tallies_fit.false ∙ stand_tallies c.args.job _ c.tallies_fit.ensures _ _ _ _ _ _ w.if-tallies_fit.false cx cy cz
    ]
