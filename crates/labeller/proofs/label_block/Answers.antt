-- The passes one after the other make the labelled map.
use Rattle.std.proofs.Common.{◌∙◌, arith, rules}
use Rattle.labels.proofs.CountLaws.{largest_leaders}
use Rattle.pass_number.proofs.SpanningLaws.{points_spanning}
use Rattle.labeller.proofs.LabellingLaws.{block_labelled}
use Rattle.labeller.proofs.label_block.Goals as goal

pub number_cells-points-requires : goal.number_cells-points-requires
number_cells-points-requires c =
    (c.requires.sized, search rules, omega arith, points_spanning _ _ c.number_order-curves.ensures.cleared)

pub returns : goal.returns
returns c =
    let F = c.number_order-faces.ensures in
    let C = c.number_order-curves.ensures in
    let P = c.number_cells-points.ensures in
    block_labelled c.args.e c.args.codes.now _ _ _ _ _ _ _ _ c.fill.ensures (F.numbers, F.total) (C.numbers, C.total) (P.numbers, P.total ∙ largest_leaders c.args.e _ 0) P.cleared
