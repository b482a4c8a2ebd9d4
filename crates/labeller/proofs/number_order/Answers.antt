-- Zeros with the edges joined span the components of the order.
use Rattle.std.proofs.Common.{◌∙◌}
use Rattle.labels.proofs.CountLaws.{largest_leaders}
use Rattle.lists.proofs.Lists.{length-zeros}
use Rattle.pass_number.proofs.SpanningLaws.{joined_spanning}
use Rattle.labeller.proofs.number_order.Goals as goal

pub join_cells-requires : goal.join_cells-requires
join_cells-requires c =
    (record { sized = c.requires.0; whole = c.requires.1; room = rw c.requires.2 (length-zeros _) }, c.requires.3)

pub number_cells-requires : goal.number_cells-requires
number_cells-requires c = (c.requires.0, c.requires.1, c.requires.3, joined_spanning _ _ c.requires.2 _ c.join_cells.ensures)

pub returns : goal.returns
returns c =
    let N = c.number_cells.ensures in
    record { numbers = N.numbers; total = N.total ∙ largest_leaders c.args.e c.args.map.now c.args.j; cleared = N.cleared }
