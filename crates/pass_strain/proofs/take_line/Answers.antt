-- A turn takes in the next of the listed cells.
use Rattle.std.proofs.Common.{arith}
use Rattle.std.proofs.lemmas.List.{length-take-le}
use Rattle.cells.specs.Grid.{sides}
use Rattle.lines.proofs.WalkLaws.{walk_room, walk_fits}
use Rattle.pass_strain.proofs.SumLaws.{bounds, line_beside, line_spot}
use Rattle.pass_strain.proofs.ShownLaws.{listed_front, take_none, listed_cell, take_next, taken_all}
use Rattle.pass_strain.proofs.take_line.Goals as goal

pub list_shown-many-requires : goal.list_shown-many-requires
unfolding sides
list_shown-many-requires c =
    let L = c.face_line-face.ensures.line in
    (omega (arith, walk_room L c.requires.1, c.requires.0.whole), omega (arith, c.requires.0.sized, L.width), L.count, omega (arith, c.requires.4))

pub loop-x-init : goal.loop-x-init
loop-x-init c = take_none _ _ _ _ _ c.face_line-face.ensures.line _ _ _

pub overflow_add-v : goal.overflow_add-v
unfolding sides
overflow_add-v c =
    let L = c.face_line-face.ensures.line in
    let K = listed_front _ _ _ _ _ _ c.list_shown-many.ensures in
    let n = length-take-le c.list_shown-many.result c.list_shown-many.new.list (omega (arith, K.few, c.requires.4)) in
    let x = listed_cell _ _ _ _ _ _ _ _ _ L _ _ K _ _ _ _ _ c.loop-x.invariant (omega (arith, n)) in
    record { fits = omega (arith, bounds _ _ c.requires.0.sized c.requires.1, c.requires.0.sized, c.face_line-face.ensures.first, L.width, x.0) }

pub overflow_add-face : goal.overflow_add-face
overflow_add-face c =
    let L = c.face_line-face.ensures.line in
    let K = listed_front _ _ _ _ _ _ c.list_shown-many.ensures in
    let n = length-take-le c.list_shown-many.result c.list_shown-many.new.list (omega (arith, K.few, c.requires.4)) in
    let x = listed_cell _ _ _ _ _ _ _ _ _ L _ _ K _ _ _ _ _ c.loop-x.invariant (omega (arith, n)) in
    record { fits = omega (arith, walk_fits L _ x.0 c.requires.0.sized c.requires.1) }

pub take_cell-requires : goal.take_cell-requires
take_cell-requires c =
    let L = c.face_line-face.ensures.line in
    let K = listed_front _ _ _ _ _ _ c.list_shown-many.ensures in
    let n = length-take-le c.list_shown-many.result c.list_shown-many.new.list (omega (arith, K.few, c.requires.4)) in
    let x = listed_cell _ _ _ _ _ _ _ _ _ L _ _ K _ _ _ _ _ c.loop-x.invariant (omega (arith, n)) in
    (line_beside _ _ _ c.face_line-face.ensures _ x.0 c.requires.1 x.1 x.2 _ _ _ c.requires.0, line_spot _ _ _ c.face_line-face.ensures _ x.0 c.requires.1 x.1 x.2)

pub loop-x-preserved : goal.loop-x-preserved
loop-x-preserved c =
    let L = c.face_line-face.ensures.line in
    let K = listed_front _ _ _ _ _ _ c.list_shown-many.ensures in
    let n = length-take-le c.list_shown-many.result c.list_shown-many.new.list (omega (arith, K.few, c.requires.4)) in
    take_next _ _ _ _ _ _ _ _ _ L _ _ K _ _ _ _ _ c.loop-x.invariant (omega (arith, n)) _ _ c.take_cell.ensures.sum c.take_cell.ensures.count

pub returns-clause-sum : goal.returns-clause-sum
returns-clause-sum c =
    let L = c.face_line-face.ensures.line in
    let K = listed_front _ _ _ _ _ _ c.list_shown-many.ensures in
    let n = length-take-le c.list_shown-many.result c.list_shown-many.new.list (omega (arith, K.few, c.requires.4)) in
    (taken_all _ _ _ _ _ _ _ _ _ L _ _ K _ _ _ _ _ c.loop-x.invariant (omega (arith, n)) (omega (arith, n))).0

pub returns-clause-count : goal.returns-clause-count
returns-clause-count c =
    let L = c.face_line-face.ensures.line in
    let K = listed_front _ _ _ _ _ _ c.list_shown-many.ensures in
    let n = length-take-le c.list_shown-many.result c.list_shown-many.new.list (omega (arith, K.few, c.requires.4)) in
    (taken_all _ _ _ _ _ _ _ _ _ L _ _ K _ _ _ _ _ c.loop-x.invariant (omega (arith, n)) (omega (arith, n))).1
