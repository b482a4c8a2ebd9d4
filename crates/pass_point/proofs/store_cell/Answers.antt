-- A point has room for its key and its row.
use Rattle.pass_point.proofs.StoreLaws.{store_none, store_one, room_one}
use Rattle.pass_point.proofs.store_cell.Goals as goal

pub returns-then-row-eq0 : goal.returns-then-row-eq0
returns-then-row-eq0 c = store_none _ _ _ _ _ _ _ _ _ _ _ c.found_row-row.ensures c.if-row-eq0.true

pub bounds-keys-at : goal.bounds-keys-at
bounds-keys-at c = (room_one _ _ _ _ _ _ _ _ _ c.found_row-row.ensures c.if-row-eq0.false c.requires.4).0

pub write_front-requires : goal.write_front-requires
write_front-requires c = (room_one _ _ _ _ _ _ _ _ _ c.found_row-row.ensures c.if-row-eq0.false c.requires.4).1

pub returns : goal.returns
returns c = search store_one
