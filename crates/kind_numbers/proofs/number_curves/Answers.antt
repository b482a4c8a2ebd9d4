-- There are no more numbers than components, and what the passes leave is the record.
use Rattle.kind_numbers.proofs.NumberedLaws.{rows_room, numbered_curves}
use Rattle.kind_numbers.proofs.number_curves.Goals as goal

pub curve_rows-requires : goal.curve_rows-requires
curve_rows-requires c = let R = c.rank_kind-total.ensures in rows_room _ _ _ _ _ _ _ _ R.any_kind 4 R.spare_len_unchanged c.requires.2 c.requires.3

pub write_firsts-requires : goal.write_firsts-requires
write_firsts-requires c = let R = c.rank_kind-total.ensures in (rows_room _ _ _ _ _ _ _ _ R.any_kind 4 R.spare_len_unchanged c.requires.2 c.requires.3).0

pub returns : goal.returns
returns c =
    let R = c.rank_kind-total.ensures in
    numbered_curves _ _ _ _ _ _ _ _ _ _ _ _ _ R.any_kind c.requires.2 R.spare_len_unchanged c.write_firsts.ensures _ c.requires.3 c.curve_rows.ensures
