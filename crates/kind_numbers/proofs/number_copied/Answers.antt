-- There are no more numbers than components, and what the passes leave is the record.
use Rattle.std.proofs.Common.{arith}
use Rattle.kind_numbers.proofs.NumberedLaws.{rows_room, numbered_copied}
use Rattle.kind_numbers.proofs.number_copied.Goals as goal

pub copy_rows-requires : goal.copy_rows-requires
copy_rows-requires c =
    let R = c.rank_kind-total.ensures in
    let r = rows_room _ _ _ _ _ _ _ _ R.any_kind _ R.spare_len_unchanged c.requires.n_in_bounds.2 c.requires.le_width.2 in
    (omega arith, omega arith, r.0, r.1)

pub write_firsts-requires : goal.write_firsts-requires
write_firsts-requires c =
    let R = c.rank_kind-total.ensures in
    (rows_room _ _ _ _ _ _ _ _ R.any_kind _ R.spare_len_unchanged c.requires.n_in_bounds.2 c.requires.le_width.2).0

pub returns : goal.returns
returns c =
    let R = c.rank_kind-total.ensures in
    numbered_copied _ _ _ _ _ _ _ _ _ _ _ _ _ R.any_kind c.requires.n_in_bounds.2 R.spare_len_unchanged c.write_firsts.ensures _ c.requires.le_width.2 c.copy_rows.ensures
