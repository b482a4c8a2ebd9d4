-- A turn writes the key of the cell before those that have written theirs.
use Rattle.std.proofs.Common.{◌≡◌, ◌+◌, ◌-◌, arith, refl}
use Rattle.cells.specs.Grid.{sides}
use Rattle.cells.proofs.ExtentLaws.{cells_high}
use Rattle.lines.specs.Lines.{line_y, line_z}
use Rattle.lines.proofs.WalkLaws.{cell_sum, cell_read}
use Rattle.pass_enrol.proofs.KeyLaws.{along_line, along_here, along_number, keys_none, keys_next, keys_all}
use Rattle.pass_enrol.proofs.PlaceLaws.{shift_in_lem, line_in}
use Rattle.pass_enrol.proofs.key_line.Goals as goal

pub line_with-line-requires : goal.line_with-line-requires
unfolding sides line_y line_z
line_with-line-requires c = (c.requires.0.sized, c.requires.5, refl)

pub embed-at-requires : goal.embed-at-requires
unfolding sides
embed-at-requires c = (c.requires.0.whole, shift_in_lem c.requires.0 _ (line_in _ _ (omega (arith, c.requires.0.sized)) c.requires.5))

pub loop-k-init : goal.loop-k-init
loop-k-init c = keys_none (along_line c.requires.0 c.requires.1 c.requires.3 c.requires.5 c.line_with-line.ensures c.embed-at.ensures) _ _ _ _ (omega arith)

pub overflow_add-line : goal.overflow_add-line
overflow_add-line c = record { fits = cell_sum c.line_with-line.ensures {k = c.loop-k.k - 1} (omega arith) c.requires.0.sized c.requires.5 }

pub offset_bounds-map-line : goal.offset_bounds-map-line
offset_bounds-map-line c =
    let i = along_here (along_line c.requires.0 c.requires.1 c.requires.3 c.requires.5 c.line_with-line.ensures c.embed-at.ensures) {k = c.loop-k.k - 1} (omega arith) in
    record { fits = omega (arith, i.within, cells_high c.requires.0.sized) }

pub bounds-map-line : goal.bounds-map-line
bounds-map-line c = cell_read c.line_with-line.ensures {k = c.loop-k.k - 1} (omega arith) c.requires.5 c.requires.1

pub overflow_add-at : goal.overflow_add-at
overflow_add-at c =
    let i = along_here (along_line c.requires.0 c.requires.1 c.requires.3 c.requires.5 c.line_with-line.ensures c.embed-at.ensures) {k = c.loop-k.k - 1} (omega arith) in
    record { fits = omega (arith, i.high) }

pub key_of-requires : goal.key_of-requires
key_of-requires c =
    let i = along_here (along_line c.requires.0 c.requires.1 c.requires.3 c.requires.5 c.line_with-line.ensures c.embed-at.ensures) {k = c.loop-k.k - 1} (omega arith) in
    (i.high, c.requires.2)

pub key_at-requires : goal.key_at-requires
key_at-requires c =
    let i = along_number (along_line c.requires.0 c.requires.1 c.requires.3 c.requires.5 c.line_with-line.ensures c.embed-at.ensures) {k = c.loop-k.k - 1} (omega arith) in
    omega (arith, i)

pub loop-k-preserved : goal.loop-k-preserved
loop-k-preserved c =
    let s : c.loop-k.k - 1 + 1 ≡ c.loop-k.k = omega arith in
    keys_next (along_line c.requires.0 c.requires.1 c.requires.3 c.requires.5 c.line_with-line.ensures c.embed-at.ensures) _ _ _ _ _ _ _ (omega arith) (rw s c.loop-k.invariant)
    c.key_of.ensures c.key_at.ensures

pub returns : goal.returns
returns c =
    let z : c.loop-k.k ≡ 0 = omega arith in
    keys_all (along_line c.requires.0 c.requires.1 c.requires.3 c.requires.5 c.line_with-line.ensures c.embed-at.ensures) _ _ _ _ (rw z at c.loop-k.invariant)
