-- A line of voxels holds its codes, and any other line zeros.
use Rattle.std.proofs.Common.{ℕ, ◌+◌, ◌-◌, ◌*◌, ◌/◌, ◌%◌, refl, sym, ◌∙◌, arith}
use Rattle.lists.proofs.Overlay.{overlay_same}
use Rattle.cells.specs.declared.Triple.{Triple}
use Rattle.cells.specs.Grid.{sides}
use Rattle.lines.specs.Lines.{line_y, line_z}
use Rattle.lines.proofs.WalkLaws.{walk_room}
use Rattle.pass_fill.proofs.FillLaws.{voxels_there, voxels_none, code_line, other_cell, room, length-run_of, slice_laid}
use Rattle.pass_fill.proofs.fill_line.Goals as goal

pub line_with-line-requires : goal.line_with-line-requires
unfolding sides line_y line_z
line_with-line-requires c = let p = c.requires in (p.0, p.3, refl)

pub overflow_mul-v : goal.overflow_mul-v
overflow_mul-v c = omega (arith, room c.args.e c.args.l c.requires.0 c.requires.3)

pub overflow_mul-v-then-line-eq0 : goal.overflow_mul-v-then-line-eq0
overflow_mul-v-then-line-eq0 c = omega (arith, room c.args.e c.args.l c.requires.0 c.requires.3)

pub overflow_mul-v-then-line-eq0-2 : goal.overflow_mul-v-then-line-eq0-2
overflow_mul-v-then-line-eq0-2 c = omega (arith, room c.args.e c.args.l c.requires.0 c.requires.3)

pub overflow_add-v : goal.overflow_add-v
overflow_add-v c = omega (arith, room c.args.e c.args.l c.requires.0 c.requires.3)

-- The place of the line's first code, as the code computes it.
abbrev first : Triple → ℕ → ℕ
first e l = l % (2 * e.y - 1) / 2 * e.x + l / (2 * e.y - 1) / 2 * (e.x * e.y)

pub overflow_add-v-then-line-eq0 : goal.overflow_add-v-then-line-eq0
overflow_add-v-then-line-eq0 c = omega (arith, room c.args.e c.args.l c.requires.0 c.requires.3)

pub offset_bounds-codes-v : goal.offset_bounds-codes-v
offset_bounds-codes-v c = omega (arith, room c.args.e c.args.l c.requires.0 c.requires.3)

pub slice_bounds-lay_codes-end : goal.slice_bounds-lay_codes-end
slice_bounds-lay_codes-end c = omega (arith, room c.args.e c.args.l c.requires.0 c.requires.3, c.requires.1)

pub lay_codes-requires : goal.lay_codes-requires
unfolding sides
lay_codes-requires c =
    let e = c.args.e in
    let r = room e c.args.l c.requires.0 c.requires.3 in
    let n = length-run_of c.args.codes.now (first e c.args.l) e.x (omega (arith, r, c.requires.1)) in
    rw n (omega (arith, c.requires.0), omega (arith, r, c.requires.2, c.line_with-line.ensures.base))

pub write_zeros-requires : goal.write_zeros-requires
unfolding sides
write_zeros-requires c =
    let L = c.line_with-line.ensures in
    omega (arith, walk_room L c.requires.3, L.width, c.requires.0, c.requires.2)

pub returns-then-line-eq0 : goal.returns-then-line-eq0
unfolding sides
returns-then-line-eq0 c =
    let a = c.args in
    let L = c.line_with-line.ensures in
    (rw L.base at c.lay_codes.ensures)
    ∙ slice_laid a.codes.now (first a.e a.l) a.e.x (omega (arith, room a.e a.l c.requires.0 c.requires.3, c.requires.1)) _ _
    ∙ sym (overlay_same _ _ _ _ _ (λ x h. code_line a.e a.codes.now a.l x h (voxels_there L (omega (arith, c.requires.0)) c.if-line-eq0.true)))

pub returns-else-line-eq0 : goal.returns-else-line-eq0
unfolding sides
returns-else-line-eq0 c =
    let a = c.args in
    let L = c.line_with-line.ensures in
    (rw (L.base, L.width) at c.write_zeros.ensures)
    ∙ sym (overlay_same _ _ _ _ _ (λ x h. other_cell a.e a.codes.now a.l x h (voxels_none L c.if-line-eq0.false)))
