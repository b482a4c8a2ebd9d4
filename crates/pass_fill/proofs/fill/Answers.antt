-- A turn lays the codes of the next line.
use Rattle.std.proofs.Common.{ℕ, ◌+◌, ◌-◌, ◌*◌, ◌≤◌, ◌≡◌, sym, ◌∙◌, arith}
use native.Mathlib.Nat.{zero-mul, mul-le-mul_right}
use Rattle.lists.proofs.Lists.{front_none, front_all}
use Rattle.lists.proofs.Overlay.{front_overlay}
use Rattle.cells.specs.Grid.{sides, cells}
use Rattle.labels.specs.Number.{code_at}
use Rattle.lines.specs.Lines.{line_count}
use Rattle.lines.proofs.LineLaws.{cells_lines}
use Rattle.pass_fill.proofs.fill.Goals as goal

pub loop-l-init : goal.loop-l-init
loop-l-init c = rw zero-mul (front_none _ _)

pub loop-l-preserved : goal.loop-l-preserved
unfolding sides
loop-l-preserved c =
    let a = c.args in
    let w : ℕ = 2 * a.e.x - 1 in
    let l = c.loop-l in
    let next : l.l * w + w ≡ (l.l + 1) * w = omega arith in
    let within : (l.l + 1) * w ≤ line_count a.e * w = mul-le-mul_right w (omega arith) in
    (rw l.invariant at c.fill_line.ensures) ∙ front_overlay a.map.now (code_at a.e a.codes.now) (l.l * w) w (omega (arith, cells_lines a.e, c.requires.2)) ∙ rw next

pub returns : goal.returns
unfolding sides
returns c =
    let a = c.args in
    let l = c.loop-l in
    let last : l.l ≡ line_count a.e = omega arith in
    let end : l.l * (2 * a.e.x - 1) ≡ cells a.e = rw last (sym (cells_lines a.e)) in
    l.invariant ∙ rw end (front_all a.map.now (code_at a.e a.codes.now) (cells a.e) c.requires.2)
