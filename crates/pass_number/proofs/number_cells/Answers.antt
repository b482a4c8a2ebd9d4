-- A turn numbers the cells of the next line.
use Rattle.std.proofs.Common.{◌≡◌, ap, ◌∙◌, sym, arith}
use native.Mathlib.Nat.{zero-mul}
use Rattle.closure.proofs.Numbers.{count_bound}
use Rattle.cells.specs.Grid.{sides}
use Rattle.lines.specs.Lines.{line_count}
use Rattle.lines.proofs.LineLaws.{cells_lines}
use Rattle.pass_number.specs.Scan.{Scan}
use Rattle.pass_number.proofs.ScanLaws.{numbers_none, numbers_line, numbers_all}
use Rattle.pass_number.proofs.number_cells.Goals as goal

pub loop-l-init : goal.loop-l-init
loop-l-init c = rw zero-mul (numbers_none _ _ _ _)

pub number_line-total-requires : goal.number_line-total-requires
number_line-total-requires c =
    let l = c.loop-l in (
      c.requires.0,
      l.auto.map ∙ c.requires.1,
      l.auto.links ∙ c.requires.3.size,
      c.requires.2,
      omega arith,
      rw (ap (λ (s : Scan). s.total) l.invariant) (count_bound _ _),
    )

pub loop-l-preserved : goal.loop-l-preserved
unfolding sides
loop-l-preserved c =
    (rw c.loop-l.invariant at c.number_line-total.ensures) ∙ numbers_line _ _ _ _ c.requires.1 c.requires.3 _ (omega arith)

pub returns : goal.returns
unfolding sides
returns c =
    let last : c.loop-l.l ≡ line_count c.args.e = omega arith in
    let N = numbers_all _ _ _ _ c.requires.1 c.requires.3 c.loop-l.invariant (rw last (sym (cells_lines _))) in
    record { numbers = N.0; total = N.1; cleared = N.2 }
