-- A code and the 0 behind it are laid in a turn, and the last code after it.
use Rattle.std.proofs.Common.{◌≡◌, ◌+◌, ◌-◌, ◌*◌, length, refl, ap, ◌∙◌, arith}
use Rattle.lists.specs.Lists.{overlay}
use Rattle.pass_fill.specs.CodeOn.{code_on}
use Rattle.pass_fill.proofs.FillLaws.{code_laid, gap_laid}
use Rattle.pass_fill.proofs.lay_codes.Goals as goal

pub loop-i-init : goal.loop-i-init
unfolding overlay
loop-i-init c = refl

pub loop-i-preserved : goal.loop-i-preserved
loop-i-preserved c =
    let a = c.args in
    rw c.loop-i.invariant (gap_laid a.codes.now a.map.now a.base c.loop-i.i)

pub returns : goal.returns
returns c =
    let a = c.args in
    let end : c.loop-i.i ≡ length a.codes.now - 1 = omega arith in
    let cells : 2 * (length a.codes.now - 1) + 1 ≡ 2 * length a.codes.now - 1 = omega arith in
    rw (c.loop-i.invariant, end) (code_laid a.codes.now a.map.now a.base (length a.codes.now - 1) ∙ ap (overlay a.map.now a.base (code_on a.codes.now 0)) cells)
