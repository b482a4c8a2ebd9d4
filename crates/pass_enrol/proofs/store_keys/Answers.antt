-- A turn takes in the line before those taken in.
use Rattle.std.proofs.Common.{◌≡◌, ◌+◌, ◌-◌, arith}
use Rattle.pass_enrol.proofs.KeyLaws.{lines_start, lines_next, lines_end}
use Rattle.pass_enrol.proofs.store_keys.Goals as goal

pub loop-l-init : goal.loop-l-init
loop-l-init c = lines_start _ _ _ _ _ _ _ _ (omega arith)

pub loop-l-preserved : goal.loop-l-preserved
loop-l-preserved c =
    let s : c.loop-l.l - 1 + 1 ≡ c.loop-l.l = omega arith in
    lines_next _ _ _ _ _ _ _ _ _ _ (omega arith) (rw s c.loop-l.invariant) c.key_line.ensures

pub returns : goal.returns
returns c =
    let z : c.loop-l.l ≡ 0 = omega arith in
    lines_end _ _ _ _ _ _ _ _ _ _ c.requires.4 c.write_value.ensures (rw z at c.loop-l.invariant)
