-- A turn writes the next cell down, and keeps it if it shows a number.
use Rattle.std.proofs.Common.{◌≡◌, ◌+◌, ◌*◌, refl, arith}
use Rattle.pass_strain.proofs.ShownLaws.{grow_start, grow}
use Rattle.pass_strain.proofs.list_shown.Goals as goal

pub loop-k-init : goal.loop-k-init
loop-k-init c = let z : c.args.line.start + 2 * 0 ≡ c.args.line.start = omega arith in rw z (grow_start _ _ _ _ _)

pub loop-k-preserved : goal.loop-k-preserved
loop-k-preserved c =
    let s : c.args.line.start + 2 * (c.loop-k.k + 1) ≡ c.args.line.start + 2 * c.loop-k.k + 2 = omega arith in
    rw s (grow _ _ _ _ _ _ _ c.loop-k.invariant (omega (arith, c.requires.2)) c.requires.1 (omega (arith, c.requires.3)) _ _ c.from-many.ensures refl)
