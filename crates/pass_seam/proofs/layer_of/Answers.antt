-- On each axis the walk's steps are those of the grid.
use Rattle.std.proofs.Common.{refl, arith}
use Rattle.pass_seam.proofs.LayerOf.{layer_x, layer_y, layer_z}
use Rattle.pass_seam.proofs.layer_of.Goals as goal
use Rattle.pass_seam.proofs.layer_of.Goals.{in-1, in-2, in_default}

pub returns-then-last : goal.returns-then-last
returns-then-last c =
    elim c.match-axis.branch [
      | in-1 w ↦ rw w.column-is (layer_x c.args.e c.args.axis c.args.last _ w.in-1.is (rw c.if-last.true refl))
      | in-2 w ↦ rw w.column-is (layer_y c.args.e c.args.axis c.args.last _ w.in-2.is (rw c.if-last.true refl))
      | in_default w ↦ rw w.column-is (layer_z c.args.e c.args.axis c.args.last _ (λ h. omega arith) (λ h. omega arith) (rw c.if-last.true refl))
    ]

pub returns-else-last : goal.returns-else-last
returns-else-last c =
    elim c.match-axis.branch [
      | in-1 w ↦ rw w.column-is (layer_x c.args.e c.args.axis c.args.last _ w.in-1.is (rw c.if-last.false refl))
      | in-2 w ↦ rw w.column-is (layer_y c.args.e c.args.axis c.args.last _ w.in-2.is (rw c.if-last.false refl))
      | in_default w ↦ rw w.column-is (layer_z c.args.e c.args.axis c.args.last _ (λ h. omega arith) (λ h. omega arith) (rw c.if-last.false refl))
    ]
