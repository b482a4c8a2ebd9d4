use Rattle.std.proofs.Common.{arith}
use Rattle.parser.proofs.ScanLaws.{kept_x, kept_y, kept_z, kept_code, kept_out}
use Rattle.parser.proofs.Scanner.keep.Goals as goal
use Rattle.parser.proofs.Scanner.keep.Goals.{in-0, in-1, in-2, in_default+then-place-self, in_default+else-place-self}

pub returns-clause-kept : goal.returns-clause-kept
returns-clause-kept c =
    elim c.match-self.branch [
      | in-0 w ↦ rw w.self-is (kept_x _ _ _ _ _ _ _ _ _ w.in-0.is)
      | in-1 w ↦ rw w.self-is (kept_y _ _ _ _ _ _ _ _ _ w.in-1.is)
      | in-2 w ↦ rw w.self-is (kept_z _ _ _ _ _ _ _ _ _ w.in-2.is)
      | in_default+then-place-self w ↦ rw w.self-is (kept_code _ _ _ _ _ _ _ _ _ (omega arith))
      | in_default+else-place-self w ↦ rw w.self-is (kept_out _ _ _ _ _ _ _ _ _ (omega arith) w.if-place-self.false)
    ]
