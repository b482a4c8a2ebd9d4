use Rattle.std.proofs.Common.{arith, ap}
use Rattle.parser.specs.Scanning.{told_value}
use Rattle.parser.proofs.ScanLaws.{closed_none, closed_counted, closed_broken, closed_many, closed_other}
use Rattle.parser.proofs.Scanner.close.Goals as goal
use Rattle.parser.proofs.Scanner.close.Goals.{in-Some, in_default, in_default-via-in-Some+then-not-self+else-self-lt515, in_default-via-in-Some+else-not-self, in_default-via-in_default}

pub returns-after-self-clause-closed : goal.returns-after-self-clause-closed
returns-after-self-clause-closed c =
    elim c.match-self.branch [
      | in-Some w ↦ rw w.self-is (closed_counted _ _ c.if-self-gt0.true w.in-Some.value _ (ap told_value w.in-Some.is) (omega arith) w.if-not-self.true w.if-self-lt515.true w.keep.ensures.kept)
      | in_default w ↦
          elim w.in_default.branch [
            | in_default-via-in-Some+then-not-self+else-self-lt515 x ↦ rw w.self-is (closed_many _ _ c.if-self-gt0.true x.if-self-lt515.false)
            | in_default-via-in-Some+else-not-self x ↦ rw w.self-is (closed_broken _ _ c.if-self-gt0.true x.if-not-self.false)
            | in_default-via-in_default x ↦ rw w.self-is (closed_other _ _ c.if-self-gt0.true (ap told_value x.in_default.is))
          ]
    ]

pub returns-else-self-gt0-clause-closed : goal.returns-else-self-gt0-clause-closed
returns-else-self-gt0-clause-closed c = closed_none _ _ c.if-self-gt0.false
