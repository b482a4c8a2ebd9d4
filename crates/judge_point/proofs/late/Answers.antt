-- The curves' final numbers come first, then the room for points.
use Rattle.std.proofs.Common.{arith}
use Rattle.judge_point.proofs.TestLaws.{late_stray, late_full, late_found}
use Rattle.judge_point.proofs.late.Goals as goal

pub returns-then-not-numbers_stand : goal.returns-then-not-numbers_stand
returns-then-not-numbers_stand c = late_stray c.args.job _ _ _ _ _ c.numbers_stand.ensures c.if-not-numbers_stand.true

pub returns-then-from : goal.returns-then-from
returns-then-from c =
    late_full c.args.job _ _ _ _ _ c.numbers_stand.ensures c.if-not-numbers_stand.false _ c.count_points-points.ensures (omega (arith, c.if-from.true, c.from.ensures, c.from-2.ensures, c.from-3.ensures))

pub returns : goal.returns
returns c =
    late_found c.args.job _ _ _ _ _ c.numbers_stand.ensures c.if-not-numbers_stand.false _ c.count_points-points.ensures (omega (arith, c.if-from.false, c.from.ensures, c.from-2.ensures, c.from-3.ensures))
