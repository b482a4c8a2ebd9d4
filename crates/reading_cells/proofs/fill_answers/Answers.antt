-- One answer more is given.
use Rattle.std.proofs.Common.{refl, arith}
use Rattle.lists.proofs.Lists.{front_none}
use Rattle.reading_cells.specs.Inner.{sent}
use Rattle.reading_cells.proofs.AnswerLaws.{filling, answers_more}
use Rattle.reading_cells.proofs.fill_answers.Goals as goal

pub loop-i-init : goal.loop-i-init
loop-i-init c =
    front_none c.args.answers.now (filling c.args.job c.args.from c.args.tables.now.faces.now c.args.tables.now.curves.now c.args.tables.now.points.now c.args.m.now (sent c.args.cells.now) c.args.answers.now)

pub loop-i-preserved : goal.loop-i-preserved
loop-i-preserved c =
    answers_more c.args.job c.args.from c.args.tables.now.faces.now c.args.tables.now.curves.now c.args.tables.now.points.now c.args.m.now (sent c.args.cells.now) c.args.answers.now
    _ _ _ _ _ (omega arith) c.loop-i.invariant c.cell_at.ensures refl c.answer_at.ensures
