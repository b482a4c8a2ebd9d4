-- The first i answers are given, and the others are as they were.
use Rattle.reading_cells.specs.Inner.{sent}
use Rattle.reading_cells.proofs.AnswerLaws.{FilledTo}
use Rattle.reading_cells.proofs.fill_answers.Given as goal

abbrev pub invariant-loop-i : goal.invariant-loop-i
invariant-loop-i l = FilledTo l.job l.from l.tables.faces.now l.tables.curves.now l.tables.points.now l.m (sent l.cells) l.initial.answers l.i l.answers
