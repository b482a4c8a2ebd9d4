-- A call and the tables that it is not lent.
-- Assumes nothing.
use Rattle.joiner.specs.Job.{Face, Curve, Point, Tables, State}
use Rattle.joiner.specs.Calls.{Call, enrol, join, cross, point, look, reading}
use Rattle.job.specs.Lent.{cross_lent, enrol_lent, look_lent, point_lent, row_lent, seam_lent}

-- The tables that a call is lent (`lent_to` of the joiner) out of t, every other table out of o.
abbrev pub tables_around : Call → Tables → Tables → Tables
tables_around (enrol b m) o t =
    enrol_lent o t.ticks t.blocks (t.links Face) (t.links Curve) (t.keys Face) (t.keys Curve) (t.rows Face) (t.rows Curve)
tables_around (join b c m n) o t =
    seam_lent o t.ticks t.blocks (t.links Face) (t.links Curve)
tables_around (cross b m) o t =
    cross_lent o t.ticks t.blocks (t.links Face) (t.links Curve) (t.keys Face) (t.keys Curve) (t.rows Face) (t.rows Curve) (t.numbers Face) (t.numbers Curve)
    (t.firsts Face) (t.firsts Curve) (t.listed Face) (t.listed Curve)
tables_around (point b m) o t =
    point_lent o t.ticks t.blocks (t.keys Point) (t.rows Point) (t.numbers Curve) (t.numbers Point) (t.firsts Point) (t.listed Point)
tables_around (look b m c) o t =
    look_lent o t.ticks t.blocks (t.numbers Face) (t.numbers Curve) (t.firsts Point)
tables_around (reading κ n) o t =
    row_lent o (t.listed Face) (t.listed Curve) (t.listed Point)

-- The state whose job and lent tables are those of s.
abbrev pub around : Call → Tables → State → State
around c o s = record { job = s.job; tables = tables_around c o s.tables }
