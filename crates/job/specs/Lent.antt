-- The tables of a call: those that it is lent, in the order of its parameters, and every other out of t. The positions of the nineteen tables stand here
-- and in `tables_of` alone.
-- Assumes nothing.
use Rattle.std.specs.Prelude.{List, [], ℕ}
use Rattle.joiner.specs.Job.{Face, Curve, Point, Tables}
use Rattle.job.specs.JobState.{tables_of}

-- Empty tables: what a public entry's contract has for a table that it is not lent.
abbrev pub no_tables : Tables
no_tables = tables_of [] [] [] [] [] [] [] [] [] [] [] [] [] [] [] [] [] [] []

-- Of an enrolment.
abbrev pub enrol_lent : Tables → List ℕ → List ℕ → List ℕ → List ℕ → List ℕ → List ℕ → List ℕ → List ℕ → Tables
enrol_lent t ticks blocks face_links curve_links face_keys curve_keys face_rows curve_rows =
    tables_of ticks blocks face_links curve_links face_keys curve_keys (t.keys Point) face_rows curve_rows (t.rows Point) (t.numbers Face) (t.numbers Curve) (t.numbers Point) (t.firsts Face) (t.firsts Curve) (t.firsts Point) (t.listed Face) (t.listed Curve) (t.listed Point)

-- Of a seam.
abbrev pub seam_lent : Tables → List ℕ → List ℕ → List ℕ → List ℕ → Tables
seam_lent t ticks blocks face_links curve_links =
    tables_of ticks blocks face_links curve_links (t.keys Face) (t.keys Curve) (t.keys Point) (t.rows Face) (t.rows Curve) (t.rows Point) (t.numbers Face) (t.numbers Curve) (t.numbers Point) (t.firsts Face) (t.firsts Curve) (t.firsts Point) (t.listed Face) (t.listed Curve) (t.listed Point)

-- Of a crossing.
abbrev pub cross_lent : Tables → List ℕ → List ℕ → List ℕ → List ℕ → List ℕ → List ℕ → List ℕ → List ℕ → List ℕ → List ℕ → List ℕ → List ℕ → List ℕ → List ℕ → Tables
cross_lent t ticks blocks face_links curve_links face_keys curve_keys face_rows curve_rows face_numbers curve_numbers face_firsts curve_firsts face_listed curve_listed =
    tables_of ticks blocks face_links curve_links face_keys curve_keys (t.keys Point) face_rows curve_rows (t.rows Point) face_numbers curve_numbers (t.numbers Point) face_firsts curve_firsts (t.firsts Point) face_listed curve_listed (t.listed Point)

-- Of a point step.
abbrev pub point_lent : Tables → List ℕ → List ℕ → List ℕ → List ℕ → List ℕ → List ℕ → List ℕ → List ℕ → Tables
point_lent t ticks blocks point_keys point_rows curve_numbers point_numbers point_firsts point_listed =
    tables_of ticks blocks (t.links Face) (t.links Curve) (t.keys Face) (t.keys Curve) point_keys (t.rows Face) (t.rows Curve) point_rows (t.numbers Face) curve_numbers point_numbers (t.firsts Face) (t.firsts Curve) point_firsts (t.listed Face) (t.listed Curve) point_listed

-- Of a lookup.
abbrev pub look_lent : Tables → List ℕ → List ℕ → List ℕ → List ℕ → List ℕ → Tables
look_lent t ticks blocks face_numbers curve_numbers point_firsts =
    tables_of ticks blocks (t.links Face) (t.links Curve) (t.keys Face) (t.keys Curve) (t.keys Point) (t.rows Face) (t.rows Curve) (t.rows Point) face_numbers curve_numbers (t.numbers Point) (t.firsts Face) (t.firsts Curve) point_firsts (t.listed Face) (t.listed Curve) (t.listed Point)

-- Of a row reading.
abbrev pub row_lent : Tables → List ℕ → List ℕ → List ℕ → Tables
row_lent t face_listed curve_listed point_listed =
    tables_of t.ticks t.blocks (t.links Face) (t.links Curve) (t.keys Face) (t.keys Curve) (t.keys Point) (t.rows Face) (t.rows Curve) (t.rows Point) (t.numbers Face) (t.numbers Curve) (t.numbers Point) (t.firsts Face) (t.firsts Curve) (t.firsts Point) face_listed curve_listed point_listed
