-- The job that the code holds, and the tables that it is lent, as the joiner's definitions see them.
-- Assumes nothing.
use Rattle.std.specs.Prelude.{List, [], ◌∷◌, ℕ, ◌*◌, Result, Ok, Err}
use Rattle.cells.specs.Box.{triple}
use Rattle.joiner.specs.Job.{Kind, Face, Curve, Point, Told, Tables, State, Tray, tray, numbers_per_block, ticks_per_block}
use Rattle.joiner.specs.Job as joiner
use Rattle.joiner.specs.Outcomes.{Unopened}
use Rattle.blocks.specs.declared.Cuts.{Cuts}
use Rattle.job.specs.declared.Stage.{Stage}
use Rattle.job.specs.declared.Job.{Job}
use Rattle.refusals.specs.declared.Refusal.{Refusal}
use Rattle.counts.specs.declared.Counts.{Counts}

-- One of three by kind.
abbrev pub by_kind {ℓ} : {A : Type ℓ} → A → A → A → Kind → A
by_kind a b c Face = a
by_kind a b c Curve = b
by_kind a b c Point = c

-- The stages by name.
abbrev pub stage_of : Stage → joiner.Stage
stage_of Stage.Enrol = joiner.Enrol
stage_of Stage.Seam = joiner.Seam
stage_of Stage.Crossing = joiner.Crossing
stage_of Stage.Points = joiner.Points
stage_of Stage.Closed = joiner.Closed

-- What an opening is told: extents, cut lists, and the entries of the tables of faces, curves and points.
abbrev pub told_by : ℕ → ℕ → ℕ → List ℕ → List ℕ → List ℕ → ℕ → ℕ → ℕ → Told
told_by nx ny nz cx cy cz faces curves points =
    record { cutting = record { extents = triple nx ny nz; cx = cx; cy = cy; cz = cz }; entries = by_kind faces curves points }

-- The job holds extents and entries, the cut lists are lent.
abbrev pub told_of : Job → List ℕ → List ℕ → List ℕ → Told
told_of j cx cy cz = told_by j.nx j.ny j.nz cx cy cz j.entries.faces j.entries.curves j.entries.points

-- The tally of what stands in the tables so far, by kind.
abbrev pub sofar_tally : Job → Kind → ℕ
sofar_tally j = by_kind j.sofar.faces j.sofar.curves j.sofar.points

-- The tally of what is numbered, by kind.
abbrev pub numbered_tally : Job → Kind → ℕ
numbered_tally j = by_kind j.numbered.faces j.numbered.curves j.numbered.points

-- Stage and tallies.
abbrev pub job_of : Job → List ℕ → List ℕ → List ℕ → joiner.Job
job_of j cx cy cz = record { told = told_of j cx cy cz; stage = stage_of j.stage; sofar = sofar_tally j; numbered = numbered_tally j }

-- What holds whatever the cut lists are.
abbrev pub AnyCuts : (List ℕ → List ℕ → List ℕ → Type 0) → Type 0
AnyCuts P = (cx cy cz : List ℕ) → P cx cy cz

-- What holds whatever the tables are. An export's contract takes out of them those that the call is not lent.
abbrev pub AnyTables : (Tables → Type 0) → Type 0
AnyTables P = (t : Tables) → P t

-- The tables, in the order in which a public entry is lent them. Points have no links.
abbrev pub tables_of : List ℕ → List ℕ → List ℕ → List ℕ → List ℕ → List ℕ → List ℕ → List ℕ → List ℕ → List ℕ → List ℕ → List ℕ → List ℕ → List ℕ → List ℕ → List ℕ
    → List ℕ → List ℕ → List ℕ → Tables
tables_of ticks blocks face_links curve_links face_keys curve_keys point_keys face_rows curve_rows point_rows face_numbers curve_numbers point_numbers
    face_firsts curve_firsts point_firsts face_listed curve_listed point_listed =
    record {
      ticks = ticks;
      blocks = blocks;
      links = by_kind face_links curve_links [];
      keys = by_kind face_keys curve_keys point_keys;
      rows = by_kind face_rows curve_rows point_rows;
      numbers = by_kind face_numbers curve_numbers point_numbers;
      firsts = by_kind face_firsts curve_firsts point_firsts;
      listed = by_kind face_listed curve_listed point_listed;
    }

-- The job with its tables.
abbrev pub state_of : Job → List ℕ → List ℕ → List ℕ → Tables → State
state_of j cx cy cz t = record { job = job_of j cx cy cz; tables = t }

-- No faces, no curves, no points.
abbrev pub no_counts : Counts
no_counts = record { faces = 0; curves = 0; points = 0 }

-- .. with lent cut lists.
abbrev pub job_by : Job → Cuts → joiner.Job
job_by j c = job_of j c.x.now c.y.now c.z.now

abbrev pub state_by : Job → Cuts → Tables → State
state_by j c t = state_of j c.x.now c.y.now c.z.now t

-- A job in the first stage, told these extents and entries.
abbrev pub fresh_job : ℕ → ℕ → ℕ → Counts → Job
fresh_job nx ny nz n = record { stage = Stage.Enrol; nx = nx; ny = ny; nz = nz; entries = n; sofar = no_counts; numbered = no_counts }

-- The job of a refused opening, whatever it was told and lent: "every other field 0 or empty".
abbrev pub NoJob : Job → Type 0
NoJob j = (o : Told) (t : Tables) → Unopened o t (state_of j o.cutting.cx o.cutting.cy o.cutting.cz t)

-- ---- the joiner's trays, of tables that go in by their lengths

-- Those of b blocks.
abbrev pub block_lengths : ℕ → ℕ → ℕ → List Tray
block_lengths b ticks numbers = tray ticks (ticks_per_block * b) ∷ tray numbers (numbers_per_block * b) ∷ []

-- The links, of so many faces and curves.
abbrev pub link_lengths : ℕ → ℕ → ℕ → ℕ → List Tray
link_lengths faces curves face_links curve_links = tray face_links faces ∷ tray curve_links curves ∷ []

-- Keys and rows of one kind, whose rows have w places, of n entries.
abbrev pub found_lengths : ℕ → ℕ → ℕ → ℕ → List Tray
found_lengths w n keys rows = tray keys n ∷ tray rows (w * n) ∷ []

-- All tables of one kind.
abbrev pub kind_lengths : ℕ → ℕ → ℕ → ℕ → ℕ → ℕ → ℕ → List Tray
kind_lengths w n keys rows numbers firsts listed = tray keys n ∷ tray rows (w * n) ∷ tray numbers n ∷ tray firsts n ∷ tray listed (w * n) ∷ []

-- The tables of the readings, of b blocks and so many faces.
abbrev pub total_lengths : ℕ → ℕ → ℕ → ℕ → ℕ → List Tray
total_lengths b faces came sums counts = tray came b ∷ tray sums (2 * faces) ∷ tray counts (6 * faces) ∷ []

-- The job after a call that hands one on: where it is refused, the job before.
abbrev pub job_after : Job → Result Job Refusal → Job
job_after j (Ok k) = k
job_after j (Err r) = j
