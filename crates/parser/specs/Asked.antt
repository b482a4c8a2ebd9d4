-- What the program is to do once the scanner has read a text to its end.
-- Assumes nothing.
use Rattle.std.specs.Prelude.{Result, Ok, Err, Bool, cond, not, ◌&&◌, List, ℕ, ◌-◌, eqb, leb}
use Rattle.refusals.specs.declared.Refusal.{Refusal}
use Rattle.refusals.specs.Refusals.{number}
use Rattle.cells.specs.Box.{triple, volume}
use Rattle.cells.specs.declared.Triple.{Triple}
use Rattle.cells.specs.Extents.{off_size}
use Rattle.parser.specs.Scanning.{Seen, State, closed}

-- What the program is to do once the text has ended: list the volume of these extents, or print the line `refused` with this number.
pub data Task : Type 0 where
  ListVolume : ℕ → ℕ → ℕ → Task
  PrintRefused : ℕ → Task

-- .. as an answer tells it.
abbrev pub told : Result Triple Refusal → Task
told (Ok e) = Task.ListVolume e.x e.y e.z
told (Err r) = Task.PrintRefused (number r)

-- What is to be done, and what the tray of codes holds.
pub record Outcome : Type 0 where
  pub task : Task
  pub tray : List ℕ

abbrev pub outcome : Task → List ℕ → Outcome
outcome t d = record { task = t; tray = d }

-- The line `refused` with number n, or, where n is 0, the listing of a volume of these extents.
unfoldable pub task_of : ℕ → Triple → Task
task_of n e = cond (eqb n 0) (Task.ListVolume e.x e.y e.z) (Task.PrintRefused n)

-- The extents, where three numbers have been read.
abbrev pub extents_seen : Seen → Triple
extents_seen s = triple s.nx s.ny s.nz

-- The extents can be read, and are off size.
unfoldable pub off_extents : Seen → Bool
off_extents s = leb 3 s.count && off_size 8 (extents_seen s)

-- The text has its form: numbers only, three extents of a right size, and exactly as many codes as voxels.
unfoldable pub whole_text : Seen → Bool
whole_text s = not s.broken && (leb 3 s.count && (not (off_size 8 (extents_seen s)) && eqb (s.count - 3) (volume (extents_seen s))))

-- The number that the line `refused` shows, 0 for no such line: `text_read` (proofs/TextLaws) says that it is that of the text.
unfoldable pub line_number : Seen → ℕ
line_number s = cond (off_extents s) (number Refusal.OffSize) (cond (not (whole_text s)) (number Refusal.BadRecord) 0)

-- What is to be done.
unfoldable pub task_seen : Seen → Task
task_seen s = task_of (line_number s) (extents_seen s)

-- The last word ends, and what is to be done is told.
unfoldable pub finished : State → Outcome
finished st = let t = closed st.seen st.codes in outcome (task_seen t.seen) t.codes
