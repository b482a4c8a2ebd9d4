-- What a result sheet shows of a closed job, for the corollaries of statement 3: the cutting and the order of the calls leave no trace.
-- Assumes nothing.
use Rattle.std.specs.Prelude.{◌≡◌, List, [], ◌∷◌, ℕ, ◌*◌, ◌<◌, length, take}
use Rattle.cells.specs.Box.{volume}
use Rattle.cells.specs.declared.Triple.{Triple}
use Rattle.labels.specs.Number.{labels}
use Rattle.cutting.specs.Cutting.{blocks, block_extents, block_codes}
use Rattle.joiner.specs.Job.{Kind, width, Closed, Told, Tables, State}
use Rattle.joiner.specs.Outcomes.{Opened}
use Rattle.joiner.specs.Statement.{Event, Run, Fair}

-- The job and tables that a list of calls leaves.
abbrev pub last_state : State → List Event → State
last_state s [] = s
last_state s (e ∷ es) = last_state e.after es

-- s is left, closed, by some list of calls after some accepted opening for the volume of extents e with these codes.
pub record ClosedJob (e : Triple) (codes : List ℕ) (s : State) : Type 0 where
  pub told : Told
  pub lent : Tables
  pub begin : State
  pub calls : List Event
  pub own : ℕ → List ℕ
  pub extents : told.cutting.extents ≡ e
  pub many : length codes ≡ volume e
  pub maps : (b : ℕ) → b < blocks told.cutting → own b ≡ labels (block_extents told.cutting b) (block_codes told.cutting b codes)
  pub opened : Opened told lent begin
  pub run : Run begin calls
  pub fair : Fair own calls
  pub left : last_state begin calls ≡ s
  pub closed : s.job.stage ≡ Closed

-- What the sheet shows of a kind: how many there are, where each begins, and its row.
pub record Sheet (s : State) (κ : Kind) (many : ℕ) (firsts rows : List ℕ) : Type 0 where
  pub count_is : s.job.numbered κ ≡ many
  pub firsts_are : take many (s.tables.firsts κ) ≡ firsts
  pub rows_are : take (width κ * many) (s.tables.listed κ) ≡ rows
