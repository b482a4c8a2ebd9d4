-- The tables of a crossing step, and when it is not refused.
-- Assumes nothing.
use Rattle.std.specs.Prelude.{◌≡◌, List, ℕ}
use Rattle.joiner.specs.Job.{Tables, State}
use Rattle.joiner.specs.Calls.{cross}
use Rattle.joiner.specs.Declines.{refusal}
use Rattle.judge.specs.declared.KindLengths.{KindLengths}
use Rattle.job.specs.Lent.{no_tables, cross_lent}

-- The tables that a crossing is lent: each of faces, then of curves. The others go unread.
abbrev pub lent : List ℕ → List ℕ → List ℕ → List ℕ → List ℕ → List ℕ → List ℕ → List ℕ → List ℕ → List ℕ → List ℕ → List ℕ → List ℕ → List ℕ → Tables
lent ticks blocks fl cl fk ck fr cr fn cn ff cf fs cs = cross_lent no_tables ticks blocks fl cl fk ck fr cr fn cn ff cf fs cs

-- The lengths of a table of faces and one of curves.
abbrev pub two_lengths : ℕ → ℕ → KindLengths
two_lengths faces curves = record { faces = faces; curves = curves; points = 0 }

-- The step is not refused.
pub record Ready (s : State) (b : ℕ) (m : List ℕ) : Type 0 where
  pub none : refusal s (cross b m) ≡ 0
