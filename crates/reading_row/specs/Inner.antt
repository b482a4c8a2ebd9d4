-- The tests of a row reading by lengths, and the row by kind.
-- Assumes nothing.
use Rattle.std.specs.Prelude.{not, cond, ◌&&◌, List, [], ℕ, ◌-◌, ◌*◌, ◌≤◌, ◌<◌, leb, ltb, length, take, drop, Result, Ok, Err}
use Rattle.std.specs.Borrow.{Bor}
use Rattle.refusals.specs.declared.Refusal.{Refusal}
use Rattle.cells.specs.Box.{triple}
use Rattle.cells.specs.Extents.{off_size}
use Rattle.joiner.specs.Job.{Closed, Tables, same_stage, width, lengths_fit}
use Rattle.joiner.specs.Job as joiner
use Rattle.joiner.specs.Declines.{tallies_fit}
use Rattle.job.specs.declared.Job.{Job}
use Rattle.job.specs.JobState.{by_kind, stage_of, job_of, numbered_tally}
use Rattle.job.specs.Lent.{no_tables, row_lent}
use Rattle.judge.specs.declared.CallName.{CallName}
use Rattle.judge.specs.declared.Lengths.{Lengths}
use Rattle.judge.specs.Judge.{entries_of, lent_by}
use Rattle.reading_row.specs.declared.Kind.{Kind}

-- The kinds by name.
abbrev pub kind_of : Kind → joiner.Kind
kind_of Kind.Face = joiner.Face
kind_of Kind.Curve = joiner.Curve
kind_of Kind.Point = joiner.Point

-- The tables that a row reading is lent. The others go unread.
abbrev pub lent : List ℕ → List ℕ → List ℕ → Tables
lent faces curves points = row_lent no_tables faces curves points

-- The refusal, 0 for none: the joiner's `refusal`, whatever the cut lists are.
unfoldable pub refusal_of : Job → Kind → ℕ → Lengths → ℕ
refusal_of j kind n z =
    cond (off_size 1024 (triple j.nx j.ny j.nz)) 1
    (cond (not (same_stage (stage_of j.stage) Closed)) 3
    (cond (not (ltb 0 n && leb n (numbered_tally j (kind_of kind)))) 4
    (cond (not (lengths_fit (lent_by CallName.Row 0 (entries_of j) z))) 6 (cond (not (tallies_fit (job_of j [] [] []))) 8 0))))

-- The table of a kind.
abbrev pub table_of : Kind → List ℕ → List ℕ → List ℕ → List ℕ
table_of kind faces curves points = by_kind faces curves points (kind_of kind)

-- It has row n, counted from 1.
abbrev pub HasRow : Kind → ℕ → List ℕ → List ℕ → List ℕ → Type 0
HasRow kind n faces curves points = (0 < n) × (width (kind_of kind) * n ≤ length (table_of kind faces curves points))

-- That row.
abbrev pub row_in : Kind → ℕ → List ℕ → List ℕ → List ℕ → List ℕ
row_in kind n faces curves points = take (width (kind_of kind)) (drop (width (kind_of kind) * (n - 1)) (table_of kind faces curves points))

-- What an answer gives: a part of a table, which is empty where the reading is refused.
abbrev pub part_of : Result (Bor (List ℕ)) Refusal → List ℕ
part_of (Ok r) = r.now
part_of (Err e) = []
