-- Lists of calls over the model, and whole jobs: a volume cut, joined again, and what the closed tables hold.
-- Assumes nothing.
use Rattle.std.specs.Prelude.{List, [], ◌∷◌, ◌++◌, map, ℕ, ◌*◌, take}
use Rattle.lists.specs.Lists.{consecutive, tabulate}
use Rattle.labels.specs.Number.{labels}
use Rattle.cutting.specs.Cutting.{Cutting, blocks, block_extents, block_codes}
use Rattle.joiner.specs.Job.{Kind, Face, Curve, Point, width, Stage, Told, Tables, State, numbers_per_block, ticks_per_block}
use Rattle.joiner.specs.Stages.{seams}
use Rattle.joiner.specs.Calls.{Call, enrol, join, cross, point}
use Rattle.joiner.specs.Statement.{Event}
use Rattle.theory_model.specs.Model.{after, answer_of, opened_state}

-- One call after another: the state left, and the whole list as statement 3 has it.
unfoldable pub run : State → List Call → State
run s [] = s
run s (c ∷ cs) = run (after s c) cs

unfoldable pub written : State → List Call → List Event
written s [] = []
written s (c ∷ cs) = record { call = c; answer = answer_of s c; after = after s c } ∷ written (after s c) cs

-- Tables of the stated entries that another job has left full of sevens.
unfoldable pub used : Told → Tables
used o =
    record {
      ticks = tabulate (ticks_per_block * blocks o.cutting) (λ i. 7);
      blocks = tabulate (numbers_per_block * blocks o.cutting) (λ i. 7);
      links = λ κ. tabulate (o.entries κ) (λ i. 7);
      keys = λ κ. tabulate (o.entries κ) (λ i. 7);
      rows = λ κ. tabulate (width κ * o.entries κ) (λ i. 7);
      numbers = λ κ. tabulate (o.entries κ) (λ i. 7);
      firsts = λ κ. tabulate (o.entries κ) (λ i. 7);
      listed = λ κ. tabulate (width κ * o.entries κ) (λ i. 7);
    }

-- The steps of all stages, each block with the map of its codes.
unfoldable pub map_of : Cutting → List ℕ → ℕ → List ℕ
map_of k codes b = labels (block_extents k b) (block_codes k b codes)

unfoldable pub steps : Cutting → (ℕ → List ℕ) → List Call
steps k own =
    map (λ b. enrol b (own b)) (consecutive 0 (blocks k)) ++ map (λ d. join d.from d.to (own d.from) (own d.to)) (seams k) ++
    map (λ b. cross b (own b)) (consecutive 0 (blocks k)) ++ map (λ b. point b (own b)) (consecutive 0 (blocks k))

-- What a closed job's tables hold of a kind: how many components there are, their first positions and their rows.
pub record Contents : Type 0 where
  pub many : ℕ
  pub firsts : List ℕ
  pub rows : List ℕ

unfoldable pub contents : State → Kind → Contents
contents s κ =
    record { many = s.job.numbered κ; firsts = take (s.job.numbered κ) (s.tables.firsts κ); rows = take (width κ * s.job.numbered κ) (s.tables.listed κ) }

pub record Outcome : Type 0 where
  pub stage : Stage
  pub faces : Contents
  pub curves : Contents
  pub points : Contents

unfoldable pub outcome : State → Outcome
outcome s = record { stage = s.job.stage; faces = contents s Face; curves = contents s Curve; points = contents s Point }

-- A volume of these codes, cut and joined as told.
unfoldable pub joined_up : Told → List ℕ → Outcome
joined_up o codes = outcome (run (opened_state o (used o)) (steps o.cutting (map_of o.cutting codes)))
