-- What the definitions answer for a volume, and for a volume that is cut. `Samples` has the answers of another program.
-- Assumes nothing.
use Rattle.std.specs.Prelude.{List, map, ℕ}
use Rattle.lists.specs.Lists.{consecutive}
use Rattle.closure.specs.Joined.{Edge}
use Rattle.cells.specs.declared.Triple.{Triple}
use Rattle.cells.specs.Grid.{cells}
use Rattle.labels.specs.Number.{labels}
use Rattle.labels.specs.Components.{largest, first_cell, component_row}
use Rattle.cutting.specs.Cutting.{Cutting, blocks, block_extents, block_codes, embed}
use Rattle.joiner.specs.Job.{Closed, Told}
use Rattle.joiner.specs.Stages.{seams}
use Rattle.theory_model.specs.Scripts.{Contents, Outcome, map_of, joined_up}
use Rattle.theory_model.specs.Volumes.{Example}

-- How many components of an order there are, the first cell of each and its row.
pub record Components : Type 0 where
  pub many : ℕ
  pub firsts : List ℕ
  pub rows : List (List ℕ)

-- .. by its fields.
abbrev pub components : ℕ → List ℕ → List (List ℕ) → Components
components n firsts rows = record { many = n; firsts = firsts; rows = rows }

-- The components of order j of a map.
unfoldable pub components_of : Triple → List ℕ → ℕ → Components
components_of e m j =
    record {
      many = largest e m j;
      firsts = map (first_cell e m j) (consecutive 1 (largest e m j));
      rows = map (component_row e m j) (consecutive 1 (largest e m j));
    }

-- A map, and its components by order.
pub record Numbered : Type 0 where
  pub numbers : List ℕ
  pub faces : Components
  pub curves : Components
  pub points : Components

unfoldable pub numbered_of : Triple → List ℕ → Numbered
numbered_of e m = record { numbers = m; faces = components_of e m 2; curves = components_of e m 1; points = components_of e m 0 }

-- A volume, and what is listed of it.
pub record Sample : Type 0 where
  pub extents : Triple
  pub codes : List ℕ
  pub listed : Numbered

-- .. by its extents, codes, map, faces, curves and points.
abbrev pub sample : Triple → List ℕ → List ℕ → Components → Components → Components → Sample
sample e codes m faces curves points = record { extents = e; codes = codes; listed = record { numbers = m; faces = faces; curves = curves; points = points } }

unfoldable pub answer : Sample → Numbered
answer v = numbered_of v.extents (labels v.extents v.codes)

-- A block of a cut volume: its extents, codes and map, and the position in the volume of each of its cells.
pub record Block : Type 0 where
  pub extents : Triple
  pub codes : List ℕ
  pub numbers : List ℕ
  pub positions : List ℕ

-- .. by its fields.
abbrev pub block : Triple → List ℕ → List ℕ → List ℕ → Block
block e codes m positions = record { extents = e; codes = codes; numbers = m; positions = positions }

unfoldable pub block_of : Cutting → List ℕ → ℕ → Block
block_of k codes b =
    record {
      extents = block_extents k b;
      codes = block_codes k b codes;
      numbers = map_of k codes b;
      positions = map (embed k b) (consecutive 0 (cells (block_extents k b)));
    }

-- The blocks of a cut volume, and its seams.
pub record Cut : Type 0 where
  pub blocks : List Block
  pub seams : List Edge

unfoldable pub cut_of : Cutting → List ℕ → Cut
cut_of k codes = record { blocks = map (block_of k codes) (consecutive 0 (blocks k)); seams = seams k }

-- A volume that is cut: what is listed of the cut volume, and of the joined one.
pub record Job : Type 0 where
  pub cut : Cut
  pub joined : Example

-- What a closed job has of a kind: how many, their first positions, their rows one after the other.
abbrev pub kind_contents : ℕ → List ℕ → List ℕ → Contents
kind_contents n firsts rows = record { many = n; firsts = firsts; rows = rows }

-- Such a volume by its blocks and seams, what the opening is told, its codes, and the faces, curves and points of the closed job.
abbrev pub job : List Block → List Edge → Told → List ℕ → Contents → Contents → Contents → Job
job blocks seams told codes faces curves points =
    record {
      cut = record { blocks = blocks; seams = seams };
      joined = record { told = told; codes = codes; listed = record { stage = Closed; faces = faces; curves = curves; points = points } };
    }

unfoldable pub cut_answer : Job → Cut
cut_answer v = cut_of v.joined.told.cutting v.joined.codes

unfoldable pub joined_answer : Job → Outcome
joined_answer v = joined_up v.joined.told v.joined.codes
