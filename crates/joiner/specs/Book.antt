-- The day book (document 01): "fed what the opening and the calls bring, never job or tables". It judges each call by itself.
-- Assumes nothing.
use Rattle.std.specs.Prelude.{Bool, true, not, cond, ◌&&◌, List, [], ◌∷◌, ◌++◌, ℕ, ◌+◌, eqb, get_or, length}
use Rattle.lists.specs.Lists.{tabulate, keep, is_in}
use Rattle.refusals.specs.declared.Refusal.{Refusal}
use Rattle.refusals.specs.Refusals.{Case, ◌if◌, given_refusal}
use Rattle.closure.specs.Joined.{edge}
use Rattle.cells.specs.Box.{volume, index}
use Rattle.cells.specs.declared.Triple.{Triple}
use Rattle.cells.specs.Grid.{sides, voxel_cell}
use Rattle.cells.specs.Row.{active, pad_to, same_row}
use Rattle.labels.specs.Number.{labels}
use Rattle.labels.specs.Components.{of_order, largest, component_row}
use Rattle.cutting.specs.Cutting.{block_extents, embed}
use Rattle.joiner.specs.Job.{Kind, Face, Curve, Point, order_of, width, Stage, Enrol, same_stage, Told}
use Rattle.joiner.specs.Stages.{codes_of, enrol_step, seam_step, crossing_step, point_step, next_after}
use Rattle.joiner.specs.Calls.{Call, enrol, join, cross, point, look, reading, Answer, answer, stage_of, repeated, placed, maps_fit, layers_differ, full}

-- "It holds what the opening was told, the stage, what is ticked in it, the enrolled maps, and faces, curves and points so far."
pub record Book : Type 0 where
  pub told : Told
  pub stage : Stage
  pub done : List ℕ
  pub maps : ℕ → List ℕ
  pub sofar : Kind → ℕ

-- ".. at first 0": the book when the job is opened.
unfoldable pub begun : Told → Book
begun o = record { told = o; stage = Enrol; done = []; maps = λ b. []; sofar = λ κ. 0 }

-- "The uncut volume has the codes of those maps ..; its numbers, rows and first positions follow Numbering one block over its extents."
unfoldable pub uncut : Book → List ℕ
uncut B = labels B.told.cutting.extents (codes_of B.told.cutting B.maps)

-- How many faces, curves or points the uncut volume has.
unfoldable pub uncut_count : Book → Kind → ℕ
uncut_count B κ = largest B.told.cutting.extents (uncut B) (order_of κ)

-- "An enrolment .. adds its largest face and curve numbers, a point step adds the block's points active in the uncut volume."
unfoldable pub book_adds : Book → Call → Kind → ℕ
book_adds B (enrol b m) Face = largest (block_extents B.told.cutting b) m 2
book_adds B (enrol b m) Curve = largest (block_extents B.told.cutting b) m 1
book_adds B (enrol b m) Point = 0
book_adds B (join b c m n) κ = 0
book_adds B (cross b m) κ = 0
book_adds B (point b m) Face = 0
book_adds B (point b m) Curve = 0
book_adds B (point b m) Point =
    length (keep (λ p. active B.told.cutting.extents (uncut B) (embed B.told.cutting b p)) (of_order (block_extents B.told.cutting b) 0))
book_adds B (look b m c) κ = 0
book_adds B (reading κ' n) κ = 0

-- "3, 4, 5 .. as listed below, by cutting, stage, ticks and maps brought (too large is above the uncut count); 6 if a map's length is not its
-- block's cells": these "still go by the book", whatever map is brought.
abbrev pub early_cases : Book → Call → List Case
early_cases B c =
    Refusal.WrongStage if not (same_stage B.stage (stage_of c)) ∷
    Refusal.NoSuchPlace if not (placed B.told.cutting (uncut_count B) c) ∷
    Refusal.DoneAlready if repeated B.told.cutting (is_in B.done) c ∷
    Refusal.WrongTray if not (maps_fit B.told.cutting c) ∷
    []

-- .. "and 9 ..; 10 .. if faces or curves so far plus the map's largest number of that order pass the table's entries, at a point step if points so
-- far plus the block's points active in the uncut volume do."
unfoldable pub book_declines : Book → Call → List Case
book_declines B c =
    early_cases B c ++
    (Refusal.LayersDiffer if layers_differ B.told.cutting c ∷ Refusal.TableFull if full B.told.entries B.sofar (book_adds B c) ∷ [])

-- "The lowest case that stands refuses a call."
unfoldable pub book_refusal : Book → Call → ℕ
book_refusal B c = given_refusal (book_declines B c)

-- The lowest of 3 to 6 that stands, 0 for none.
unfoldable pub book_early : Book → Call → ℕ
book_early B c = given_refusal (early_cases B c)

-- A map that a labelling of a block of e voxels leaves: that of the codes at its voxels.
unfoldable pub voxel_codes : Triple → List ℕ → List ℕ
voxel_codes e m = tabulate (volume e) (λ v. get_or m (voxel_cell e v) 0)

-- .. whether m is one.
unfoldable pub labelled : Triple → List ℕ → Bool
labelled e m = same_row m (labels e (voxel_codes e m))

-- The call brings its blocks' maps: at enrolment one that a labelling leaves, later the enrolled ones.
abbrev pub brings_own : Book → Call → Bool
brings_own B (enrol b m) = labelled (block_extents B.told.cutting b) m
brings_own B (join b c m n) = same_row m (B.maps b) && same_row n (B.maps c)
brings_own B (cross b m) = same_row m (B.maps b)
brings_own B (point b m) = same_row m (B.maps b)
brings_own B (look b m c) = same_row m (B.maps b)
brings_own B (reading κ n) = true

-- "A call with another map counts as refused."
unfoldable pub accepts : Book → Call → Bool
accepts B c = eqb (book_refusal B c) 0 && brings_own B c

-- "An accepted step is ticked and the stage moved as above; an enrolment keeps the map."
unfoldable pub entered : Book → ℕ → (ℕ → List ℕ) → (Kind → ℕ) → Book
entered B step maps more =
    record {
      told = B.told;
      stage = next_after B.told.cutting (is_in (step ∷ B.done)) B.stage;
      done = step ∷ B.done;
      maps = maps;
      sofar = λ κ. B.sofar κ + more κ;
    }

-- The book after an accepted call.
unfoldable pub book_after : Book → Call → Book
book_after B (enrol b m) = entered B (enrol_step b) (λ c. cond (eqb c b) m (B.maps c)) (book_adds B (enrol b m))
book_after B (join b c m n) = entered B (seam_step B.told.cutting (edge b c)) B.maps (book_adds B (join b c m n))
book_after B (cross b m) = entered B (crossing_step b) B.maps (book_adds B (cross b m))
book_after B (point b m) = entered B (point_step b) B.maps (book_adds B (point b m))
book_after B (look b m c) = B
book_after B (reading κ n) = B

-- "A refused call or a reading changes nothing here."
unfoldable pub turned : Book → Call → Book
turned B c = cond (accepts B c) (book_after B c) B

-- "A look gives what the cell holds in the uncut map, a row reading the first two, four or six places of the uncut row."
unfoldable pub book_answer : Book → Call → Answer
book_answer B (enrol b m) = answer 0 0 []
book_answer B (join b c m n) = answer 0 0 []
book_answer B (cross b m) = answer 0 0 []
book_answer B (point b m) = answer 0 0 []
book_answer B (look b m c) = answer 0 (get_or (uncut B) (index (sides B.told.cutting.extents) c) 0) []
book_answer B (reading κ n) = answer 0 0 (pad_to (width κ) (component_row B.told.cutting.extents (uncut B) (order_of κ) n))
