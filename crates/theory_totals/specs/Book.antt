-- The book of readings: the totals of the uncut volume, and what is refused, from what the calls bring, never job or tables (document 02, item 1). It stands
-- beside the day book, which tells stage, maps and the uncut volume.
-- Assumes nothing.
use Rattle.std.specs.Prelude.{Bool, true, not, cond, ◌&&◌, List, [], ◌∷◌, ◌++◌, map, ℕ, eqb, get_or, Float}
use Rattle.lists.specs.Lists.{keep, is_in}
use Rattle.refusals.specs.declared.Refusal.{Refusal}
use Rattle.refusals.specs.Refusals.{Case, ◌if◌, given_refusal}
use Rattle.cells.specs.Box.{place}
use Rattle.cells.specs.declared.Triple.{Triple}
use Rattle.cells.specs.Grid.{sides, upper_neighbours, voxel}
use Rattle.cells.specs.Row.{row, same_row}
use Rattle.labels.specs.Components.{component}
use Rattle.cutting.specs.Cutting.{Cutting, block_extents}
use Rattle.joiner.specs.Job.{Face}
use Rattle.joiner.specs.Stages.{local, lowest_block}
use Rattle.joiner.specs.Book.{Book, uncut, uncut_count}
use Rattle.strains.specs.Units.{float_of}
use Rattle.strains.specs.Readings.{units_sum, of_kind}
use Rattle.strains.specs.declared.Reading.{Reading}
use Rattle.totals.specs.Totals.{reading_at}
use Rattle.totals.specs.declared.Side.{Side}
use Rattle.totals.specs.declared.Totals.{Totals}
use Rattle.strain_calls.specs.Adding.{gathered}
use Rattle.strain_calls.specs.Calls.{StrainCall, strain, total, StrainAnswer, strain_answer, no_totals, in_stage, has_place, again, lists_fit, bad_reading}

-- ---- the totals of a face of an uncut map

-- The voxels beside face cell t on a side of it: 0 is the lower-code side, 1 the higher-code side, by the row of the cell. "The outside is
-- the higher side of a face and has zero sums and counts" (item 4): no voxel of number 0 is counted on it.
unfoldable pub on_side : Triple → List ℕ → ℕ → ℕ → List ℕ
on_side e m side t = keep (λ q. not (eqb (get_or m q 0) 0) && eqb (get_or m q 0) (get_or (row e m t) side 0)) (upper_neighbours e t)

-- The readings on a side of face n, cell by cell: `reading t q` is that of voxel cell q at face cell t.
unfoldable pub side_readings : Triple → List ℕ → (ℕ → ℕ → Reading) → ℕ → ℕ → List Reading
side_readings e m reading n side = gathered (λ t. map (reading t) (on_side e m side t)) (component e m 2 n)

-- "The sum over whole 1,024ths" as a float, and the numbers of strains, clipped and missing.
unfoldable pub side_totals : List Reading → Side
side_totals rs = record { sum = float_of (units_sum rs); strains = of_kind 0 rs; clipped = of_kind 1 rs; missing = of_kind 2 rs }

-- .. of both sides of face n.
unfoldable pub face_totals : Triple → List ℕ → (ℕ → ℕ → Reading) → ℕ → Totals
face_totals e m reading n = record { lower = side_totals (side_readings e m reading n 0); higher = side_totals (side_readings e m reading n 1) }

-- "A face cell in an overlap counts once, with the lowest-numbered block that has it": the reading of voxel cell q at face cell t, out of that block's lists.
unfoldable pub reading_from : Cutting → (ℕ → List Float) → (ℕ → List ℕ) → ℕ → ℕ → Reading
reading_from k values kinds t q =
    let b : ℕ = lowest_block k (place (sides k.extents) t) in
    reading_at (values b) (kinds b) (voxel (block_extents k b) (local k b (place (sides k.extents) q)))

-- ---- the book

-- The blocks whose readings have come, in the order in which they came, and the two lists of each.
pub record ReadingBook : Type 0 where
  pub came : List ℕ
  pub values : ℕ → List Float
  pub kinds : ℕ → List ℕ

-- At first none.
unfoldable pub no_readings : ReadingBook
no_readings = record { came = []; values = λ b. []; kinds = λ b. [] }

-- 3 to 6 go by the book, whatever map is brought.
abbrev pub strain_early_cases : Book → ReadingBook → StrainCall → List Case
strain_early_cases B R c =
    Refusal.WrongStage if not (in_stage B.told.cutting B.stage (is_in R.came) c) ∷
    Refusal.NoSuchPlace if not (has_place B.told.cutting (uncut_count B Face) c) ∷
    Refusal.DoneAlready if again (is_in R.came) c ∷
    Refusal.WrongTray if not (lists_fit B.told.cutting c) ∷
    []

-- .. and 12.
unfoldable pub strain_book_declines : Book → ReadingBook → StrainCall → List Case
strain_book_declines B R c = strain_early_cases B R c ++ (Refusal.BadReading if bad_reading c ∷ [])

-- What is given, 0 for none.
unfoldable pub strain_book_refusal : Book → ReadingBook → StrainCall → ℕ
strain_book_refusal B R c = given_refusal (strain_book_declines B R c)

-- The lowest of 3 to 6 that stands, 0 for none.
unfoldable pub strain_book_early : Book → ReadingBook → StrainCall → ℕ
strain_book_early B R c = given_refusal (strain_early_cases B R c)

-- The call brings its block's map, the enrolled one.
abbrev pub brings_map : Book → StrainCall → Bool
brings_map B (strain b m values kinds) = same_row m (B.maps b)
brings_map B (total n) = true

-- "A call with another map counts as refused."
unfoldable pub strain_accepts : Book → ReadingBook → StrainCall → Bool
strain_accepts B R c = eqb (strain_book_refusal B R c) 0 && brings_map B c

-- An accepted step keeps the block's two lists. A total changes nothing here.
abbrev pub readings_after : ReadingBook → StrainCall → ReadingBook
readings_after R (strain b m values kinds) =
    record { came = R.came ++ (b ∷ []); values = λ d. cond (eqb d b) values (R.values d); kinds = λ d. cond (eqb d b) kinds (R.kinds d) }
readings_after R (total n) = R

-- "A refused call or a reading changes nothing here."
unfoldable pub turned_readings : Book → ReadingBook → StrainCall → ReadingBook
turned_readings B R c = cond (strain_accepts B R c) (readings_after R c) R

-- The totals of face n of the uncut volume, by the lists that came.
unfoldable pub book_totals : Book → ReadingBook → ℕ → Totals
book_totals B R n = face_totals B.told.cutting.extents (uncut B) (reading_from B.told.cutting R.values R.kinds) n

-- What an accepted call answers.
abbrev pub strain_book_answer : Book → ReadingBook → StrainCall → StrainAnswer
strain_book_answer B R (strain b m values kinds) = strain_answer 0 no_totals
strain_book_answer B R (total n) = strain_answer 0 (book_totals B R n)
