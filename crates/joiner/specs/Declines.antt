-- What a step or a reading declines, from the job, its tables and what the call brings (document 01, "What the service declines").
-- Assumes nothing.
use Rattle.std.specs.Prelude.{Bool, true, not, cond, ◌&&◌, ◌||◌, List, [], ◌∷◌, ◌++◌, map, ℕ, ◌+◌, ◌*◌, eqb, leb, ltb, get_or, length}
use Rattle.lists.specs.Lists.{consecutive, keep, all_of}
use Rattle.refusals.specs.declared.Refusal.{Refusal}
use Rattle.refusals.specs.Refusals.{Case, ◌if◌, given_refusal}
use Rattle.union_find.specs.Links.{sound_below, sound_ways}
use Rattle.cells.specs.declared.Triple.{Triple}
use Rattle.cells.specs.Extents.{off_size}
use Rattle.cells.specs.Grid.{order, upper_neighbours}
use Rattle.cells.specs.Row.{row_of, occupied}
use Rattle.labels.specs.Components.{of_order, largest}
use Rattle.cutting.specs.Cutting.{Cutting, block_extents, good_cut}
use Rattle.joiner.specs.Job.{Kind, Face, Curve, Point, order_of, Crossing, same_stage, Told, Job, Tables, State, Tray, ticked, count_of, from_of, node, lengths_fit, block_trays, link_trays, found_trays, number_trays, first_trays, listed_trays, kind_trays}
use Rattle.joiner.specs.Stages.{local, crossing_step, finished}
use Rattle.joiner.specs.Calls.{Call, enrol, join, cross, point, look, reading, stage_of, repeated, placed, maps_fit, layers_differ, full}

-- ---- 6: the tables that a call is lent

-- Each call is lent the tables that it reads or writes, and no other.
abbrev pub lent_to : Told → Tables → Call → List Tray
lent_to o t (enrol b m) = block_trays o t ++ link_trays o t ++ found_trays o t Face ++ found_trays o t Curve
lent_to o t (join b c m n) = block_trays o t ++ link_trays o t
lent_to o t (cross b m) = block_trays o t ++ link_trays o t ++ kind_trays o t Face ++ kind_trays o t Curve
lent_to o t (point b m) = block_trays o t ++ number_trays o t Curve ++ kind_trays o t Point
lent_to o t (look b m c) = block_trays o t ++ number_trays o t Face ++ number_trays o t Curve ++ first_trays o t Point
lent_to o t (reading κ n) = listed_trays o t Face ++ listed_trays o t Curve ++ listed_trays o t Point

-- ---- 8: stray labels, tallies and entries

-- "A tally in the job is above its table's entries": what is enrolled or found of a kind, and what is numbered.
unfoldable pub tally_fits : Job → Kind → Bool
tally_fits j κ = leb (j.sofar κ) (j.told.entries κ) && leb (j.numbered κ) (j.told.entries κ)

-- .. for no kind.
unfoldable pub tallies_fit : Job → Bool
tallies_fit j = tally_fits j Face && (tally_fits j Curve && tally_fits j Point)

-- "A map has .. after enrolment a number above the block's count of that order."
unfoldable pub counted : Tables → Triple → ℕ → List ℕ → Kind → Bool
counted t e b m κ = leb (largest e m (order_of κ)) (count_of t κ b)

-- "An entry read points outside its table": the block's faces and curves, first place and count, stay within their table's entries.
unfoldable pub standing : State → ℕ → Kind → Bool
standing s b κ = leb (from_of s.tables κ b + count_of s.tables κ b) (s.job.told.entries κ)

-- .. all of this for the map m of block b, of e voxels.
unfoldable pub map_stands : State → Triple → ℕ → List ℕ → Bool
map_stands s e b m =
    counted s.tables e b m Face && (counted s.tables e b m Curve && (counted s.tables e b m Point && (standing s b Face && standing s b Curve)))

-- "An enrolled component is joined in its table to a later one or to none": a link is a distance back, so it leads to none where it is longer than
-- its place. Looked at is every link on the way from each of the block's faces or curves to its first one.
unfoldable pub ways_stand : State → ℕ → Kind → Bool
ways_stand s b κ = sound_ways (s.tables.links κ) (from_of s.tables κ b) (count_of s.tables κ b)

-- .. of both kinds.
unfoldable pub links_stand : State → ℕ → Bool
links_stand s b = ways_stand s b Face && ways_stand s b Curve

-- .. and, at the last crossing, which reads them all, every link of an enrolled one.
unfoldable pub all_links_stand : State → Bool
all_links_stand s = sound_below (s.tables.links Face) (s.job.sofar Face) && sound_below (s.tables.links Curve) (s.job.sofar Curve)

-- "An entry read points outside its table", at the last crossing: a face in the row of an enrolled curve, as place + 1.
unfoldable pub rows_stand : State → Bool
rows_stand s = all_of (λ i. leb (get_or (s.tables.rows Curve) i 0) (s.job.told.entries Face)) (consecutive 0 (4 * s.job.sofar Curve))

-- With the crossing of block b all are done.
unfoldable pub last_crossing : State → ℕ → Bool
last_crossing s b = finished s.job.told.cutting (λ i. eqb (crossing_step b) i || ticked s.tables i) Crossing

-- The final number at place x of a kind is one of the closed table's: 1 to the numbered count.
unfoldable pub number_stands : State → Kind → ℕ → Bool
number_stands s κ x = ltb 0 (get_or (s.tables.numbers κ) x 0) && leb (get_or (s.tables.numbers κ) x 0) (s.job.numbered κ)

-- "An entry read points outside its table", at a point step: a final number of the block's curves.
unfoldable pub curves_stand : State → ℕ → Bool
curves_stand s b = all_of (number_stands s Curve) (consecutive (from_of s.tables Curve b) (count_of s.tables Curve b))

-- .. and at a lookup: the final number that it hands out, where the map has number n for its cell.
unfoldable pub handed_stands : State → ℕ → Kind → ℕ → Bool
handed_stands s b κ n = eqb n 0 || number_stands s κ (node s.tables κ b n)

-- .. which is that of a face or a curve. A voxel hands out its code, and a point is found by its position.
unfoldable pub look_stands : State → ℕ → List ℕ → ℕ → Bool
look_stands s b m p =
    cond (eqb (order (block_extents s.job.told.cutting b) p) 2) (handed_stands s b Face (get_or m p 0))
    (cond (eqb (order (block_extents s.job.told.cutting b) p) 1) (handed_stands s b Curve (get_or m p 0)) true)

-- The maps and entries that a call reads are no stray ones. An enrolment follows no entry, and any map may be enrolled.
abbrev pub stands_for : State → Call → Bool
stands_for s (enrol b m) = true
stands_for s (join b c m n) =
    map_stands s (block_extents s.job.told.cutting b) b m &&
    (map_stands s (block_extents s.job.told.cutting c) c n && (links_stand s b && links_stand s c))
stands_for s (cross b m) =
    map_stands s (block_extents s.job.told.cutting b) b m && (links_stand s b && cond (last_crossing s b) (rows_stand s && all_links_stand s) true)
stands_for s (point b m) = map_stands s (block_extents s.job.told.cutting b) b m && curves_stand s b
stands_for s (look b m c) = map_stands s (block_extents s.job.told.cutting b) b m && look_stands s b m (local s.job.told.cutting b c)
stands_for s (reading κ n) = true

-- 8: a tally, a map or an entry read is a stray one.
unfoldable pub stray : State → Call → Bool
stray s c = not (tallies_fit s.job && stands_for s c)

-- ---- 10: what a step adds to the tallies

-- The final number of number n of a block: 0 stays 0.
unfoldable pub final_of : Tables → Kind → ℕ → ℕ → ℕ
final_of t κ b n = cond (eqb n 0) 0 (get_or (t.numbers κ) (node t κ b n) 0)

-- "Point rows are worked out over the final curves."
unfoldable pub final_row : Cutting → Tables → ℕ → List ℕ → ℕ → List ℕ
final_row k t b m p = row_of (map (λ q. final_of t Curve b (get_or m q 0)) (upper_neighbours (block_extents k b) p))

-- The block's point cells that are points of the volume.
unfoldable pub point_cells : Cutting → Tables → ℕ → List ℕ → List ℕ
point_cells k t b m = keep (λ p. occupied (final_row k t b m p)) (of_order (block_extents k b) 0)

-- "Enrolled faces, curves or found points."
unfoldable pub adds : State → Call → Kind → ℕ
adds s (enrol b m) Face = largest (block_extents s.job.told.cutting b) m 2
adds s (enrol b m) Curve = largest (block_extents s.job.told.cutting b) m 1
adds s (enrol b m) Point = 0
adds s (join b c m n) κ = 0
adds s (cross b m) κ = 0
adds s (point b m) Face = 0
adds s (point b m) Curve = 0
adds s (point b m) Point = length (point_cells s.job.told.cutting s.tables b m)
adds s (look b m c) κ = 0
adds s (reading κ' n) κ = 0

-- ---- the table

-- A row reading brings no cut list.
abbrev pub cut_for : State → Call → Bool
cut_for s (enrol b m) = good_cut s.job.told.cutting
cut_for s (join b c m n) = good_cut s.job.told.cutting
cut_for s (cross b m) = good_cut s.job.told.cutting
cut_for s (point b m) = good_cut s.job.told.cutting
cut_for s (look b m c) = good_cut s.job.told.cutting
cut_for s (reading κ n) = true

-- The cases of a step or a reading. Of these a call gives 5 only if it is a step, 9 only if it is a seam's, and 10 only if it adds components.
unfoldable pub declines : State → Call → List Case
declines s c =
    Refusal.OffSize if off_size 1024 s.job.told.cutting.extents ∷
    Refusal.BadCut if not (cut_for s c) ∷
    Refusal.WrongStage if not (same_stage s.job.stage (stage_of c)) ∷
    Refusal.NoSuchPlace if not (placed s.job.told.cutting s.job.numbered c) ∷
    Refusal.DoneAlready if repeated s.job.told.cutting (ticked s.tables) c ∷
    Refusal.WrongTray if not (maps_fit s.job.told.cutting c && lengths_fit (lent_to s.job.told s.tables c)) ∷
    Refusal.StrayLabel if stray s c ∷
    Refusal.LayersDiffer if layers_differ s.job.told.cutting c ∷
    Refusal.TableFull if full s.job.told.entries s.job.sofar (adds s c) ∷
    []

-- The number with which a call is refused, 0 where it is accepted.
unfoldable pub refusal : State → Call → ℕ
refusal s c = given_refusal (declines s c)
