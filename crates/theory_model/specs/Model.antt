-- A model of the joiner that computes: to each call in each state an answer and the state after it. Where the contracts leave the links and
-- the closed tables free, it makes one choice.
-- Assumes nothing.
use Rattle.std.specs.Prelude.{Bool, not, cond, ◌&&◌, List, [], ◌∷◌, ◌++◌, map, ℕ, suc, ◌+◌, ◌-◌, ◌*◌, ◌/◌, ◌%◌, eqb, get_or, length, set}
use Rattle.lists.specs.Lists.{tabulate, keep, zeros, overlay}
use Rattle.closure.specs.Joined.{Edge, edge, joins}
use Rattle.union_find.specs.Links.{root}
use Rattle.cells.specs.Grid.{order, upper_neighbours}
use Rattle.cells.specs.Row.{same_row}
use Rattle.labels.specs.Components.{of_order}
use Rattle.cutting.specs.Cutting.{Cutting, block_extents, embed}
use Rattle.joiner.specs.Job.{Kind, Face, Curve, Point, order_of, width, Enrol, Points, Closed, same_stage, Told, Job, Tables, State, ticked, node, key_of, first_at, numbers_per_block}
use Rattle.joiner.specs.Stages.{products, shared, enrol_step, seam_step, crossing_step, point_step, next_after}
use Rattle.joiner.specs.Calls.{Call, enrol, join, cross, point, look, reading, Answer, answer}
use Rattle.joiner.specs.Declines.{final_row, point_cells, adds, refusal}
use Rattle.joiner.specs.Outcomes.{open_refusal, nothing, joined_row, enrolled_key, enrolled_row, block_entry, heads, rank, head_of, row_final, looked_up, row_taken}
use Rattle.joiner.proofs.Kept.{with_ticks}

-- ---- links

-- The links once the edges are joined: each place is joined to the first of its component.
unfoldable pub relinked : List ℕ → List Edge → List ℕ
relinked ls es = tabulate (length ls) (λ x. x - joins (root ls) es x)

-- The places of numbers of one cell seen from both blocks, active in both: cell d stands at `from` in block b and at `to` in block c.
unfoldable pub at_seam : Cutting → Kind → ℕ → List ℕ → List ℕ → Edge → Bool
at_seam k κ b m n d = eqb (order (block_extents k b) d.from) (order_of κ) && (not (eqb (get_or m d.from 0) 0) && not (eqb (get_or n d.to 0) 0))

unfoldable pub seam_edge : Tables → Kind → ℕ → ℕ → List ℕ → List ℕ → Edge → Edge
seam_edge t κ b c m n d = edge (node t κ b (get_or m d.from 0)) (node t κ c (get_or n d.to 0))

unfoldable pub seam_edges : Cutting → Tables → Kind → ℕ → ℕ → List ℕ → List ℕ → List Edge
seam_edges k t κ b c m n = map (seam_edge t κ b c m n) (keep (at_seam k κ b m n) (shared k b c))

-- The places of two active curve cells of equal rows, among the upper neighbours of the point cells ps.
unfoldable pub at_crossing : Cutting → Tables → ℕ → List ℕ → Edge → Bool
at_crossing k t b m d =
    (not (eqb (get_or m d.from 0) 0) && not (eqb (get_or m d.to 0) 0)) && same_row (joined_row k t b m d.from) (joined_row k t b m d.to)

unfoldable pub cross_edge : Tables → ℕ → List ℕ → Edge → Edge
cross_edge t b m d = edge (node t Curve b (get_or m d.from 0)) (node t Curve b (get_or m d.to 0))

unfoldable pub cross_edges_at : Cutting → Tables → ℕ → List ℕ → List ℕ → List Edge
cross_edges_at k t b m [] = []
cross_edges_at k t b m (p ∷ ps) =
    map (cross_edge t b m) (keep (at_crossing k t b m) (products (upper_neighbours (block_extents k b) p) (upper_neighbours (block_extents k b) p))) ++ cross_edges_at k t b m ps

unfoldable pub cross_edges : Cutting → Tables → ℕ → List ℕ → List Edge
cross_edges k t b m = cross_edges_at k t b m (of_order (block_extents k b) 0)

-- ---- tables

-- f, but v for one kind.
unfoldable pub instead : {A : Type 0} → Kind → A → (Kind → A) → Kind → A
instead κ v f κ' = cond (eqb (order_of κ) (order_of κ')) v (f κ')

-- "Numbered by first cell in the volume": the n components of a kind.
unfoldable pub number_kind : Tables → Kind → ℕ → Tables
number_kind t κ n =
    record {
      ticks = t.ticks;
      blocks = t.blocks;
      links = t.links;
      keys = t.keys;
      rows = t.rows;
      numbers = instead κ (overlay (t.numbers κ) 0 (rank t κ n) n) t.numbers;
      firsts = instead κ (overlay (t.firsts κ) 0 (λ i. first_at t κ (head_of t κ n (suc i))) (length (heads t κ n))) t.firsts;
      listed = instead κ
          (overlay (t.listed κ) 0 (λ i. get_or (row_final t κ (head_of t κ n (suc (i / width κ)))) (i % width κ) 0) (width κ * length (heads t κ n))) t.listed;
    }

-- A step is ticked and "the stage moved as above"; `many` are the tallies of what is numbered.
unfoldable pub moved : State → Call → Tables → (Kind → ℕ) → State
moved s c t many =
    record {
      job = record {
        told = s.job.told;
        stage = next_after s.job.told.cutting (ticked t) s.job.stage;
        sofar = λ κ. s.job.sofar κ + adds s c κ;
        numbered = many;
      };
      tables = t;
    }

-- ---- enrol

unfoldable pub enrol_tables : State → ℕ → List ℕ → Tables
enrol_tables s b m =
    record {
      ticks = set s.tables.ticks (enrol_step b) 1;
      blocks = overlay s.tables.blocks (numbers_per_block * b) (block_entry s b m) numbers_per_block;
      links = λ κ. overlay (s.tables.links κ) (s.job.sofar κ) (λ i. 0) (adds s (enrol b m) κ);
      keys = λ κ. overlay (s.tables.keys κ) (s.job.sofar κ) (λ i. enrolled_key s.job.told.cutting b m κ (suc i)) (adds s (enrol b m) κ);
      rows = λ κ. overlay (s.tables.rows κ) (width κ * s.job.sofar κ)
          (λ i. enrolled_row s.job.told.cutting (s.job.sofar Face) b m κ (suc (i / width κ)) (i % width κ)) (width κ * adds s (enrol b m) κ);
      numbers = s.tables.numbers;
      firsts = s.tables.firsts;
      listed = s.tables.listed;
    }

-- ---- seam

unfoldable pub seam_tables : State → ℕ → ℕ → List ℕ → List ℕ → Tables
seam_tables s b c m n =
    record {
      ticks = set s.tables.ticks (seam_step s.job.told.cutting (edge b c)) 1;
      blocks = s.tables.blocks;
      links = λ κ. relinked (s.tables.links κ) (seam_edges s.job.told.cutting s.tables κ b c m n);
      keys = s.tables.keys;
      rows = s.tables.rows;
      numbers = s.tables.numbers;
      firsts = s.tables.firsts;
      listed = s.tables.listed;
    }

-- ---- crossing

unfoldable pub cross_tables : State → ℕ → List ℕ → Tables
cross_tables s b m =
    record {
      ticks = set s.tables.ticks (crossing_step b) 1;
      blocks = s.tables.blocks;
      links = instead Curve (relinked (s.tables.links Curve) (cross_edges s.job.told.cutting s.tables b m)) s.tables.links;
      keys = s.tables.keys;
      rows = s.tables.rows;
      numbers = s.tables.numbers;
      firsts = s.tables.firsts;
      listed = s.tables.listed;
    }

-- "After the last block, faces and curves are numbered."
unfoldable pub cross_last : State → ℕ → List ℕ → State
cross_last s b m =
    moved s (cross b m) (number_kind (number_kind (cross_tables s b m) Face (s.job.sofar Face)) Curve (s.job.sofar Curve))
    (instead Face (length (heads (cross_tables s b m) Face (s.job.sofar Face)))
    (instead Curve (length (heads (cross_tables s b m) Curve (s.job.sofar Curve))) s.job.numbered))

unfoldable pub crossed : State → ℕ → List ℕ → State
crossed s b m =
    cond (same_stage (next_after s.job.told.cutting (ticked (cross_tables s b m)) s.job.stage) Points) (cross_last s b m)
    (moved s (cross b m) (cross_tables s b m) s.job.numbered)

-- ---- point

unfoldable pub point_tables : State → ℕ → List ℕ → Tables
point_tables s b m =
    record {
      ticks = set s.tables.ticks (point_step b) 1;
      blocks = s.tables.blocks;
      links = s.tables.links;
      keys = instead Point
          (overlay (s.tables.keys Point) (s.job.sofar Point)
          (λ i. key_of (embed s.job.told.cutting b (get_or (point_cells s.job.told.cutting s.tables b m) i 0)) b) (adds s (point b m) Point)) s.tables.keys;
      rows = instead Point
          (overlay (s.tables.rows Point) (6 * s.job.sofar Point)
          (λ i. get_or (final_row s.job.told.cutting s.tables b m (get_or (point_cells s.job.told.cutting s.tables b m) (i / 6) 0)) (i % 6) 0)
          (6 * adds s (point b m) Point)) s.tables.rows;
      numbers = s.tables.numbers;
      firsts = s.tables.firsts;
      listed = s.tables.listed;
    }

-- "Closed: points are numbered by position."
unfoldable pub point_last : State → ℕ → List ℕ → State
point_last s b m =
    moved s (point b m) (number_kind (point_tables s b m) Point (s.job.sofar Point + adds s (point b m) Point))
    (instead Point (length (heads (point_tables s b m) Point (s.job.sofar Point + adds s (point b m) Point))) s.job.numbered)

unfoldable pub pointed : State → ℕ → List ℕ → State
pointed s b m =
    cond (same_stage (next_after s.job.told.cutting (ticked (point_tables s b m)) s.job.stage) Closed) (point_last s b m)
    (moved s (point b m) (point_tables s b m) s.job.numbered)

-- ---- one call

-- What an accepted call answers and leaves.
unfoldable pub accepted_answer : State → Call → Answer
accepted_answer s (enrol b m) = answer 0 0 []
accepted_answer s (join b c m n) = answer 0 0 []
accepted_answer s (cross b m) = answer 0 0 []
accepted_answer s (point b m) = answer 0 0 []
accepted_answer s (look b m c) = answer 0 (looked_up s b m c) []
accepted_answer s (reading κ n) = answer 0 0 (row_taken s κ n)

unfoldable pub accepted_state : State → Call → State
accepted_state s (enrol b m) = moved s (enrol b m) (enrol_tables s b m) s.job.numbered
accepted_state s (join b c m n) = moved s (join b c m n) (seam_tables s b c m n) s.job.numbered
accepted_state s (cross b m) = crossed s b m
accepted_state s (point b m) = pointed s b m
accepted_state s (look b m c) = s
accepted_state s (reading κ n) = s

-- "A refusal returns its number, a job handed in as it was .. and changes no lent slice and no job."
unfoldable pub answer_of : State → Call → Answer
answer_of s c = cond (eqb (refusal s c) 0) (accepted_answer s c) (answer (refusal s c) 0 [])

unfoldable pub after : State → Call → State
after s c = cond (eqb (refusal s c) 0) (accepted_state s c) s

-- ---- opening

unfoldable pub fresh_job : Told → Job
fresh_job o = record { told = o; stage = Enrol; sofar = λ κ. 0; numbered = λ κ. 0 }

unfoldable pub cleared : Tables → Tables
cleared t = with_ticks t (zeros (length t.ticks))

unfoldable pub opened_state : Told → Tables → State
opened_state o lent =
    cond (eqb (open_refusal o lent) 0) (record { job = fresh_job o; tables = cleared lent }) (record { job = fresh_job (nothing o); tables = lent })
