-- What the stores of an enrolment require, and what they leave.
-- Assumes nothing.
use Rattle.std.specs.Prelude.{◌≡◌, ◌⊎◌, List, [], ◌∷◌, ℕ, suc, ◌+◌, ◌-◌, ◌*◌, ◌/◌, ◌%◌, ◌≤◌, ◌<◌, get_or, length}
use Rattle.lists.specs.Lists.{overlay}
use Rattle.cells.specs.declared.Triple.{Triple}
use Rattle.cells.specs.Grid.{cells}
use Rattle.labels.specs.Components.{largest}
use Rattle.cutting.specs.Cutting.{most_blocks}
use Rattle.joiner.specs.Job.{State}
use Rattle.joiner.specs.Calls.{enrol}
use Rattle.joiner.specs.Declines.{refusal}
use Rattle.blocks.specs.Blocks.{size_of}
use Rattle.blocks.specs.declared.Block.{Block}
use Rattle.pass_enrol.specs.EnrolledRows.{Lies, key_in, row_in}
use Rattle.counts.specs.declared.Counts.{Counts}
use Rattle.judge_enrol.specs.Tests.{Planned}

-- What the stores require: an accepted call, and its block's largest numbers.
pub record Ready (s : State) (b : ℕ) (m : List ℕ) (p : Counts) : Type 0 where
  pub accepted : refusal s (enrol b m) ≡ 0
  pub plan : Planned s.job b m p

-- The numbers of a block, the joiner's `block_entry`.
unfoldable pub block_numbers : Counts → ℕ → ℕ → ℕ → ℕ
block_numbers p face curve i = get_or (p.faces ∷ p.curves ∷ p.points ∷ face ∷ curve ∷ []) i 0

-- What the stores of one kind require, of tables by their lengths, and what they leave.
pub record KindReady (v : Triple) (r : Block) (b : ℕ) (m : List ℕ) (j shift from count links keys rows : ℕ) : Type 0 where
  pub lies : Lies v r
  pub size : length m ≡ cells (size_of r)
  pub block : b < most_blocks
  pub below : j ≤ 2
  pub most : count ≡ largest (size_of r) m j
  pub on_links : from + count ≤ links
  pub on_keys : from + count ≤ keys
  pub on_rows : (6 - 2 * j) * (from + count) ≤ rows
  pub shifts : (shift ≡ 0) ⊎ (shift + largest (size_of r) m (suc j) < 4294967296)

pub record KindDone (v : Triple) (r : Block) (b : ℕ) (m : List ℕ) (j shift from count : ℕ) (links keys rows links' keys' rows' : List ℕ) : Type 0 where
  pub links_are : links' ≡ overlay links from (λ i. 0) count
  pub keys_are : keys' ≡ overlay keys from (λ i. key_in v r b m j (suc i)) count
  pub rows_are : rows' ≡ overlay rows ((6 - 2 * j) * from) (λ i. row_in (size_of r) shift m j (suc (i / (6 - 2 * j))) (i % (6 - 2 * j))) ((6 - 2 * j) * count)
