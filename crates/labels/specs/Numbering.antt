-- "Numbering one block" (document 01; document 003, Definitions 1 to 3) as a relation: what a reader has to believe.
-- `labels` of Number.antt is the one map that it allows (law `numbering_labels`).
-- Assumes nothing.
use Rattle.std.specs.Prelude.{◌≡◌, ◌↔◌, true, false, ℕ, ◌<◌, get_or, length}
use mathlib.Core.List.{List, Memᴰ}
use Rattle.cells.specs.declared.Triple.{Triple}
use Rattle.cells.specs.Grid.{cells, order, upper_neighbours, voxel}
use Rattle.cells.specs.Row.{row, active}

-- "Two active cells of one order meet if both are upper neighbours of one cell" (document 003, Definition 2).
pub record Meet (e : Triple) (p q : ℕ) : Type 0 where
  pub at : ℕ
  pub inside : at < cells e
  pub one : Memᴰ p (upper_neighbours e at)
  pub two : Memᴰ q (upper_neighbours e at)

-- "A path of meeting cells joins them on which every row is equal": of active cells, since equal rows are of equal activity.
pub data Joined (e : Triple) (m : List ℕ) : ℕ → ℕ → Type 0 where
  here : {p : ℕ} → Joined e m p p
  step : {p q r : ℕ} → Meet e p q → active e m p ≡ true → row e m p ≡ row e m q → Joined e m q r → Joined e m p r

-- m is the map of a block of e voxels with these codes.
pub record Numbering (e : Triple) (codes m : List ℕ) : Type 0 where
  pub whole : length m ≡ cells e
  -- "A voxel cell holds its code."
  pub voxels : (p : ℕ) → p < cells e → order e p ≡ 3 → get_or m p 0 ≡ get_or codes (voxel e p) 0
  -- "Inactive cells hold 0."
  pub inactive : (p : ℕ) → p < cells e → order e p < 3 → active e m p ≡ false → get_or m p 0 ≡ 0
  -- "They share a number exactly when a path of meeting cells joins them."
  pub shared : (p q : ℕ) → p < cells e → q < cells e → order e p ≡ order e q → active e m p ≡ true → active e m q ≡ true → (get_or m p 0 ≡ get_or m q 0) ↔ Joined e m p q
  -- "Numbers run 1, 2, 3 for each order separately, by each component's first cell": a number is at least 1, and every smaller one
  -- stands at an earlier cell of that order.
  pub positive : (p : ℕ) → p < cells e → active e m p ≡ true → 0 < get_or m p 0
  pub earlier : (p k : ℕ) → p < cells e → active e m p ≡ true → 0 < k → k < get_or m p 0 → (q : ℕ) × (q < p) × (order e q ≡ order e p) × (get_or m q 0 ≡ k)
