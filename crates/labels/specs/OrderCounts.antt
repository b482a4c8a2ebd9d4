-- How many cells of each order a volume or a block of e voxels has, by its extents (document 02, item 13).
-- Assumes nothing.
use Rattle.std.specs.Prelude.{ℕ, zero, suc, ◌+◌, ◌-◌, ◌*◌}
use Rattle.cells.specs.declared.Triple.{Triple}

-- "For extents a, b, c that is the number of face cells, (a−1)·b·c + a·(b−1)·c + a·b·(c−1), and likewise of curve and of point cells": of order 0 (points), 1 (curves),
-- 2 (faces) and 3 (a·b·c voxels); none above. That it is the length of `of_order` is the law `count_order`.
unfoldable pub cells_of_order : Triple → ℕ → ℕ
cells_of_order e zero = (e.x - 1) * (e.y - 1) * (e.z - 1)
cells_of_order e (suc zero) = e.x * (e.y - 1) * (e.z - 1) + (e.x - 1) * e.y * (e.z - 1) + (e.x - 1) * (e.y - 1) * e.z
cells_of_order e (suc (suc zero)) = (e.x - 1) * e.y * e.z + e.x * (e.y - 1) * e.z + e.x * e.y * (e.z - 1)
cells_of_order e (suc (suc (suc zero))) = e.x * e.y * e.z
cells_of_order e (suc (suc (suc (suc j)))) = 0
