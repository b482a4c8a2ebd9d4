-- What `fill` leaves: each code at its voxel, and 0 at every other cell. The premise of the first two laws is the promise of `fill` itself; of what the map held it says nothing.
-- Assumes nothing.
use mathlib.Core.Path.{◌≡◌, sym, ap, ◌∙◌}
use mathlib.Core.List.{List}
use Prim.Native.Nat.{ℕ, ◌<◌}
use native.Mathlib.Omega.{arith}
use lib.Dec.{eqb}
use lib.ListN.{length, get_or}
use lib.Seq.{ext_get_or}
use borrow.Author.Tests.{eqb-true, eqb-false, eq-eqb, ne_eqb}
use Rattle.lists.specs.Lists.{tabulate}
use Rattle.lists.proofs.Cases.{by_test}
use Rattle.lists.proofs.Lists.{length-tabulate, get_or_tabulate}
use Rattle.cells.specs.declared.Triple.{Triple}
use Rattle.cells.specs.Grid.{cells, order, voxel, voxel_cell}
use Rattle.cells.proofs.GridLaws.{voxel_inside, voxel_cell_lem, voxel_cell_inside, voxel_cell_order, cell_voxel}
use Rattle.labels.specs.Number.{code_at}
use Rattle.pass_fill.specs.Filled.{EachCode, OtherZero}

module _ (e : Triple) (codes m : List ℕ) (promise : m ≡ tabulate (cells e) (code_at e codes)) where
  at : (p : ℕ) → p < cells e → get_or m p 0 ≡ code_at e codes p
  at p h = rw promise (get_or_tabulate (cells e) (code_at e codes) p h)

  pub fill_voxel : EachCode e codes m
  unfolding code_at
  fill_voxel v h =
      at (voxel_cell e v) (voxel_cell_inside e v h)
      ∙ rw (eq-eqb (order e (voxel_cell e v)) 3 (voxel_cell_order e v h), voxel_cell_lem e v h)

  pub fill_other : OtherZero e m
  unfolding code_at
  fill_other p h n = at p h ∙ rw (ne_eqb (order e p) 3 n)

-- The two say all: no other map of the block's cells has both.
pub fill_only : (e : Triple) (codes m : List ℕ) → length m ≡ cells e → EachCode e codes m → OtherZero e m → m ≡ tabulate (cells e) (code_at e codes)
unfolding code_at
fill_only e codes m whole each others =
    ext_get_or 0 m _ (whole ∙ sym (length-tabulate (cells e) (code_at e codes)))
    (λ p h.
    let k : p < cells e = omega (arith, whole) in
    sym (get_or_tabulate (cells e) (code_at e codes) p k
    ∙ by_test (eqb (order e p) 3)
    (λ t. rw t (sym (each (voxel e p) (voxel_inside e p k)) ∙ ap (λ (q : ℕ). get_or m q 0) (cell_voxel e p k (eqb-true (order e p) 3 t))))
    (λ t. rw t (sym (others p k (eqb-false (order e p) 3 t))))))
