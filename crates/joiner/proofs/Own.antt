-- Maps that a labelling leaves.
-- Assumes nothing.
use mathlib.Core.Bool.{true}
use mathlib.Core.List.{List}
use mathlib.Core.Path.{◌∙◌, ◌≡◌, ap, sym}
use Prim.Native.Nat.{◌<◌, ℕ}
use native.Mathlib.Omega.{arith}
use lib.ListN.{get_or, length}
use lib.Seq.{ext_get_or}
use Rattle.lists.specs.Lists.{tabulate}
use Rattle.cells.specs.Box.{volume}
use Rattle.cells.specs.declared.Triple.{Triple}
use Rattle.cells.specs.Grid.{voxel_cell}
use Rattle.cells.specs.Row.{same_row}
use Rattle.labels.specs.Number.{labels}
use Rattle.joiner.specs.Book.{labelled, voxel_codes}
use Rattle.joiner.specs.Statement.{Labelling}
use Rattle.lists.proofs.Lists.{get_or_tabulate, length-tabulate}
use Rattle.cells.proofs.GridLaws.{voxel_cell_lem, voxel_cell_inside, voxel_cell_order}
use Rattle.cells.proofs.RowLaws.{row_same, same_row_lem}
use Rattle.labels.proofs.LabelLaws.{labels_numbering}

module _ (e : Triple) (m : List ℕ) where
  -- the codes of a labelling stand at the voxels of its map
  codes_are : (l : Labelling e m) → voxel_codes e m ≡ l.codes
  unfolding voxel_codes
  codes_are l =
      ext_get_or 0 (tabulate (volume e) (λ v. get_or m (voxel_cell e v) 0)) l.codes (length-tabulate (volume e) (λ v. get_or m (voxel_cell e v) 0) ∙ sym l.many)
      (λ i h.
      let hi : i < volume e = omega (arith, length-tabulate (volume e) (λ v. get_or m (voxel_cell e v) 0)) in
      get_or_tabulate (volume e) (λ v. get_or m (voxel_cell e v) 0) i hi
      ∙ ap (λ (x : List ℕ). get_or x (voxel_cell e i) 0) l.left
      ∙ (labels_numbering e l.codes).voxels (voxel_cell e i) (voxel_cell_inside e i hi) (voxel_cell_order e i hi)
      ∙ ap (λ (v : ℕ). get_or l.codes v 0) (voxel_cell_lem e i hi))

  pub labelling_labelled : Labelling e m → labelled e m ≡ true
  unfolding labelled
  labelling_labelled l =
      let c : voxel_codes e m ≡ l.codes = codes_are l in
      ap (λ (x : List ℕ). same_row m (labels e x)) c ∙ ap (same_row m) (sym l.left) ∙ row_same m

  pub labelled_labelling : labelled e m ≡ true → Labelling e m
  unfolding labelled
  labelled_labelling t =
      record {
        codes = voxel_codes e m;
        many = long;
        left = same_row_lem m (labels e (voxel_codes e m)) t;
      }
    where
      long : length (voxel_codes e m) ≡ volume e
      long = unfold voxel_codes in length-tabulate (volume e) (λ v. get_or m (voxel_cell e v) 0)
