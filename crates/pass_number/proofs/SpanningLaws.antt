-- Which links join the cells of each component: zeros with the edges joined, and zeros alone for points.
-- Assumes nothing.
use mathlib.Core.Path.{◌≡◌, sym, ◌∙◌}
use mathlib.Core.List.{List}
use Prim.Native.Nat.{ℕ}
use lib.Dec.{eqb}
use borrow.Author.Tests.{eqb-true}
use Rattle.lists.specs.Lists.{zeros}
use Rattle.lists.proofs.Cases.{by_test}
use Rattle.lists.proofs.Lists.{length-zeros}
use Rattle.closure.specs.Joined.{joins, rep}
use Rattle.closure.proofs.Classes.{path_to_rep}
use Rattle.closure.proofs.Rooted.{joins_ext}
use Rattle.union_find.specs.Links.{root, Rooted}
use Rattle.union_find.proofs.LinkLaws.{zeros_alone}
use Rattle.union_find.proofs.SoundLaws.{zeros_sound}
use Rattle.cells.specs.declared.Triple.{Triple}
use Rattle.cells.specs.Grid.{cells, order}
use Rattle.labels.specs.Number.{edges, active_of}
use Rattle.labels.proofs.NumberLaws.{rep_inactive, path_joined}
use Rattle.labels.proofs.LabelLaws.{point_alone}
use Rattle.pass_number.specs.Spanning.{Spanning}

module _ (e : Triple) (m : List ℕ) {ls : List ℕ} (cleared : ls ≡ zeros (cells e)) where
  -- Links that were all zeros, with the edges joined: the roots are the least cells.
  pub joined_spanning : (j : ℕ) {ks : List ℕ} → Rooted ls ks (joins (root ls) (edges e m j)) → Spanning e m j ks
  unfolding rep
  joined_spanning j R = record {
    size = R.size ∙ rw cleared (length-zeros (cells e));
    roots = λ y. R.roots y ∙ joins_ext (edges e m j) _ _ (λ x. rw cleared (zeros_alone (cells e) x)) y;
    sound = λ y. R.sound y (rw cleared (zeros_sound (cells e) y));
  }

  -- "Point cells never meet": each is alone.
  point_rep : (y : ℕ) → rep (edges e m 0) y ≡ y
  unfolding active_of
  point_rep y =
      by_test (eqb (order e y) 0)
      (λ t. sym (point_alone e m (eqb-true (order e y) 0 t) (path_joined e m 0 (path_to_rep (edges e m 0) y))))
      (λ t. rep_inactive e m 0 y (rw t))

  pub points_spanning : Spanning e m 0 ls
  points_spanning = record {
    size = rw cleared (length-zeros (cells e));
    roots = λ y. rw cleared (zeros_alone (cells e) y) ∙ sym (point_rep y);
    sound = λ y. rw cleared (zeros_sound (cells e) y);
  }
