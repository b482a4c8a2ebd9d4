-- The numbering where a code is 0.
-- Assumes nothing.
use mathlib.Core.Path.{◌≡◌, refl, ap, ◌∙◌, sym}
use mathlib.Core.Logic.{◌⊎◌, inl, inr, ◌≢◌}
use mathlib.Core.Bool.{true}
use mathlib.Core.List.{List, [], ◌∷◌}
use Prim.Native.Nat.{ℕ, suc, ◌<◌}
use native.Mathlib.Omega.{arith}
use lib.ListN.{get_or}
use borrow.Author.Tests.{ne_eqb}
use Rattle.lists.proofs.Lists.{map_same}
use Rattle.cells.specs.declared.Triple.{Triple}
use Rattle.cells.specs.Grid.{cells, order, upper_neighbours, voxel}
use Rattle.cells.specs.Row.{row_of, row, occupied, active}
use Rattle.cells.proofs.GridLaws.{upper_neighbour}
use Rattle.cells.proofs.RowFacts.{row_nonzero, row_single}
use Rattle.labels.specs.Number.{labels}
use Rattle.labels.specs.Outside.{codes_beside, segments_beside, Outside}
use Rattle.labels.proofs.LabelLaws.{labels_numbering}

module _ (e : Triple) (codes : List ℕ) where
  module _ (p : ℕ) (h : p < cells e) (o : order e p ≡ 2) where
    -- the row of a face cell is that of the segments beside it
    by_segments : row e (labels e codes) p ≡ row_of (segments_beside e codes p)
    unfolding row segments_beside codes_beside
    by_segments =
        ap row_of
        (map_same (λ q. get_or (labels e codes) q 0) (λ q. get_or codes (voxel e q) 0) (upper_neighbours e p)
        (λ q m. let u = upper_neighbour e p h m in (labels_numbering e codes).voxels q u.within (u.higher ∙ ap suc o)))
        ∙ sym (row_nonzero (codes_beside e codes p))

    one_segment : (a : ℕ) → a ≢ 0 → segments_beside e codes p ≡ a ∷ [] → (get_or (labels e codes) p 0 ≢ 0) × (row e (labels e codes) p ≡ a ∷ 0 ∷ 0 ∷ 0 ∷ 0 ∷ 0 ∷ [])
    unfolding active occupied
    one_segment a n s =
        let r : row e (labels e codes) p ≡ a ∷ 0 ∷ 0 ∷ 0 ∷ 0 ∷ 0 ∷ [] = by_segments ∙ ap row_of s ∙ row_single a n in
        let t : active e (labels e codes) p ≡ true = rw (r, ne_eqb a 0 n) refl in
        (λ z. omega (arith, (labels_numbering e codes).positive p h t), r)

    no_segments : segments_beside e codes p ≡ [] → get_or (labels e codes) p 0 ≡ 0
    unfolding active occupied row_of
    no_segments s = (labels_numbering e codes).inactive p h (omega arith) (rw (by_segments, s) refl)

  -- What item 4 says of zero voxels holds of every block and of every uncut volume.
  pub labels_outside : Outside e codes
  unfolding segments_beside
  labels_outside =
      record {
        voxel_inactive = λ q h o z. (labels_numbering e codes).voxels q h o ∙ z;
        no_segment = by_segments;
        face_active = λ p a h o n s. one_segment p h o a n (beside p a n s);
        face_inactive = λ p h o s. no_segments p h o (rw s refl);
      }
    where
      beside : (p a : ℕ) → a ≢ 0 → (codes_beside e codes p ≡ a ∷ 0 ∷ []) ⊎ (codes_beside e codes p ≡ 0 ∷ a ∷ []) → segments_beside e codes p ≡ a ∷ []
      beside p a n (inl s) = rw (s, ne_eqb a 0 n) refl
      beside p a n (inr s) = rw (s, ne_eqb a 0 n) refl
