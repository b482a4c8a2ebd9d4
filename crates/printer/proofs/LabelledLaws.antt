-- The map that a labelling leaves has a listing: its numbers are at most as many as the cells.
-- Assumes nothing.
use mathlib.Core.Path.{◌≡◌, refl, sym}
use mathlib.Core.Bool.{false}
use mathlib.Core.List.{List}
use Prim.Native.Nat.{ℕ, zero, suc, ◌≤◌, ◌<◌}
use native.Mathlib.Omega.{arith}
use lib.ListN.{length}
use borrow.Author.Tests.{le-ltb}
use Rattle.lists.proofs.Lists.{length-tabulate}
use Rattle.cells.specs.declared.Triple.{Triple}
use Rattle.cells.specs.Extents.{Sized, off_size}
use Rattle.cells.specs.Grid.{cells}
use Rattle.extents.proofs.SizeLaws.{sized_of}
use Rattle.labels.specs.Components.{largest, first_cell}
use Rattle.labels.specs.Number.{numbered, map_down, labels}
use Rattle.labels.proofs.LabelLaws.{labels_numbering}
use Rattle.labels.proofs.CountLaws.{first_cells_ascend}
use Rattle.printer.specs.Printing.{too_many, listed, printing}
use Rattle.pass_first.proofs.MarkLaws.{first_inside}
use Rattle.printer.proofs.PrintLaws.{by_numbers}

module _ (e : Triple) (codes : List ℕ) where
  -- component n + 1 begins at cell n or after it
  first_late : (j n : ℕ) → j < 3 → suc n ≤ largest e (labels e codes) j → n ≤ first_cell e (labels e codes) j (suc n)
  first_late j zero h k = omega arith
  first_late j (suc n) h k =
      let i = first_late j n h (omega arith) in
      let a = first_cells_ascend e codes (labels e codes) (labels_numbering e codes) j h (suc n) (suc (suc n)) (omega arith) (omega arith) k in
      omega arith

  few : (j n : ℕ) → Sized 8 e → j < 3 → n ≡ largest e (labels e codes) j → n ≤ cells e
  few j zero s h q = omega arith
  few j (suc n) s h q = let a = first_late j n h (omega arith) in omega (arith, first_inside (labels e codes) j (suc n) s)

  few_labels : Sized 8 e → too_many e (labels e codes) ≡ false
  unfolding too_many
  few_labels s = rw (le-ltb _ _ (few 2 _ s (omega arith) refl), le-ltb _ _ (few 1 _ s (omega arith) refl), le-ltb _ _ (few 0 _ s (omega arith) refl))

  length-labels : length (labels e codes) ≡ cells e
  unfolding labels map_down numbered
  length-labels = length-tabulate (cells e) _

  pub labels_printed : (f : List ℕ) (from : ℕ) (t : List ℕ) → off_size 8 e ≡ false → length f ≡ cells e → printing e (labels e codes) f from t ≡ listed e (labels e codes) f from t
  unfolding printing
  labels_printed f from t s r = rw (← by_numbers e (labels e codes) (length f) s length-labels r false (sym (few_labels (sized_of 8 e s))))
