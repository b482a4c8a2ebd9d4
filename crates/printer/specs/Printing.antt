-- What `print_listing` answers and leaves in its trays, for every input.
-- Assumes nothing.
use Rattle.std.specs.Prelude.{◌≡◌, Bool, cond, not, ◌&&◌, ◌||◌, List, ℕ, ◌≤◌, eqb, ltb, length}
use Rattle.lists.specs.Lists.{zeros}
use Rattle.cells.specs.declared.Triple.{Triple}
use Rattle.cells.specs.Extents.{Sized, off_size}
use Rattle.cells.specs.Grid.{cells}
use Rattle.labels.specs.Components.{largest}
use Rattle.text.specs.Listing.{listing}
use Rattle.text_tray.specs.Sunk.{fitting, part}

-- A component has a number above the cells, more than there can be.
unfoldable pub too_many : Triple → List ℕ → Bool
too_many e m = ltb (cells e) (largest e m 2) || (ltb (cells e) (largest e m 1) || ltb (cells e) (largest e m 0))

-- The extents are 1 to 8, map and tray of first cells have a place for each cell, and no number is above the cells. Every map that a
-- labelling leaves has a listing: `labels_printed` (proofs/LabelledLaws). The tray of first cells goes in by its length.
unfoldable pub has_listing : Triple → List ℕ → ℕ → Bool
has_listing e m marks = not (off_size 8 e) && (eqb (length m) (cells e) && (eqb marks (cells e) && not (too_many e m)))

-- How many bytes are put, and what the tray of first cells and the tray of text hold.
pub record Outcome : Type 0 where
  pub put : ℕ
  pub marks : List ℕ
  pub tray : List ℕ

abbrev pub outcome : ℕ → List ℕ → List ℕ → Outcome
outcome n f t = record { put = n; marks = f; tray = t }

-- The part of the listing from `from` on that the tray holds; the tray of first cells is left with zeros.
unfoldable pub listed : Triple → List ℕ → List ℕ → ℕ → List ℕ → Outcome
listed e m f from t = outcome (fitting from (listing e m) (length t)) (zeros (length f)) (part from (listing e m) t)

-- The outcome of a call: where there is no listing, no bytes, and the trays as they were.
unfoldable pub printing : Triple → List ℕ → List ℕ → ℕ → List ℕ → Outcome
printing e m f from t = cond (has_listing e m (length f)) (listed e m f from t) (outcome 0 f t)

-- What the inner functions require: the map has a listing.
pub record Ready (e : Triple) (m : List ℕ) (marks : ℕ) : Type 0 where
  pub sized : Sized 8 e
  pub whole : length m ≡ cells e
  pub room : marks ≡ cells e
  pub counts : (j : ℕ) → j ≤ 2 → largest e m j ≤ cells e
