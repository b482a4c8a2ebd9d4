-- Lines and pages: how long they are, and how they are laid into a tray piece by piece.
-- Assumes nothing.
use mathlib.Core.Path.{◌≡◌, sym, ap, ◌∙◌}
use mathlib.Core.List.{List, [], ◌∷◌, ◌++◌, append_assoc, append-nil, flat_map}
use Prim.Native.Nat.{ℕ, zero, suc, ◌+◌, ◌-◌, ◌*◌, ◌≤◌, ◌<◌, min}
use native.Mathlib.Omega.{arith}
use lib.Dec.{ltb}
use lib.ListN.{length, get_or, take, drop, set, replicate, length-append, length-replicate, replicate-append-replicate, drop_of_length-le}
use borrow.Author.Tests.{ltb-true, ltb-false}
use Rattle.lists.specs.Lists.{consecutive, laid}
use Rattle.lists.proofs.Cases.{by_test}
use Rattle.lists.proofs.Laid.{laid_next, laid_more, laid_front}
use Rattle.lists.proofs.Pieces.{length-pieces, pieces_next, pieces_none, pieces_laid}
use Rattle.layer_printer.specs.Printed.{cell_columns, place_columns, first_places, page_line, cell_line, page, page_count, pages}
use Rattle.layer_printer.proofs.ColumnLaws.{place_beyond, place_cell, place_five}

-- ---- lengths

pub places_length : (line : List ℕ) (p n : ℕ) → length (first_places line p n) ≡ 5 * n
unfolding first_places
places_length line p n = length-pieces _ 5 (λ k. place_five _ _) n

-- "Every line is 80 characters and a line end."
pub line_length : (line : List ℕ) (p : ℕ) → length (page_line line p) ≡ 81
unfolding page_line
line_length line p = length-append (first_places line p 16) (10 ∷ []) ∙ rw (places_length line p 16)

module _ (w h : ℕ) (layer : List ℕ) where
  pub page_length : (p : ℕ) → length (page w h layer p) ≡ 81 * h
  unfolding page
  page_length p = length-pieces _ 81 (λ y. line_length _ _) h

  pub pages_length : length (pages w h layer) ≡ 81 * h * page_count w
  unfolding pages
  pages_length = length-pieces _ (81 * h) (λ p. page_length _) (page_count w)

-- ---- a line: its cells, blanks, and its end

module _ (line : List ℕ) (p : ℕ) where
  -- no place yet, and one more, which is a cell
  pub places_none : (at : ℕ) (t : List ℕ) → at ≤ length t → t ≡ laid at (first_places line p 0) t
  unfolding first_places
  places_none at t h = pieces_none _ 5 (λ k. place_five line (16 * p + k)) at t h

  pub places_next : (at : ℕ) (t : List ℕ) (k : ℕ) (u v : List ℕ) → 16 * p + k < length line → at + 5 * (k + 1) ≤ length t → u ≡ laid at (first_places line p k) t
      → v ≡ laid (at + 5 * k) (cell_columns (get_or line (16 * p + k) 0)) u → v ≡ laid at (first_places line p (k + 1)) t
  unfolding first_places
  places_next at t k u v c h i j = pieces_laid _ 5 (λ k. place_five line (16 * p + k)) at k t u v h i (rw (place_cell line (16 * p + k) c) j)

  place_more : (k : ℕ) → first_places line p (k + 1) ≡ first_places line p k ++ place_columns line (16 * p + k)
  unfolding first_places
  place_more k = pieces_next _ k

  -- beyond the grid
  places_blank : (n d : ℕ) → length line ≤ 16 * p + n → first_places line p (n + d) ≡ first_places line p n ++ replicate (5 * d) 32
  places_blank n zero h = let z : n + 0 ≡ n = omega arith in rw z (sym (append-nil (first_places line p n)))
  places_blank n (suc d) h =
      let s : n + suc d ≡ n + d + 1 = omega arith in
      let five : 5 * d + 5 ≡ 5 * suc d = omega arith in
      rw s
      (place_more (n + d) ∙ rw (places_blank n d h, place_beyond line (16 * p + (n + d)) (omega arith)) (append_assoc (first_places line p n) (replicate (5 * d) 32) (replicate 5 32))
      ∙ ap (λ (l : List ℕ). first_places line p n ++ l) (replicate-append-replicate (5 * d) 5 32 ∙ ap (λ (k : ℕ). replicate k 32) five))

  -- All places: those in the grid, and blanks.
  places_all : (n : ℕ) → n ≡ min 16 (length line - 16 * p) → first_places line p 16 ≡ first_places line p n ++ replicate (80 - 5 * n) 32
  places_all n e =
      let s : n + (16 - n) ≡ 16 = omega arith in
      let f : 5 * (16 - n) ≡ 80 - 5 * n = omega arith in
      by_test (ltb n 16)
      (λ t.
      let low : n < 16 = ltb-true n 16 t in
      ap (first_places line p) (sym s) ∙ places_blank n (16 - n) (omega arith) ∙ rw f)
      (λ t.
      let full : n ≡ 16 = omega (arith, ltb-false n 16 t) in
      rw full (sym (append-nil (first_places line p 16))))

  pub line_laid : (n at : ℕ) (t u v : List ℕ) → n ≡ min 16 (length line - 16 * p) → at + 81 ≤ length t → u ≡ laid at (first_places line p n) t → v ≡ laid (at + 5 * n) (replicate (80 - 5 * n) 32) u
      → set v (at + 80) 10 ≡ laid at (page_line line p) t
  unfolding page_line
  line_laid n at t u v e h i j =
      let cells = places_length line p n in
      let spaces = length-replicate {A = ℕ} (80 - 5 * n) 32 in
      let whole : v ≡ laid at (first_places line p 16) t =
      j ∙ ap (laid (at + 5 * n) (replicate (80 - 5 * n) 32)) i ∙ laid_next at (at + 5 * n) (first_places line p n) (replicate (80 - 5 * n) 32) t (omega arith) (omega arith)
      ∙ ap (λ (l : List ℕ). laid at l t) (sym (places_all n e)) in
      rw whole (laid_more at 80 10 (first_places line p 16) t (places_length line p 16) (omega arith))

-- ---- a page, line by line

module _ (w : ℕ) (layer : List ℕ) (p at : ℕ) (t : List ℕ) where
  -- The tray once y lines are laid.
  abbrev pub lines_laid : ℕ → List ℕ
  lines_laid y = laid at (flat_map (λ i. page_line (cell_line w layer i) p) (consecutive 0 y)) t

  pub lines_none : at ≤ length t → t ≡ lines_laid 0
  lines_none h = pieces_none (λ i. page_line (cell_line w layer i) p) 81 (λ i. line_length (cell_line w layer i) p) at t h

  -- the line is lent as a part of the layer
  part_line : (y : ℕ) → take (w * y + w - w * y) (drop (w * y) layer) ≡ cell_line w layer y
  unfolding cell_line
  part_line y = let e : w * y + w - w * y ≡ w = omega arith in rw e

  pub lines_next : (y : ℕ) (u v : List ℕ) → at + 81 * (y + 1) ≤ length t → u ≡ lines_laid y → v ≡ laid (at + 81 * y) (page_line (take (w * y + w - w * y) (drop (w * y) layer)) p) u
      → v ≡ lines_laid (y + 1)
  lines_next y u v h i j =
      pieces_laid (λ i. page_line (cell_line w layer i) p) 81 (λ i. line_length (cell_line w layer i) p) at y t u v h i (j ∙ ap (λ (l : List ℕ). laid (at + 81 * y) (page_line l p) u) (part_line y))

  pub lines_all : (h y : ℕ) (u : List ℕ) → y ≤ h → h ≤ y → u ≡ lines_laid y → u ≡ laid at (page w h layer p) t
  unfolding page
  lines_all h y u a b i = let e : y ≡ h = omega arith in rw e at i

-- ---- all pages, one by one

module _ (w h : ℕ) (layer t : List ℕ) where
  -- The tray once p pages are laid.
  abbrev pub pages_laid : ℕ → List ℕ
  pages_laid p = laid 0 (flat_map (page w h layer) (consecutive 0 p)) t

  pub pages_none : t ≡ pages_laid 0
  pages_none = pieces_none (page w h layer) (81 * h) (page_length w h layer) 0 t (omega arith)

  pub pages_next : (p : ℕ) (u v : List ℕ) → 81 * h * (p + 1) ≤ length t → u ≡ pages_laid p → v ≡ laid (81 * h * p) (page w h layer p) u → v ≡ pages_laid (p + 1)
  pages_next p u v k i j =
      let z : 81 * h * p ≡ 0 + 81 * h * p = omega arith in
      pieces_laid (page w h layer) (81 * h) (page_length w h layer) 0 p t u v (omega arith) i (rw z at j)

  -- they fill the tray
  pub pages_all : (p : ℕ) (u : List ℕ) → length t ≡ 81 * h * page_count w → p ≡ page_count w → u ≡ pages_laid p → u ≡ pages w h layer
  unfolding pages
  pages_all p u l e i =
      i ∙ ap pages_laid e ∙ laid_front (pages w h layer) t
      ∙ rw (drop_of_length-le t {i = length (pages w h layer)} (omega (arith, pages_length w h layer))) (append-nil (pages w h layer))
