-- The refusals of `print_layer` in the order of the code, and its ways.
-- Assumes nothing.
use mathlib.Core.Path.{◌≡◌, refl, ap, ◌∙◌}
use mathlib.Core.Bool.{true, false, cond, not, ◌||◌}
use mathlib.Core.List.{List, [], ◌∷◌}
use Prim.Native.Nat.{ℕ, ◌+◌, ◌-◌, ◌*◌, ◌≤◌, ◌<◌}
use native.Mathlib.Omega.{arith}
use lib.Dec.{eqb, leb}
use lib.ListN.{length, take, drop, length-take, length-drop}
use borrow.Author.Tests.{eqb-true, eq-eqb, ne_eqb, le-leb, lt-leb, leb-false, not-false}
use Rattle.lists.proofs.Cases.{neither}
use Rattle.lists.proofs.Overlay.{listed_room}
use Rattle.refusals.specs.declared.Refusal.{Refusal}
use Rattle.refusals.specs.Refusals.{number, table, first, given_by, listed_numbers, stands_in}
use Rattle.refusals.proofs.RefusalLaws.{given_none, number_nonzero}
use Rattle.cells.specs.declared.Triple.{Triple}
use Rattle.cells.specs.Extents.{Sized, off_size}
use Rattle.cells.specs.Grid.{sides, cells}
use Rattle.cells.proofs.ExtentLaws.{cells_are}
use Rattle.extents.proofs.SizeLaws.{sized_of}
use Rattle.layer_printer.specs.Printed.{page_count, pages, map_layer, printed_layer}
use Rattle.layer_printer.specs.Printing.{declines, refusal_of, outcome, accepted, refused, layer_printing}
use Rattle.layer_printer.specs.Inner.{Whole}
use Rattle.layer_printer.proofs.PageLaws.{pages_length}

-- How many bytes the pages have.
pub printed_length : (e : Triple) (z : ℕ) (m : List ℕ) → length (printed_layer e z m) ≡ 81 * (2 * e.y - 1) * page_count (2 * e.x - 1)
unfolding printed_layer sides
printed_length e z m = pages_length (2 * e.x - 1) (2 * e.y - 1) (map_layer e z m)

-- What holds where nothing is refused.
pub record Ready (e : Triple) (z : ℕ) (m : List ℕ) (tray : ℕ) : Type 0 where
  pub sized : Sized 64 e
  pub there : z < 2 * e.z - 1
  pub mapped : length m ≡ cells e
  pub fits : tray ≡ 81 * (2 * e.y - 1) * page_count (2 * e.x - 1)

module _ (e : Triple) (z : ℕ) (m : List ℕ) (tray : ℕ) where
  ladder : refusal_of e z m tray ≡ cond (off_size 64 e) 1 (cond (leb (2 * e.z - 1) z) 4 (cond (not (eqb (length m) (cells e)) || not (eqb tray (length (printed_layer e z m)))) 6 0))
  unfolding refusal_of given_by first table number stands_in declines sides
  ladder = refl

  pub size_given : off_size 64 e ≡ true → 1 ≡ refusal_of e z m tray
  size_given p = rw (ladder, p)

  module _ (p : off_size 64 e ≡ false) where
    pub layer_given : 2 * e.z - 1 ≤ z → 4 ≡ refusal_of e z m tray
    layer_given h = rw (ladder, p, le-leb (2 * e.z - 1) z h)

    module _ (h : z < 2 * e.z - 1) where
      pub map-given : (length m ≡ cells e → ⊥) → 6 ≡ refusal_of e z m tray
      map-given d = rw (ladder, p, lt-leb (2 * e.z - 1) z h, ne_eqb _ _ d)

      module _ (k : length m ≡ cells e) (r : ℕ) (q : r ≡ 81 * (2 * e.y - 1) * page_count (2 * e.x - 1)) where
        pub tray_given : (tray ≡ r → ⊥) → 6 ≡ refusal_of e z m tray
        tray_given d = rw (ladder, p, lt-leb (2 * e.z - 1) z h, eq-eqb _ _ k, printed_length e z m, ← q, ne_eqb tray r d)

        pub none_given : tray ≡ r → 0 ≡ refusal_of e z m tray
        none_given i = rw (ladder, p, lt-leb (2 * e.z - 1) z h, eq-eqb _ _ k, printed_length e z m, ← q, eq-eqb tray r i)

  pub ready_of : refusal_of e z m tray ≡ 0 → Ready e z m tray
  unfolding refusal_of declines stands_in number sides
  ready_of n =
      let none = (given_none (stands_in (declines e z m tray))).0 n in
      let a = not (eqb (length m) (cells e)) in
      let b = not (eqb tray (length (printed_layer e z m))) in
      let w = neither a b (none Refusal.WrongTray) in
      record {
        sized = sized_of 64 e (none Refusal.OffSize);
        there = leb-false (2 * e.z - 1) z (none Refusal.NoSuchPlace);
        mapped = eqb-true _ _ (not-false _ w.0);
        fits = eqb-true _ _ (not-false _ w.1) ∙ printed_length e z m;
      }

-- How many cells a layer has.
abbrev pub layer_cells : Triple → ℕ
layer_cells e = (2 * e.x - 1) * (2 * e.y - 1)

-- Layer z as a part of the map, which the code lends.
abbrev pub layer_part : Triple → ℕ → List ℕ → List ℕ
layer_part e z m = take (layer_cells e * z + layer_cells e - layer_cells e * z) (drop (layer_cells e * z) m)

-- The layer lies in the map.
pub layer_room : (e : Triple) (z : ℕ) (m : List ℕ) → z < 2 * e.z - 1 → length m ≡ cells e → layer_cells e * z + layer_cells e ≤ length m
layer_room e z m h l = omega (arith, cells_are e, listed_room (layer_cells e) (2 * e.z - 1) z h)

pub layer_whole : (e : Triple) (z : ℕ) (m : List ℕ) (tray : ℕ) → Ready e z m tray → Whole (2 * e.x - 1) (2 * e.y - 1) (layer_part e z m)
layer_whole e z m tray r = record {
  narrow = omega (arith, r.sized.x_high);
  low = omega (arith, r.sized.y_high);
  there = simp (length-take, length-drop) (omega (arith, layer_room e z m r.there r.mapped));
}

-- ---- the ways of `print_layer`

module _ (e : Triple) (z : ℕ) (m t : List ℕ) where
  pub print_refused : (r : Refusal) → number r ≡ refusal_of e z m (length t) → layer_printing e z m t ≡ outcome (number r) t
  unfolding layer_printing refused
  print_refused r h = rw (← h, number_nonzero r)

  pub print_accepted : (u : List ℕ) → 0 ≡ refusal_of e z m (length t) → u ≡ pages (2 * e.x - 1) (2 * e.y - 1) (layer_part e z m) → outcome 0 u ≡ layer_printing e z m t
  unfolding layer_printing accepted printed_layer map_layer sides
  print_accepted u h j =
      let c : layer_cells e * z + layer_cells e - layer_cells e * z ≡ layer_cells e = omega arith in
      rw (← h) (ap (outcome 0) (j ∙ rw c))

-- The numbers that `print_layer` lists, in the order of the table.
pub layer_listed : (e : Triple) (z : ℕ) (m : List ℕ) (tray : ℕ) → listed_numbers (declines e z m tray) ≡ 1 ∷ 4 ∷ 6 ∷ []
unfolding listed_numbers declines number
layer_listed e z m tray = refl
