-- Where each cell of a layer stands in the tray, from the promise of `print_layer`.
-- Assumes nothing.
use mathlib.Core.Path.{◌≡◌, refl, sym, ap, ◌∙◌}
use mathlib.Core.Logic.{◌≢◌}
use mathlib.Core.List.{List}
use Prim.Native.Nat.{ℕ, ◌+◌, ◌-◌, ◌*◌, ◌≤◌, ◌<◌}
use native.Mathlib.Omega.{arith}
use lib.ListN.{length, get_or, take, drop, length-take, length-drop}
use lib.Seq.{get_or-take, get_or-drop}
use borrow.Author.Tests.{eq-eqb, ne_eqb}
use Rattle.lists.proofs.Overlay.{row_place, listed_room}
use Rattle.refusals.proofs.RefusalLaws.{outcome_refusal}
use Rattle.cells.specs.Box.{index}
use Rattle.cells.specs.declared.Triple.{Triple}
use Rattle.cells.specs.Grid.{sides, cells}
use Rattle.layer_printer.specs.Printed.{cell_line, map_layer, printed_layer}
use Rattle.layer_printer.specs.Printing.{refusal_of, Outcome, outcome, accepted, refused, layer_printing}
use Rattle.layer_printer.specs.Places.{Owner, IsOwner, place_of, owner_at, LaidOut, layer_number}
use Rattle.layer_printer.proofs.PrintLaws.{ready_of, layer_room}
use Rattle.layer_printer.proofs.PlaceLaws.{pages_laid_out}

-- ---- the cells of a layer

module _ (w h z : ℕ) (m : List ℕ) (room : w * h * z + w * h ≤ length m) where
  abbrev layer : List ℕ
  layer = take (w * h) (drop (w * h * z) m)

  layer_length : length layer ≡ w * h
  layer_length = simp (length-take, length-drop) (omega arith)

  line_long : (y : ℕ) → y < h → length (cell_line w layer y) ≡ w
  unfolding cell_line
  line_long y hy =
      let r : w * y + w ≤ w * h = listed_room w h y hy in
      simp (length-take w (drop (w * y) layer), length-drop (w * y) layer, layer_length) (omega arith)

  line_holds : (x y : ℕ) → x < w → y < h → get_or (cell_line w layer y) x 0 ≡ get_or m (x + y * w + z * (w * h)) 0
  unfolding cell_line
  line_holds x y hx hy =
      let e : w * h * z + (w * y + x) ≡ x + y * w + z * (w * h) = omega arith in
      get_or-take w (drop (w * y) layer) x 0 hx ∙ get_or-drop (w * y) layer x 0
      ∙ get_or-take (w * h) (drop (w * h * z) m) (w * y + x) 0 (row_place w y h x hy hx) ∙ get_or-drop (w * h * z) m (w * y + x) 0 ∙ rw e

-- Of a map that has the layer.
pub printed_laid_out : (e : Triple) (z : ℕ) (m : List ℕ) → z < (sides e).z → length m ≡ cells e → LaidOut (sides e).x (sides e).y (layer_number e z m) (printed_layer e z m)
unfolding printed_layer map_layer sides index
printed_laid_out e z m hz l =
    let w : ℕ = 2 * e.x - 1 in
    let h : ℕ = 2 * e.y - 1 in
    let room = layer_room e z m hz l in
    pages_laid_out w h (take (w * h) (drop (w * h * z) m)) (layer_number e z m) (line_long w h z m room) (line_holds w h z m room)

-- No two owners stand at one place.
pub one_owner : {w h : ℕ} {number : ℕ → ℕ → ℕ} {text : List ℕ} → LaidOut w h number text → (a b : Owner) → IsOwner w h a → IsOwner w h b → place_of w h a ≡ place_of w h b → a ≡ b
one_owner {w} {h} l a b p q e = sym (l.owner a p) ∙ ap (owner_at w h) e ∙ l.owner b q

-- ---- from the promise of `print_layer`

module _ (e : Triple) (z : ℕ) (m t t' : List ℕ) (r : ℕ) (p : outcome r t' ≡ layer_printing e z m t) where
  -- what it answers is the refusal of the call
  pub print_refusal : r ≡ refusal_of e z m (length t)
  unfolding layer_printing accepted refused
  print_refusal = outcome_refusal (λ (o : Outcome). o.refusal) (refusal_of e z m (length t)) refl refl p

  -- Accepted: each cell stands at its place in the tray, whatever the tray held.
  pub print_laid_out : r ≡ 0 → LaidOut (sides e).x (sides e).y (layer_number e z m) t'
  unfolding layer_printing accepted sides
  print_laid_out a =
      let n : refusal_of e z m (length t) ≡ 0 = sym print_refusal ∙ a in
      let ready = ready_of e z m (length t) n in
      let same : t' ≡ printed_layer e z m = ap (λ (o : Outcome). o.tray) {y = outcome 0 (printed_layer e z m)} (p ∙ rw (eq-eqb _ 0 n)) in
      rw same (printed_laid_out e z m ready.there ready.mapped)

  -- Refused: the tray is as it was.
  pub print_kept : r ≢ 0 → t' ≡ t
  unfolding layer_printing refused
  print_kept d = ap (λ (o : Outcome). o.tray) {y = outcome (refusal_of e z m (length t)) t} (p ∙ rw (ne_eqb (refusal_of e z m (length t)) 0 (λ n. d (print_refusal ∙ n))))
