-- The layer lies in the map of an accepted call.
use Rattle.std.proofs.Common.{◌+◌, ◌*◌, ◌≤◌, length, arith, sym, ℕ, List, ◌≡◌}
use Rattle.layer_printer.specs.Printing.{refusal_of}
use Rattle.cells.specs.declared.Triple.{Triple}
use Rattle.layer_printer.proofs.PrintLaws.{ready_of, layer_cells, layer_room, layer_whole, print_accepted}
use Rattle.layer_printer.proofs.print_layer.Goals as goal

room : (e : Triple) (z : ℕ) (m : List ℕ) (tray : ℕ) → 0 ≡ refusal_of e z m tray → layer_cells e * z + layer_cells e ≤ length m
room e z m tray h = let r = ready_of e z m tray (sym h) in layer_room e z m r.there r.mapped

pub overflow_mul-w : goal.overflow_mul-w
overflow_mul-w c = let r = ready_of _ _ _ _ (sym c.in_ok-judge.ensures) in omega (arith, r.sized)

pub overflow_sub-w : goal.overflow_sub-w
overflow_sub-w c = let r = ready_of _ _ _ _ (sym c.in_ok-judge.ensures) in omega (arith, r.sized)

pub overflow_mul-h : goal.overflow_mul-h
overflow_mul-h c = let r = ready_of _ _ _ _ (sym c.in_ok-judge.ensures) in omega (arith, r.sized)

pub overflow_sub-h : goal.overflow_sub-h
overflow_sub-h c = let r = ready_of _ _ _ _ (sym c.in_ok-judge.ensures) in omega (arith, r.sized)

pub overflow_mul-size : goal.overflow_mul-size
overflow_mul-size c = let r = room _ _ _ _ c.in_ok-judge.ensures in omega arith

pub overflow_mul-size-2 : goal.overflow_mul-size-2
overflow_mul-size-2 c = let r = room _ _ _ _ c.in_ok-judge.ensures in omega arith

pub overflow_mul-size-3 : goal.overflow_mul-size-3
overflow_mul-size-3 c = let r = room _ _ _ _ c.in_ok-judge.ensures in omega arith

pub overflow_add-size : goal.overflow_add-size
overflow_add-size c = let r = room _ _ _ _ c.in_ok-judge.ensures in omega arith

pub offset_bounds-map-size : goal.offset_bounds-map-size
offset_bounds-map-size c = let r = room _ _ _ _ c.in_ok-judge.ensures in omega arith

pub slice_bounds-put_pages-end : goal.slice_bounds-put_pages-end
slice_bounds-put_pages-end c = let r = room _ _ _ _ c.in_ok-judge.ensures in omega arith

pub put_pages-requires : goal.put_pages-requires
put_pages-requires c = let r = ready_of _ _ _ _ (sym c.in_ok-judge.ensures) in (layer_whole _ _ _ _ r, r.fits)

pub returns : goal.returns
returns c = print_accepted _ _ _ _ _ c.in_ok-judge.ensures c.put_pages.ensures
