-- No row before v differs, nor a cell of row v before column u.
use Rattle.std.proofs.Common.{◌≡◌, false}
use Rattle.pass_seam.specs.Walks.{row_differs_to, layers_differ_to}
use Rattle.pass_seam.proofs.layers_differ.Given as goal

abbrev pub invariant-loop-v : goal.invariant-loop-v
invariant-loop-v l = layers_differ_to l.low.map.now l.low.layer l.high.map.now l.high.layer l.columns l.v ≡ false

abbrev pub invariant-loop-u : goal.invariant-loop-u
invariant-loop-u l = (layers_differ_to l.low.map.now l.low.layer l.high.map.now l.high.layer l.columns l.v ≡ false) × (row_differs_to l.low.map.now l.low.layer l.high.map.now l.high.layer l.v l.u ≡ false)
