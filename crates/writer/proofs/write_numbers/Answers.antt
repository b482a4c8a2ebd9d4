-- None listed, room for one more, one more or none, and all.
use Rattle.std.proofs.Common.{◌∙◌, arith, ap, length, refl, ℕ, List}
use Rattle.lists.specs.Lists.{laid}
use Rattle.writer.proofs.WriteLaws.{le_four, listed_none, listed_zero_next, listed_room, listed_one_next}
use Rattle.writer.proofs.write_numbers.Goals.{then-v-ne0, else-v-ne0}
use Rattle.writer.proofs.write_numbers.Goals as goal

pub loop-v-init : goal.loop-v-init
loop-v-init c = listed_none _ _ _ c.requires

pub put-requires : goal.put-requires
put-requires c =
    let l = c.loop-v in
    let r = listed_room c.args.map.now c.args.at c.args.tray.now c.requires l.invariant (omega arith) _ refl c.if-v-ne0.true in
    omega (arith, r, ap length c.to_le_bytes.ensures)

pub overflow_add-end : goal.overflow_add-end
overflow_add-end c =
    let l = c.loop-v in
    let r = listed_room c.args.map.now c.args.at c.args.tray.now c.requires l.invariant (omega arith) _ refl c.if-v-ne0.true in
    omega (arith, r)

pub loop-v-preserved : goal.loop-v-preserved
loop-v-preserved c =
    let l = c.loop-v in
    elim c.if-v-ne0.branch [
      | then-v-ne0 w ↦ rw (w.end-is, w.tray-is) (listed_one_next c.args.map.now c.args.at c.args.tray.now c.requires l.invariant c.loop-v-test.true _ refl w.if-v-ne0.true _ (w.put.ensures ∙ ap (λ (b : List ℕ). laid l.end b l.tray) (w.to_le_bytes.ensures ∙ le_four _)))
      | else-v-ne0 w ↦ rw (w.end-is, w.tray-is) (listed_zero_next c.args.map.now c.args.at c.args.tray.now c.requires l.invariant c.loop-v-test.true _ refl w.if-v-ne0.false)
    ]
