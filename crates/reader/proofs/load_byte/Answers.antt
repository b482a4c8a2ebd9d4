-- The place and the number of a cell.
use Rattle.std.proofs.Common.{◌≡◌, ◌∙◌, ◌+◌, ◌*◌, arith, sym}
use Rattle.records.specs.Record.{bitmap_length}
use Rattle.records.proofs.BitLaws.{bits_bound}
use Rattle.records.proofs.ReadLaws.{bit_at_byte}
use Rattle.reader.proofs.LoadedLaws.{listed_room, read_more}
use Rattle.reader.proofs.load_byte.Goals as goal

pub number_at-requires : goal.number_at-requires
number_at-requires c =
    let a = c.args in
    let l = c.loop-k in
    let b = bit_at_byte a.bytes.now a.i l.k (omega arith) in
    (omega arith, omega (arith, c.requires.0.bits), λ e. rw l.invariant.place (listed_room _ _ _ c.requires.1 (omega arith) (b ∙ e)))

pub overflow_add-next : goal.overflow_add-next
unfolding bitmap_length
overflow_add-next c = let l = c.loop-k in omega (arith, bits_bound c.args.bytes.now (8 * c.args.i + l.k), c.requires.0.few, l.invariant.place)

pub loop-k-preserved : goal.loop-k-preserved
loop-k-preserved c =
    let a = c.args in
    let l = c.loop-k in
    let e : 8 * a.i + (l.k + 1) ≡ 8 * a.i + l.k + 1 = omega arith in
    let b = bit_at_byte a.bytes.now a.i l.k (omega arith) in
    rw e (read_more _ _ _ l.invariant (omega arith) (sym b) c.number_at.ensures)
