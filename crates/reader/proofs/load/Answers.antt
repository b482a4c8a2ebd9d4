-- No number is read, and all are.
use Rattle.std.proofs.Common.{◌≡◌, arith, length}
use Rattle.records.specs.Record.{bitmap_length}
use Rattle.reader.proofs.LoadedLaws.{read_none, read_all}
use Rattle.reader.proofs.load.Goals as goal

pub loop-i-init : goal.loop-i-init
unfolding bitmap_length
loop-i-init c = let e : c.div_ceil-at.result ≡ bitmap_length (length c.args.map.now) = omega (arith, c.div_ceil-at.ensures) in rw e (read_none _ _ _)

pub returns-then-n-ne0 : goal.returns-then-n-ne0
returns-then-n-ne0 c = read_all (length c.args.map.now) _ _ (rw c.loop-i.auto.map at c.load_byte.ensures) (omega arith) (omega arith)

pub returns-else-n-ne0 : goal.returns-else-n-ne0
returns-else-n-ne0 c = read_all (length c.args.map.now) _ _ c.loop-i.invariant (omega arith) (omega arith)
