-- A byte of fewer than eight numbers, and one of eight.
use Rattle.std.proofs.Common.{◌≡◌, ◌∙◌, ◌+◌, ◌-◌, ◌*◌, drop, ap, arith}
use Rattle.std.proofs.Math.Seq.{take_all}
use Rattle.std.proofs.Common.{length-drop}
use Rattle.writer.specs.Inner.{byte_of}
use Rattle.writer.proofs.WriteLaws.{byte_whole, byte_last}
use Rattle.writer.proofs.map_byte.Goals as goal

pub returns-then-map-p-lt8 : goal.returns-then-map-p-lt8
returns-then-map-p-lt8 c = c.byte_of.ensures ∙ ap byte_of (take_all _ (drop (8 * c.args.i) c.args.map.now) (simp length-drop (omega arith))) ∙ byte_last c.args.map.now c.args.i c.if-map-p-lt8.true

pub returns : goal.returns
returns c =
    let p = 8 * c.args.i in
    let e : p + 8 - p ≡ 8 = omega arith in
    c.byte_of-2.ensures ∙ rw e (byte_whole c.args.map.now c.args.i)
