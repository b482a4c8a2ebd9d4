-- The bits are counted.
use Rattle.std.proofs.Common.{ℕ, List, ◌≡◌, ◌∙◌, ◌+◌, ◌-◌, ◌*◌, arith, rules, take, drop}
use Rattle.std.proofs.lemmas.Iterator.{YieldsList-from_slice, YieldsList-from_map}
use Rattle.std.proofs.lemmas.Iterator.Consumers.{sum_by_from_yields_List, fits_by_from_yields_list}
use Rattle.std.specs.List.{sum_by}
use Rattle.records.specs.Record.{bits_before, bitmap_length}
use Rattle.records.proofs.BitLaws.{bits_bound}
use Rattle.reader.specs.Parts.{Mapped, bit_count}
use Rattle.reader.proofs.LoadedLaws.{bits_sum}
use Rattle.reader.proofs.whole_bits.Goals as goal

counted : (r : List ℕ) (w : ℕ) → Mapped r (8 * w) → sum_by bit_count (take (12 + w - 12) (drop 12 r)) ≡ bits_before r (8 * w)
unfolding bitmap_length
counted r w m =
    let e : 12 + w - 12 ≡ w = omega arith in
    rw e (bits_sum r w (omega (arith, m.bits)))

pub sum-requires-clause-fits : goal.sum-requires-clause-fits
sum-requires-clause-fits c =
    let r = c.args.bytes.now in
    fits_by_from_yields_list bit_count (take (12 + c.args.whole - 12) (drop 12 r)) c.map.result _ (YieldsList-from_map _ bit_count (YieldsList-from_slice _ cc) c.map.ensures.closure (λ x r q k. search rules))
    (omega (arith, counted r c.args.whole c.requires, bits_bound r (8 * c.args.whole), c.requires.few))

pub returns : goal.returns
returns c =
    let r = c.args.bytes.now in
    sum_by_from_yields_List bit_count (take (12 + c.args.whole - 12) (drop 12 r)) c.map.result c.sum.result c.sum.ensures.ran (YieldsList-from_map _ bit_count (YieldsList-from_slice _ cc) c.map.ensures.closure (λ x r q k. search rules))
    ∙ counted r c.args.whole c.requires
