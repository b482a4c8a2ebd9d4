-- The bits are counted.
use Rattle.std.proofs.Common.{◌≡◌, arith, rules, tests}
use Rattle.std.proofs.lemmas.Iterator.{YieldsList-from_slice, YieldsList-from_map}
use Rattle.std.proofs.lemmas.Iterator.Consumers.{sum_by_from_yields_List}
use Rattle.std.proofs.lemmas.Iterator.Adapters.{fits_from_length, at_most_from_yields_List}
use Rattle.std.specs.List.{sum_by}
use Rattle.records.specs.Record.{bit, bitmap_length}
use Rattle.writer.proofs.WriteLaws.{bits_few, listed_length}
use Rattle.writer.proofs.record_length.Goals as goal

pub sum-n-requires-clause-fits : goal.sum-n-requires-clause-fits
sum-n-requires-clause-fits c = fits_from_length _ _ 2048383 _ (at_most_from_yields_List (YieldsList-from_slice c.args.map.now cc) c.requires) c.map.ensures.closure (omega arith) (λ x r q k. search (rules, tests))

counted : (c : goal.After-div_ceil) → c.sum-n.result ≡ sum_by bit c.args.map.now
counted c = sum_by_from_yields_List bit c.args.map.now c.map.result _ c.sum-n.ensures.ran (YieldsList-from_map _ bit (YieldsList-from_slice c.args.map.now cc) c.map.ensures.closure (λ x r q k. search rules))

pub overflow_mul-result : goal.overflow_mul-result
overflow_mul-result c = omega (arith, counted c, bits_few c.args.map.now)

pub overflow_add-result-2 : goal.overflow_add-result-2
overflow_add-result-2 c = omega (arith, counted c, bits_few c.args.map.now)

pub returns : goal.returns
unfolding bitmap_length
returns c = omega (arith, listed_length c.args.map.now, counted c)
