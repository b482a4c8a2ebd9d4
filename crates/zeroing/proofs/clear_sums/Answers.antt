-- A list of one value is what a map to it makes.
use Rattle.std.proofs.Common.{length, refl, rules, ◌∙◌}
use lib.Ieee.{of_bits}
use Rattle.std.proofs.lemmas.Simd.{splat_is_map}
use Rattle.strains.specs.Units.{plus_zero}
use Rattle.zeroing.proofs.clear_sums.Goals as goal

pub returns : goal.returns
unfolding of_bits
returns c = let d = c.args.sums.now in c.fill.ensures.after (search rules) ∙ splat_is_map d (length d) plus_zero refl
