-- The length, the spare bits and the numbers, in the order of the code.
use Rattle.std.proofs.Common.{◌≡◌, ◌∙◌, true, arith, refl, sym}
use mathlib.Core.Bool.{true≢false}
use borrow.Author.Tests.{ne_eqb}
use Rattle.cells.proofs.ExtentLaws.{cells_high}
use Rattle.records.specs.Record.{bitmap_length}
use Rattle.records.proofs.BitLaws.{bits_bound}
use Rattle.reader.proofs.LoadedLaws.{or_here, or_next, damaged_length, damaged_rest}
use Rattle.reader.proofs.is_damaged.Goals.{then-bytes-at-2, else-bytes-at-2}
use Rattle.reader.proofs.is_damaged.Goals as goal

pub returns-then-bytes-at : goal.returns-then-bytes-at
unfolding bitmap_length
returns-then-bytes-at c = damaged_length _ _ {b = c.div_ceil-at.result} c.grid_cells-n.ensures refl (omega (arith, c.div_ceil-at.ensures)) (λ e. omega (arith, c.div_ceil-at.ensures))

pub count_bits-count-requires : goal.count_bits-count-requires
unfolding bitmap_length
count_bits-count-requires c = record { few = omega (arith, c.grid_cells-n.ensures, cells_high c.requires); bits = omega (arith, c.div_ceil-at.ensures) }

pub overflow_mul-count : goal.overflow_mul-count
overflow_mul-count c = omega (arith, c.grid_cells-n.ensures, cells_high c.requires, c.count_bits-count.ensures, bits_bound c.args.bytes.now c.grid_cells-n.result)

pub overflow_add-at-2 : goal.overflow_add-at-2
overflow_add-at-2 c = omega (arith, c.grid_cells-n.ensures, cells_high c.requires, c.count_bits-count.ensures, c.div_ceil-at.ensures, bits_bound c.args.bytes.now c.grid_cells-n.result)

pub spare_set-requires : goal.spare_set-requires
unfolding bitmap_length
spare_set-requires c = record { few = omega (arith, c.grid_cells-n.ensures, cells_high c.requires); bits = omega (arith, c.div_ceil-at.ensures) }

pub returns-then-spare_set : goal.returns-then-spare_set
unfolding bitmap_length
returns-then-spare_set c =
    elim c.if-bytes-at-2.branch [
      | then-bytes-at-2 w ↦ c.if-spare_set.true ∙ damaged_length _ _ c.grid_cells-n.ensures c.count_bits-count.ensures (omega (arith, c.div_ceil-at.ensures)) w.if-bytes-at-2.true
      | else-bytes-at-2 w ↦ c.if-spare_set.true ∙ or_here _ _ _ w.spare_set.ensures (sym w.value-is ∙ c.if-spare_set.true) ∙ sym (damaged_rest _ _ c.grid_cells-n.ensures c.count_bits-count.ensures (omega (arith, c.div_ceil-at.ensures)) w.if-bytes-at-2.false)
    ]

pub returns-else-spare_set : goal.returns-else-spare_set
unfolding bitmap_length
returns-else-spare_set c =
    elim c.if-bytes-at-2.branch [
      | then-bytes-at-2 w ↦
          let v : c.if-bytes-at-2.value ≡ true = w.value-is ∙ rw (ne_eqb _ _ w.if-bytes-at-2.true) in
          absurd (true≢false (sym v ∙ c.if-spare_set.false))
      | else-bytes-at-2 w ↦ or_next _ _ _ w.spare_set.ensures (sym w.value-is ∙ c.if-spare_set.false) c.zero_listed.ensures ∙ sym (damaged_rest _ _ c.grid_cells-n.ensures c.count_bits-count.ensures (omega (arith, c.div_ceil-at.ensures)) w.if-bytes-at-2.false)
    ]
