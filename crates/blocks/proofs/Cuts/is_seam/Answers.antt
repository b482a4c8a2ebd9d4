use Rattle.std.proofs.Common.{sym, ◌∙◌}
use Rattle.blocks.proofs.CodeLaws.{seam_is}
use Rattle.blocks.proofs.Cuts.is_seam.Goals as goal

pub returns-then-not-has_block : goal.returns-then-not-has_block
returns-then-not-has_block c = λ e. rw (seam_is, sym (c.has_block.ensures e) ∙ c.if-not-has_block.true)

pub returns-then-not-has_block-2 : goal.returns-then-not-has_block-2
returns-then-not-has_block-2 c =
    λ e. rw (seam_is, sym (c.has_block.ensures e) ∙ c.if-not-has_block.false, sym (c.has_block-2.ensures e) ∙ c.if-not-has_block-2.true)

pub returns : goal.returns
returns c =
    λ e. c.beside.ensures ∙ rw (
      seam_is,
      sym (c.has_block.ensures e) ∙ c.if-not-has_block.false,
      sym (c.has_block-2.ensures e) ∙ c.if-not-has_block-2.false,
      sym c.place_of.ensures,
      sym c.place_of-2.ensures,
    )
