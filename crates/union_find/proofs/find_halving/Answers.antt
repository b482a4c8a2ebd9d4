-- The root of an id past the end is itself, and hanging an id two steps higher changes no root.
use Rattle.std.proofs.Common.{sym, ◌∙◌, arith}
use lib.ListN.{length-set}
use Rattle.union_find.specs.Links.{parent}
use Rattle.union_find.proofs.LinkLaws.{root_own, root_up, root_past, rooted_refl, rooted_then, rehung}
use Rattle.union_find.proofs.find_halving.Goals as goal

pub returns-then-x-links : goal.returns-then-x-links
returns-then-x-links c = record { is = sym (root_past _ _ c.if-x-links.true); kept = rooted_refl _ }

pub returns-then-up-at : goal.returns-then-up-at
unfolding parent
returns-then-up-at c =
    let l = c.loop-at in
    let R = l.invariant.2 in
    record {
      is = sym (root_own l.links l.at (sym c.saturating_sub-up.ensures ∙ c.if-up-at.true)) ∙ R.roots l.at ∙ l.invariant.1;
      kept = R;
    }

pub loop-at-preserved : goal.loop-at-preserved
unfolding parent
loop-at-preserved c =
    let l = c.loop-at in
    let ls = l.links in
    let R = l.invariant.2 in
    let up = c.saturating_sub-up in
    let top = c.saturating_sub-top in
    let e = root_up ls up.result top.ensures ∙ root_up ls l.at up.ensures in (
      simp length-set (omega arith),
      sym (R.roots top.result) ∙ e ∙ R.roots l.at ∙ l.invariant.1,
      rooted_then R (rehung ls l.at top.result l.invariant.0 (omega arith) e) R.roots,
    )
