-- No page, one more, and all.
use Rattle.std.proofs.Common.{arith, ℕ, ◌*◌, ◌∙◌, ap, sym}
use Rattle.lists.proofs.Overlay.{listed_room}
use Rattle.layer_printer.proofs.PageLaws.{pages_none, pages_next, pages_all}
use Rattle.layer_printer.proofs.put_pages.Goals as goal

pub loop-p-init : goal.loop-p-init
loop-p-init c = pages_none _ _ _ _

pub loop-p-preserved : goal.loop-p-preserved
loop-p-preserved c =
    let a = c.args in
    let r = listed_room (81 * a.h) c.page_count-p-end.result c.loop-p.p (omega arith) in
    let e = c.requires.1 ∙ ap (λ (n : ℕ). 81 * a.h * n) (sym c.page_count-p-end.ensures.0) in
    pages_next _ _ _ _ _ _ _ (omega arith) c.loop-p.invariant c.put_page.ensures

pub returns : goal.returns
returns c = pages_all _ _ _ _ _ _ c.requires.1 (omega (arith, c.page_count-p-end.ensures.0)) c.loop-p.invariant
