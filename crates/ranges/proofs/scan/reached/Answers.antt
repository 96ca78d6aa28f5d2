use Rattle.std.proofs.Common.{sym, ◌∙◌, arith}
use Rattle.ranges.proofs.Facts.{proper_facts}
use Rattle.ranges.proofs.Scans.{proper_read, reach_on, reach_same}
use Rattle.ranges.proofs.scan.reached.Goals as goal
use Rattle.ranges.proofs.scan.reached.Goals.{then-has_page, else-has_page}

pub overflow_cast-page : goal.overflow_cast-page
overflow_cast-page g c =
    let S = g.E.Element.shape in
    let ok = proper_facts S _ (proper_read S _ _ _ c.loop-row-test.true c.row-item.is 0 c.requires) in
    omega (arith, ok.within, c.end_of-page.ensures)

pub loop-row-preserved : goal.loop-row-preserved
loop-row-preserved g c =
    let S = g.E.Element.shape in
    c.loop-row.invariant ∙ elim c.if-has_page.branch [
      | then-has_page w ↦ reach_on S _ _ _ c.loop-row-test.true c.row-item.is _ _ (sym c.has_page.ensures ∙ w.if-has_page.true) (w.page-is ∙ w.end_of-page.ensures)
      | else-has_page w ↦ reach_same S _ _ _ c.loop-row-test.true c.row-item.is _ _ (sym c.has_page.ensures ∙ w.if-has_page.false) w.page-is
    ]
