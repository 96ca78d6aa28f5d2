use Rattle.std.proofs.Common.{◌≡◌, get_or, ap}
use Rattle.ranges.proofs.Changes.{change_in, over_more}
use Rattle.ranges.proofs.edit.alter.Goals as goal

pub loop-row-preserved : goal.loop-row-preserved
loop-row-preserved g c =
    let S = g.E.Element.shape in
    let h = change_in S (g.C.Change.alters c.args.by.now) c.args.span.from c.args.span.to in
    let x = get_or c.loop-row.rows c.loop-row.row-index c.row-item.result in
    let read : x ≡ get_or c.loop-row.rows c.loop-row.row-index x = ap (get_or c.loop-row.rows c.loop-row.row-index) c.row-item.is in
    over_more h c.args.rows.now c.loop-row.rows c.loop-row.row-index c.loop-row-test.true c.loop-row.invariant x c.changed.result read c.changed.ensures
