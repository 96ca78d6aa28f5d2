use Rattle.std.proofs.Common.{◌<◌, sym, subst}
use Rattle.ranges.specs.Shape.{end}
use Rattle.ranges.proofs.Scans.{proper_read}
use Rattle.ranges.proofs.Divides.{squeezing_read, squeezing_none, squeezing_some}
use Rattle.ranges.proofs.edit.squeeze.Goals as goal
use Rattle.ranges.proofs.edit.squeeze.Goals.{in-Some, in_default}

pub trim-requires : goal.trim-requires
trim-requires g c =
    let S = g.E.Element.shape in
    let x = c.index-rows-i.result in
    let read = squeezing_read S c.loop-i.invariant x c.index-rows-i.is in
    record {
      proper = proper_read S c.args.rows.now c.loop-i.i x c.loop-i-test.true read 0 c.requires.rising;
      apart = subst (λ y. S.first y < c.args.span.from → c.args.span.to < end S y → ⊥) (sym read) (c.requires.apart c.loop-i.i x c.loop-i-test.true);
    }

pub loop-i-preserved : goal.loop-i-preserved
loop-i-preserved g c =
    let S = g.E.Element.shape in
    let x = c.index-rows-i.result in
    elim c.match-trim.branch [
      | in-Some w ↦ rw (w.rows-is, w.count-is) (squeezing_some S c.loop-i.invariant x w.in-Some.part c.loop-i-test.true c.index-rows-i.is w.in-Some.ensures)
      | in_default w ↦ rw (w.rows-is, w.count-is) (squeezing_none S c.loop-i.invariant x c.loop-i-test.true c.index-rows-i.is w.in_default.ensures)
    ]
