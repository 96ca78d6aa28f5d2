use Rattle.std.proofs.Common.{length, ap, ◌∙◌, arith}
use Rattle.ranges.specs.Held.{held}
use Rattle.ranges.proofs.Inserts.{inserted_length}
use Rattle.pagers.specs.Extents.{extent_shape}
use Rattle.pagers.proofs.Openings.{parted_more, parted_meaning}
use Rattle.pagers.proofs.layout.Layout.open.Goals as goal

pub loop-row-preserved : goal.loop-row-preserved
loop-row-preserved c =
    let put = c.in_ok-enter.ensures.becomes in
    record {
      pages = cc;
      size = ap length put.1 ∙ inserted_length extent_shape c.extent.result (held c.loop-row.layout.extents) ∙ omega (arith, c.loop-row.invariant.size);
      parted = parted_more _ _ _ c.in_ok-pages.table.now c.loop-row.row-index c.extent.result c.loop-row-test.true c.extent.ensures.is c.loop-row.invariant.parted _ _ c.loop-row.invariant.pages put.0 put.1 c.in_ok-enter.ensures.says;
    }

pub returns-clause-meaning : goal.returns-clause-meaning
returns-clause-meaning c =
    parted_meaning c.args.file.now c.loop-row.layout.pages _ _ c.in_ok-pages.table.now c.loop-row.row-index c.loop-row.invariant.pages (omega (arith, c.loop-row.invariant.size, c.in_ok-pages.ensures.few.0)) c.loop-row-test.false c.loop-row.invariant.parted
