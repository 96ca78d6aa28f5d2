use Rattle.std.proofs.Common.{ap, ◌∙◌}
use Rattle.ranges.specs.Places.{reach}
use Rattle.ranges.proofs.Coverage.{covered_reach}
use Rattle.ranges.proofs.scan.covers.Goals as goal

pub returns : goal.returns
returns g c =
    let S = g.E.Element.shape in
    let rows = c.args.rows.now in
    covered_reach S c.args.range.first c.args.range.pages _ _ rows c.requires c.end.ensures (c.reached.ensures ∙ ap (λ q. reach S q rows) c.first.ensures)
