use Rattle.std.proofs.Common.{rules}
use Rattle.ranges.proofs.Divides.{extra_rows}
use Rattle.ranges.proofs.edit.extra.Goals as goal

pub returns-clause-count : goal.returns-clause-count
returns-clause-count g c = extra_rows g.E.Element.shape c.args.page _ c.args.rows.now c.around.result c.requires c.around.ensures (search rules)
